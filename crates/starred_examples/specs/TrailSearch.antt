-- A search that computes for pairs of a state and a place from which hops lead to a given pair, and the answer to a question by both searches: a chain
-- that a path spells is derived and so binds, and one over which no hops lead does not.
use Rattle.std.specs.Prelude.{Bool, true, false, not, cond, ◌&&◌, List, [], ◌∷◌, ◌++◌, ℕ, zero, suc, ◌+◌, eqb, length}
use Rattle.base.specs.Result.{Result, and_then}
use Rattle.base.specs.Result.Result.{refused, ok}
use Rattle.roles.specs.Role.{Chain, inv}
use Rattle.networks.specs.Network.{Link}
use Rattle.networks.specs.LaidChain.{laid}
use Rattle.tables.specs.Tables.{Transition, epsilon}
use Rattle.table_trails.specs.TableTrails.{begin, end}
use Rattle.query_causes.specs.Query.{transitions_in}
use Rattle.query_correctness.specs.TrailQuery.{short_query}
use Rattle.starred_examples.specs.Checks.{all, among_by, same_pair}
use Rattle.starred_examples.specs.PathSearch.{predecessors, head, all_found, found}

-- each link as two transitions between its places, ahead by its role and back by the inverse
unfoldable pub both_ways : List Link → List Transition
both_ways [] = []
both_ways (l ∷ ls) =
    record { from = l.from; label = l.role; to = l.to } ∷ record { from = l.to; label = inv l.role; to = l.from } ∷ both_ways ls

-- a pair is a member
abbrev pub has : List (ℕ × ℕ) → ℕ × ℕ → Bool
has = among_by same_pair

-- pairs, and others put before them that are no members
unfoldable pub add : List (ℕ × ℕ) → List (ℕ × ℕ) → List (ℕ × ℕ)
add [] ys = ys
add (x ∷ xs) ys = add xs (cond (has ys x) ys (x ∷ ys))

-- a state at each of some places
unfoldable pub at_places : ℕ → List ℕ → List (ℕ × ℕ)
at_places p [] = []
at_places p (i ∷ is) = (p, i) ∷ at_places p is

module _ (ms : List Transition) (ls : List Link) where
  -- the pairs from which a hop by the transition leads to the pair
  unfoldable pub sources : Transition → ℕ × ℕ → List (ℕ × ℕ)
  sources m x =
      cond (eqb m.to x.0)
      (at_places m.from (cond (eqb m.label epsilon) (x.1 ∷ []) (predecessors (both_ways ls) m.label (x.1 ∷ []))))
      []

  -- by any of some transitions, to any of some pairs
  unfoldable pub sources_by : List Transition → ℕ × ℕ → List (ℕ × ℕ)
  sources_by [] x = []
  sources_by (n ∷ ns) x = sources n x ++ sources_by ns x

  unfoldable pub sources_of : List (ℕ × ℕ) → List (ℕ × ℕ)
  sources_of [] = []
  sources_of (x ∷ xs) = sources_by ms x ++ sources_of xs

  -- some pairs, and those from which at most so many hops lead to one of them
  unfoldable pub with_sources : List (ℕ × ℕ) → List (ℕ × ℕ)
  with_sources xs = add (sources_of xs) xs

  unfoldable pub reaching : ℕ → List (ℕ × ℕ) → List (ℕ × ℕ)
  reaching zero xs = xs
  reaching (suc k) xs = with_sources (reaching k xs)

  -- no hop leads to one of some pairs from another one
  unfoldable pub hop_closed : List (ℕ × ℕ) → Bool
  hop_closed xs = all (λ (m : Transition). all (λ (x : ℕ × ℕ). all (has xs) (sources m x)) xs) ms

module _ (heads moves : List ℕ) (r : ℕ) (w : Chain) where
  -- some pairs have the one where hops are to end, no hop leads to one of them from another one, and they lack the one where hops are to begin
  unfoldable pub apart : List (ℕ × ℕ) → Bool
  apart xs =
      hop_closed (transitions_in moves) (laid w) xs && has xs (head heads r + 1, end r w) && not (has xs (head heads r, begin r w))

  -- no hops lead from where they are to begin to where they are to end
  unfoldable pub no_hops : Bool
  no_hops = apart (reaching (transitions_in moves) (laid w) (length (transitions_in moves)) ((head heads r + 1, end r w) ∷ []))

  -- the answer by the search for paths, after causes 12 to 15
  unfoldable pub answer : Result Bool
  answer = and_then (short_query heads moves r w) (λ _. found heads moves r w)

  -- what is said is no "no", or there are no hops
  unfoldable pub shown : Result Bool → Bool
  shown (refused c v) = true
  shown (ok true) = true
  shown (ok false) = no_hops

  -- the search for paths is exhaustive, and where it finds none there are no hops
  unfoldable pub sure : Bool
  sure = all_found heads moves r w && shown answer
