-- A search that computes for the states from which a chain leads to a given state, and the answer to a question by it.
use Rattle.std.specs.Prelude.{Bool, cond, ◌&&◌, List, [], ◌∷◌, ◌++◌, ℕ, zero, suc, ◌+◌, ltb, eqb, length, get_or}
use Rattle.roles.specs.Role.{Chain, name}
use Rattle.tables.specs.Tables.{Transition, epsilon}
use Rattle.base.specs.Result.{Result, map_result}
use Rattle.query_causes.specs.Query.{transitions_in, query, asked}
use Rattle.starred_examples.specs.Checks.{all, among, same_answer}

-- the states from which a transition with the label a leads to one of some states
unfoldable pub predecessors : List Transition → ℕ → List ℕ → List ℕ
predecessors [] a qs = []
predecessors (m ∷ ms) a qs = cond (eqb m.label a && among qs m.to) (m.from ∷ []) [] ++ predecessors ms a qs

module _ (ms : List Transition) where
  -- some states, and those from which at most so many silent transitions lead to one of them
  unfoldable pub closure : ℕ → List ℕ → List ℕ
  closure zero qs = qs
  closure (suc k) qs = qs ++ predecessors ms epsilon (closure k qs)

  -- no silent transition leads to one of some states from another one
  unfoldable pub closed : List ℕ → Bool
  closed qs = all (among qs) (predecessors ms epsilon qs)

  module _ (t : ℕ) where
    -- the states found from which the chain leads to t; between two links a path needs no silent transition twice
    unfoldable pub starts : Chain → List ℕ
    starts [] = closure (length ms) (t ∷ [])
    starts (a ∷ w) = closure (length ms) (cond (ltb a epsilon) (predecessors ms a (starts w)) [])

    -- the states found for the chain and for each end part of it are closed, so that there are no others
    unfoldable pub exhaustive : Chain → Bool
    exhaustive [] = closed (starts [])
    exhaustive (a ∷ w) = closed (starts (a ∷ w)) && exhaustive w

-- the initial state of a role's name
abbrev pub head : List ℕ → ℕ → ℕ
head heads r = get_or heads (name r) 0

module _ (heads moves : List ℕ) (r : ℕ) (w : Chain) where
  -- the search is exhaustive
  abbrev pub all_found : Bool
  all_found = exhaustive (transitions_in moves) (head heads r + 1) (asked r w)

  -- the answer by the search
  unfoldable pub found : Result Bool
  found =
      map_result (λ (u : Unit {0}). among (starts (transitions_in moves) (head heads r + 1) (asked r w)) (head heads r))
      (query heads moves r w)

  -- the search is exhaustive and gives this answer
  unfoldable pub answers : Result Bool → Bool
  answers a = all_found && same_answer found a
