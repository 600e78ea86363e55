-- Where the searches are sure, the answer is that of the book, by what binds.
use Rattle.std.proofs.Math.Bool.{Bool, true, not, false≢true}
use Rattle.std.specs.Prelude.{false, ◌&&◌, ◌≡◌}
use mathlib.Core.List.{List, [], ◌∷◌, Memᴰ}
use Rattle.std.proofs.Math.Path.{refl}
use Rattle.std.proofs.Common.{ap, arith}
use Prim.Native.Nat.{ℕ, ◌+◌, ◌<◌}
use borrow.Author.Tests.{eq-eqb, ne_eqb}
use Rattle.base.specs.Truth.{and_left, and_right}
use Rattle.base.specs.Decision.Decision.{refuses, yes, no}
use Rattle.base.specs.Result.{Result, and_then}
use Rattle.base.specs.Result.Result.{refused, ok}
use Rattle.roles.specs.Role.{Chain, inv}
use Rattle.roles.specs.Rule.{Book}
use Rattle.networks.specs.Network.{Link}
use Rattle.networks.specs.ForcedLaws.{forced_entailed}
use Rattle.networks.specs.LaidChain.{laid}
use Rattle.networks.specs.BindsLaws.{derived-forced, entailed_binds}
use Rattle.tables.specs.Tables.{Transition, epsilon, silent}
use Rattle.table_trails.specs.TableTrails.{Hop, Leads, begin, end, TablesBind}
use Rattle.table_trails.specs.TableTrails.Hop.{quiet, ahead, back}
use Rattle.table_trails.specs.TableTrails.Leads.{stop, hop}
use Rattle.book_causes.specs.Accepted.{heads_of, moves_of, built}
use Rattle.query_causes.specs.Query.{transitions_in, short_chain, Answered}
use Rattle.query_correctness.specs.Reply.{Decided}
use Rattle.query_correctness.specs.ReplyLaws.{decided}
use Rattle.query_correctness.specs.TrailQuery.{short_query}
use Rattle.query_correctness.specs.BindingReply.{DecidedByBinding}
use Rattle.query_correctness.specs.BindingReplyLaws.{short, decided_by-binding}
use Rattle.starred_examples.specs.Checks.{all, all_every, among_by-member, same_pair, same_pair-sound}
use Rattle.starred_examples.specs.PathSearch.{head, all_found, found}
use Rattle.starred_examples.specs.PathSearchLaws.{predecessors-has, found-answered}
use Rattle.starred_examples.specs.TrailSearch.{both_ways, has, at_places, sources, hop_closed, apart, no_hops, answer, shown, sure}

both_ways-ahead : {l : Link} {ls : List Link} → Memᴰ l ls → Memᴰ (record { from = l.from; label = l.role; to = l.to }) (both_ways ls)
unfolding both_ways
both_ways-ahead (Memᴰ.head e) = rw e (Memᴰ.head refl)
both_ways-ahead (Memᴰ.tail m) = Memᴰ.tail (Memᴰ.tail (both_ways-ahead m))

both_ways-back : {l : Link} {ls : List Link} → Memᴰ l ls → Memᴰ (record { from = l.to; label = inv l.role; to = l.from }) (both_ways ls)
unfolding both_ways
both_ways-back (Memᴰ.head e) = rw e (Memᴰ.tail (Memᴰ.head refl))
both_ways-back (Memᴰ.tail m) = Memᴰ.tail (Memᴰ.tail (both_ways-back m))

has-member : (xs : List (ℕ × ℕ)) (x : ℕ × ℕ) → has xs x ≡ true → Memᴰ x xs
has-member = among_by-member same_pair same_pair-sound

at_places-has : (p : ℕ) {i : ℕ} {is : List ℕ} → Memᴰ i is → Memᴰ (p, i) (at_places p is)
unfolding at_places
at_places-has p (Memᴰ.head e) = Memᴰ.head (ap (λ (j : ℕ). (p, j)) e)
at_places-has p (Memᴰ.tail m) = Memᴰ.tail (at_places-has p m)

module _ (ms : List Transition) (ls : List Link) where
  -- the start of a hop is among the sources of its end
  sources-quiet : (p i q : ℕ) → Memᴰ (p, i) (sources ms ls (silent p q) (q, i))
  unfolding sources
  sources-quiet p i q = rw (eq-eqb q q refl) (at_places-has p (Memᴰ.head refl))

  sources-letter : (p i q k a : ℕ) → a < epsilon → Memᴰ (record { from = i; label = a; to = k }) (both_ways ls)
      → Memᴰ (p, i) (sources ms ls (record { from = p; label = a; to = q }) (q, k))
  unfolding sources
  sources-letter p i q k a l m =
      rw (eq-eqb q q refl, ne_eqb a epsilon (λ e. omega (arith, l, e)))
      (at_places-has p (predecessors-has a (k ∷ []) i k m (Memᴰ.head refl)))

  module _ (xs : List (ℕ × ℕ)) (closed : hop_closed ms ls xs ≡ true) where
    closed-has : (m : Transition) → Memᴰ m ms → (x y : ℕ × ℕ) → has xs x ≡ true → Memᴰ y (sources ms ls m x) → has xs y ≡ true
    unfolding hop_closed
    closed-has m j x y h k =
        let at_pair : (m : Transition) → ℕ × ℕ → Bool = λ m x. all (has xs) (sources ms ls m x) in
        let by-transition = all_every (λ (m : Transition). all (at_pair m) xs) (λ (m : Transition). all (at_pair m) xs ≡ true) (λ m e. e) ms closed m j in
        let by-pair = all_every (at_pair m) (λ (x : ℕ × ℕ). at_pair m x ≡ true) (λ x e. e) xs by-transition x (has-member xs x h) in
        all_every (has xs) (λ (y : ℕ × ℕ). has xs y ≡ true) (λ y e. e) (sources ms ls m x) by-pair y k

    hop-has : {p i q k : ℕ} → Hop ms ls p i q k → has xs (q, k) ≡ true → has xs (p, i) ≡ true
    hop-has (quiet {p} {i} {q} m) h = closed-has (silent p q) m (q, i) (p, i) h (sources-quiet p i q)
    hop-has (ahead {p} {q} l j s m) h =
        closed-has (record { from = p; label = l.role; to = q }) m (q, l.to) (p, l.from) h
        (sources-letter p l.from q l.to l.role s (both_ways-ahead j))
    hop-has (back {p} {q} l j s m) h =
        closed-has (record { from = p; label = inv l.role; to = q }) m (q, l.from) (p, l.to) h
        (sources-letter p l.to q l.from (inv l.role) s (both_ways-back j))

    leads-has : {t j p i : ℕ} → Leads ms ls t j p i → has xs (t, j) ≡ true → has xs (p, i) ≡ true
    leads-has stop h = h
    leads-has (hop s t) h = hop-has s (leads-has t h)

module _ (heads moves : List ℕ) (r : ℕ) (w : Chain) where
  apart_none : (xs : List (ℕ × ℕ)) → apart heads moves r w xs ≡ true → TablesBind heads (transitions_in moves) r w → ⊥
  unfolding apart
  apart_none xs h t =
      let closed : Bool = hop_closed (transitions_in moves) (laid w) xs in
      let target : Bool = has xs (head heads r + 1, end r w) in
      let lacks : Bool = not (has xs (head heads r, begin r w)) in
      let both : (closed && target) ≡ true = and_left (closed && target) lacks h in
      let start : has xs (head heads r, begin r w) ≡ true =
      leads-has (transitions_in moves) (laid w) xs (and_left closed target both) t (and_right closed target both) in
      false≢true (rw start at (and_right (closed && target) lacks h))

  no_hops-none : no_hops heads moves r w ≡ true → TablesBind heads (transitions_in moves) r w → ⊥
  unfolding no_hops
  no_hops-none = apart_none _

module _ (s : List ℕ) (heads moves : ℕ) (b : Book) (e : built s heads moves ≡ ok b) (r : ℕ) (w : Chain) where
  abbrev hs : List ℕ
  hs = heads_of b

  abbrev ns : List ℕ
  ns = moves_of b

  -- a derived chain binds
  derived : short_query hs ns r w ≡ ok tt → Decided b r w (ok true) → DecidedByBinding b r w (ok true)
  derived h (yes q d) =
      yes (short s heads moves b e r w h)
      (entailed_binds b.rules r w (forced_entailed b.rules (laid w) (derived-forced b.rules r w d)))

  pub sure_decided : sure hs ns r w ≡ true → DecidedByBinding b r w (answer hs ns r w)
  unfolding sure answer shown
  sure_decided h = by_checks (short_query hs ns r w) refl (and_right (all_found hs ns r w) _ h)
    where
      by-path : (a : Result Bool) → short_query hs ns r w ≡ ok tt → Answered hs ns r w a → shown hs ns r w a ≡ true → DecidedByBinding b r w a
      by-path _ f (refuses c v q) t =
          decided_by-binding s heads moves b e r w (refused c v)
          (refuses c v (ap (λ (x : Result (Unit {0})). and_then x (λ _. short_chain w tt)) q))
      by-path _ f (yes q path) t = derived f (decided s heads moves b e r w (ok true) (yes q path))
      by-path _ f (no q none) t = decided_by-binding s heads moves b e r w (ok false) (no f (no_hops-none hs ns r w t))

      by_checks : (x : Result (Unit {0})) → short_query hs ns r w ≡ x → shown hs ns r w (and_then x (λ _. found hs ns r w)) ≡ true
          → DecidedByBinding b r w (and_then x (λ _. found hs ns r w))
      by_checks (refused c v) f t = decided_by-binding s heads moves b e r w (refused c v) (refuses c v f)
      by_checks (ok tt) f t = by-path (found hs ns r w) f (found-answered hs ns r w (and_left (all_found hs ns r w) _ h)) t
