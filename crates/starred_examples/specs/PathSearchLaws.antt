-- The states found are those from which a path spells the chain: each one has such a path, and where the search is exhaustive there is no
-- other. So an answer by the search is the answer to the question.
use Rattle.std.proofs.Math.Bool.{Bool, true, false}
use Rattle.std.specs.Prelude.{cond, ◌&&◌, ◌≡◌, ltb, eqb, length}
use Rattle.std.proofs.Common.{true≢false, sym, ◌∙◌}
use mathlib.Core.List.Memᴰ
use mathlib.Core.List.{List, [], ◌∷◌, Memᴰ}
use Rattle.std.proofs.Math.Path.{refl, subst}
use Prim.Native.Nat.{ℕ, zero, suc, ◌+◌}
use borrow.Author.Tests.{ltb-true, lt-ltb, eqb-true, eq-eqb}
use Rattle.roles.specs.Role.{Chain}
use Rattle.base.specs.Truth.{and_left, and_right}
use Rattle.tables.specs.Tables.{Transition, epsilon, silent}
use Rattle.tables.specs.Path.{Path}
use Rattle.tables.specs.Path.Path.{stop, skip, read}
use Rattle.base.specs.Result.{Result, map_result}
use Rattle.base.specs.Result.Result.{refused, ok}
use Rattle.query_causes.specs.Query.{transitions_in, query, asked, Answered}
use Rattle.base.specs.Decision.Decision.{refuses, yes, no}
use Rattle.base.specs.Every.{Every, every_nil, every_cons, every_append, every_if}
use Rattle.starred_examples.specs.Checks.{all_every, among, among-member, member-among, same_answer, same_answer-sound}
use Rattle.starred_examples.specs.PathSearch.{predecessors, closure, closed, starts, exhaustive, head, all_found, found, answers}

module _ (a : ℕ) (qs : List ℕ) where
  -- what holds at the start of each transition with the label a into the states holds of their predecessors
  predecessors_every : (P : ℕ → Type 0) (ms : List Transition)
      → ((p q : ℕ) → Memᴰ (record { from = p; label = a; to = q }) ms → Memᴰ q qs → P p) → Every P (predecessors ms a qs)
  unfolding predecessors
  predecessors_every P [] law = every_nil P
  predecessors_every P (m ∷ ms) law =
      every_append P (cond (eqb m.label a && among qs m.to) (m.from ∷ []) [])
      (every_if P (eqb m.label a && among qs m.to) (λ h. every_cons P (first h) (every_nil P)))
      (predecessors_every P ms (λ p q k. law p q (Memᴰ.tail k)))
    where
      first : (eqb m.label a && among qs m.to) ≡ true → P m.from
      first h =
          let e : m.label ≡ a = eqb-true m.label a (and_left (eqb m.label a) (among qs m.to) h) in
          law m.from m.to (Memᴰ.head (rw (← e) refl)) (among-member qs m.to (and_right (eqb m.label a) (among qs m.to) h))

  pub predecessors-has : (p q : ℕ) {ms : List Transition} → Memᴰ (record { from = p; label = a; to = q }) ms → Memᴰ q qs
      → Memᴰ p (predecessors ms a qs)
  unfolding predecessors
  predecessors-has p q (Memᴰ.head e) k = rw (← e, eq-eqb a a refl, member-among k) (Memᴰ.head refl)
  predecessors-has p q (Memᴰ.tail {x = m} j) k =
      Memᴰ.append_right (cond (eqb m.label a && among qs m.to) (m.from ∷ []) []) (predecessors-has p q j k)

module _ (ms : List Transition) where
  -- what silent transitions carry backwards holds of the closure
  closure_every : (P : ℕ → Type 0) → ((p q : ℕ) → Memᴰ (silent p q) ms → P q → P p) → (k : ℕ) (qs : List ℕ)
      → Every P qs → Every P (closure ms k qs)
  unfolding closure
  closure_every P back zero qs every = every
  closure_every P back (suc k) qs every =
      every_append P qs every
      (predecessors_every epsilon (closure ms k qs) P ms (λ p q m j. back p q m (closure_every P back k qs every q j)))

  closure-has : (k : ℕ) (qs : List ℕ) (q : ℕ) → Memᴰ q qs → Memᴰ q (closure ms k qs)
  unfolding closure
  closure-has zero qs q m = m
  closure-has (suc k) qs q m = Memᴰ.append_left (predecessors ms epsilon (closure ms k qs)) m

  closed-has : (qs : List ℕ) → closed ms qs ≡ true → (p q : ℕ) → Memᴰ (silent p q) ms → Memᴰ q qs → Memᴰ p qs
  unfolding closed
  closed-has qs h p q m k =
      all_every (among qs) (λ (x : ℕ). Memᴰ x qs) (among-member qs) (predecessors ms epsilon qs) h p (predecessors-has epsilon qs p q m k)

  -- every state found has a path
  starts-path : (t : ℕ) (w : Chain) → Every (λ (p : ℕ). Path ms p w t) (starts ms t w)
  unfolding starts
  starts-path t [] =
      let P : ℕ → Type 0 = λ p. Path ms p [] t in
      closure_every P (λ p q m path. skip m path) (length ms) (t ∷ []) (every_cons P stop (every_nil P))
  starts-path t (a ∷ w) =
      let P : ℕ → Type 0 = λ p. Path ms p (a ∷ w) t in
      closure_every P (λ p q m path. skip m path) (length ms) (cond (ltb a epsilon) (predecessors ms a (starts ms t w)) [])
      (every_if P (ltb a epsilon)
      (λ h. predecessors_every a (starts ms t w) P ms (λ p q m j. read (ltb-true a epsilon h) m (starts-path t w q j))))

  starts-closed : (t : ℕ) (w : Chain) → exhaustive ms t w ≡ true → closed ms (starts ms t w) ≡ true
  unfolding exhaustive
  starts-closed t [] h = h
  starts-closed t (a ∷ w) h = and_left (closed ms (starts ms t (a ∷ w))) (exhaustive ms t w) h

  -- every state with a path is found
  path-starts : {p t : ℕ} {w : Chain} → Path ms p w t → exhaustive ms t w ≡ true → Memᴰ p (starts ms t w)
  unfolding starts exhaustive
  path-starts (stop {q}) h = closure-has (length ms) (q ∷ []) q (Memᴰ.head refl)
  path-starts (skip {p} {q} {t} {w} m path) h = closed-has (starts ms t w) (starts-closed t w h) p q m (path-starts path h)
  path-starts (read {p} {q} {t} {a} {w} b m path) h =
      closure-has (length ms) (cond (ltb a epsilon) (predecessors ms a (starts ms t w)) []) p
      (rw (lt-ltb a epsilon b)
      (predecessors-has a (starts ms t w) p q m (path-starts path (and_right (closed ms (starts ms t (a ∷ w))) (exhaustive ms t w) h))))

  -- so whether a state is found says whether it has a path
  found-path : (p t : ℕ) (w : Chain) → among (starts ms t w) p ≡ true → Path ms p w t
  found-path p t w h = starts-path t w p (among-member (starts ms t w) p h)

  not_found : (p t : ℕ) (w : Chain) → exhaustive ms t w ≡ true → among (starts ms t w) p ≡ false → Path ms p w t → ⊥
  not_found p t w h f path = true≢false (sym (member-among (path-starts path h)) ∙ f)

module _ (heads moves : List ℕ) (r : ℕ) (w : Chain) where
  abbrev ms : List Transition
  ms = transitions_in moves

  pub found-answered : all_found heads moves r w ≡ true → Answered heads moves r w (found heads moves r w)
  unfolding found
  found-answered h = by_result (query heads moves r w) refl (among (starts ms (head heads r + 1) (asked r w)) (head heads r)) refl
    where
      by_result : (x : Result (Unit {0})) → query heads moves r w ≡ x
          → (b : Bool) → among (starts ms (head heads r + 1) (asked r w)) (head heads r) ≡ b
          → Answered heads moves r w (map_result (λ (u : Unit {0}). b) x)
      by_result (refused c v) e b f = refuses c v e
      by_result (ok u) e true f = yes e (found-path ms (head heads r) (head heads r + 1) (asked r w) f)
      by_result (ok u) e false f = no e (not_found ms (head heads r) (head heads r + 1) (asked r w) h f)

  pub answers-answered : (a : Result Bool) → answers heads moves r w a ≡ true → Answered heads moves r w a
  unfolding answers
  answers-answered a h =
      let same : Bool = same_answer (found heads moves r w) a in
      let e : found heads moves r w ≡ a = same_answer-sound (found heads moves r w) a (and_right (all_found heads moves r w) same h) in
      subst (Answered heads moves r w) e (found-answered (and_left (all_found heads moves r w) same h))
