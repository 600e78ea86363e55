-- Laws of a written step: what it says that it is possible, and that rules which agree where steps may name them lead to the same chain.
use Rattle.std.specs.Prelude.{Bool, ◌&&◌, List, ◌≡◌, leb, ltb, eqb, get_or}
use Rattle.std.proofs.Math.Bool.{true, false}
use Rattle.std.proofs.lemmas.Bool.{false≢true}
use Rattle.std.proofs.Math.Path.{refl, ap}
use Rattle.std.proofs.Common.{sym, ◌∙◌}
use Prim.Native.Nat.{ℕ, zero, suc, ◌+◌, ◌<◌, ◌≤◌}
use borrow.Author.Tests.{ltb-true, leb-true, eqb-true, lt-ltb, le-leb, eq-eqb}
use Rattle.std.proofs.Math.ListN.{length}
use Rattle.base.specs.Result.{Result, demand}
use Rattle.base.specs.Truth.{not_true_false}
use Rattle.roles.specs.Role.{Chain}
use Rattle.roles.specs.Rule.{Rule}
use Rattle.derivation_steps.specs.declared.WrittenStep.{WrittenStep}
use Rattle.derivation_steps.specs.WrittenSteps.{step_at, used, possible, replaced, leads}

module _ (count : ℕ) (rule : (number side : ℕ) → Rule) where
  -- the five tests of a step on a chain
  pub record Possible (t : WrittenStep) (w : Chain) : Type 0 where
    pub inside : t.place < length w
    pub listed : t.number < count
    pub side : t.side ≤ 1
    pub right : get_or w t.place 0 ≡ (used count rule t).right
    pub short : length w + length (used count rule t).left ≤ 17

  pub possible_facts : (t : WrittenStep) (w : Chain) → possible count rule t w ≡ true → Possible t w
  unfolding possible
  possible_facts t w h =
      facts (ltb t.place (length w)) (ltb t.number count) (leb t.side 1) (eqb (get_or w t.place 0) (used count rule t).right)
      (leb (length w + length (used count rule t).left) 17) h
      (λ a b c d e. record { inside = ltb-true _ _ a; listed = ltb-true _ _ b; side = leb-true _ _ c; right = eqb-true _ _ d; short = leb-true _ _ e })
    where
      facts : (a b c d e : Bool) → (a && b && c && d && e) ≡ true → (a ≡ true → b ≡ true → c ≡ true → d ≡ true → e ≡ true → Possible t w)
          → Possible t w
      facts true true true true true h f = f refl refl refl refl refl
      facts true true true true false h f = absurd (false≢true h)
      facts true true true false e h f = absurd (false≢true h)
      facts true true false d e h f = absurd (false≢true h)
      facts true false c d e h f = absurd (false≢true h)
      facts false b c d e h f = absurd (false≢true h)

  pub possible_true : (t : WrittenStep) (w : Chain) → Possible t w → possible count rule t w ≡ true
  unfolding possible
  possible_true t w p =
      rw (lt-ltb _ _ p.inside, lt-ltb _ _ p.listed, le-leb _ _ p.side, eq-eqb _ _ p.right, le-leb _ _ p.short) refl

  pub possible_false : (t : WrittenStep) (w : Chain) → (Possible t w → ⊥) → possible count rule t w ≡ false
  possible_false t w h = not_true_false (possible count rule t w) (λ e. h (possible_facts t w e))

-- where two ways to number rules agree on the numbers below the count and the sides 0 and 1, what is possible by one is so by the other
possible_agree : (count : ℕ) (rule rule' : (number side : ℕ) → Rule)
    → ((number side : ℕ) → number < count → side ≤ 1 → rule number side ≡ rule' number side)
    → (t : WrittenStep) (w : Chain) → possible count rule t w ≡ true → possible count rule' t w ≡ true
possible_agree count rule rule' agree t w h =
    let p = possible_facts count rule t w h in
    let e : rule t.number t.side ≡ rule' t.number t.side = agree t.number t.side p.listed p.side in
    possible_true count rule' t w
    (record { inside = p.inside; listed = p.listed; side = p.side; right = rw (← e) p.right; short = rw (← e) p.short })

module _
    (count : ℕ)
    (rule rule' : (number side : ℕ) → Rule)
    (agree : (number side : ℕ) → number < count → side ≤ 1 → rule number side ≡ rule' number side)
  where
    replaced_agree : (t : WrittenStep) (w : Chain) → possible count rule t w ≡ true → replaced count rule t w ≡ replaced count rule' t w
    unfolding replaced
    replaced_agree t w h = let p = possible_facts count rule t w h in rw (agree t.number t.side p.listed p.side) refl

    demand_agree : (t : WrittenStep) (w : Chain) (k : ℕ) (rest rest' : Result Chain) → (possible count rule t w ≡ true → rest ≡ rest')
        → demand (possible count rule t w) 17 k rest ≡ demand (possible count rule' t w) 17 k rest'
    demand_agree t w k rest rest' h = by_tests (possible count rule t w) (possible count rule' t w) refl refl
      where
        by_tests : (a b : Bool) → possible count rule t w ≡ a → possible count rule' t w ≡ b → demand a 17 k rest ≡ demand b 17 k rest'
        by_tests true true p q = h p
        by_tests false false p q = refl
        by_tests true false p q = absurd (false≢true (sym q ∙ possible_agree count rule rule' agree t w p))
        by_tests false true p q = absurd (false≢true (sym p ∙ possible_agree count rule' rule (λ n side l m. sym (agree n side l m)) t w q))

    -- so steps lead to the same chain, or the same one is impossible
    pub leads_agree : (s : List ℕ) (k left : ℕ) (w : Chain) → leads count rule s k left w ≡ leads count rule' s k left w
    unfolding leads
    leads_agree s k zero w = refl
    leads_agree s k (suc left) w =
        demand_agree (step_at s k) w k _ _
        (λ p. leads_agree s (suc k) left (replaced count rule (step_at s k) w)
        ∙ ap (leads count rule' s (suc k) left) (replaced_agree (step_at s k) w p))
