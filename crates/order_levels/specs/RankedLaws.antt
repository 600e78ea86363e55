-- Names sorted by their rank, one after another.
use Rattle.std.specs.Prelude.{Bool, true, false, ◌&&◌, ◌||◌, List, ◌⊎◌, ◌≡◌, refl, ℕ, ◌+◌, ◌^◌, ◌<◌, ◌≤◌, max, eqb, ltb, length, get_or, set, replicate}
use Rattle.std.proofs.Math.Bool.{and-false, or-false}
use Rattle.std.proofs.Common.{inl, inr, sym, ap, ◌∙◌, arith, eq-eqb, ne_eqb, lt-ltb, le-ltb, length-set, get_or-set_same, get_or-set_other}
use Rattle.std.proofs.Math.Nat.{le-max_left, le-max_right, max-le}
use Rattle.std.specs.Int.Bits.{bit_or}
use Rattle.std.proofs.lemmas.List.{length-replicate, get_or-replicate}
use Rattle.base.specs.Truth.{and_intro, or_right, eq_or_ne, lt_or_le}
use Rattle.name_sets.specs.Mask.{has}
use Rattle.name_sets.specs.MaskLaws.{has_zero, has_or, has_single}
use Rattle.order_levels.specs.Levels.{rank}
use Rattle.order_levels.specs.Climbing.{Ranked}

-- a set that got a name more: in one of many sets
module _ (sets : List ℕ) (k x : ℕ) (h : k < length sets) where
  pub joined-own : (y : ℕ) → has (get_or (set sets k (bit_or (get_or sets k 0) (2 ^ x))) k 0) y ≡ (has (get_or sets k 0) y || eqb y x)
  joined-own y =
      rw (get_or-set_same sets k (bit_or (get_or sets k 0) (2 ^ x)) 0 h, has_or (get_or sets k 0) (2 ^ x) y, has_single x y) refl

-- no name sorted yet
pub ranked-none : {masks ranks : List ℕ} → ranks ≡ replicate 65 0 → Ranked masks 0 ranks 0
ranked-none {masks} e =
    record {
      size = rw e (length-replicate {A = ℕ} 65 0);
      sets = λ c x p q. rw (e, get_or-replicate {A = ℕ} 65 c 0 0 p, has_zero x, le-ltb x 0 (omega arith)) refl;
      below = λ x p. absurd (let f : ⊥ = omega arith in f);
      few = omega arith;
    }

-- the name x is sorted, by its rank
pub ranked-next : {masks ranks : List ℕ} {x top c : ℕ} → x < 64 → c ≡ rank masks x → c < 65 → Ranked masks x ranks top
    → Ranked masks (x + 1) (set ranks c (bit_or (get_or ranks c 0) (2 ^ x))) (max top (c + 1))
ranked-next {masks} {ranks} {x} {top} {c} p e few r =
    record {
      size = length-set ranks c _ ∙ r.size;
      sets = λ d y q l. by_set d y q l (eq_or_ne d c);
      below = λ y q. by_name y q (eq_or_ne y x);
      few = max-le r.few (omega arith);
    }
  where
    more : (y : ℕ) → (y ≡ x → ⊥) → ltb y x ≡ ltb y (x + 1)
    more y n = by_order (lt_or_le y x)
      where
        by_order : (y < x) ⊎ (x ≤ y) → ltb y x ≡ ltb y (x + 1)
        by_order (inl h) = lt-ltb y x h ∙ sym (lt-ltb y (x + 1) (omega arith))
        by_order (inr h) = le-ltb y x h ∙ sym (le-ltb y (x + 1) (omega arith))

    own : ltb x (x + 1) ≡ true
    own = lt-ltb x (x + 1) (omega arith)

    by_name : (y : ℕ) → y < x + 1 → (y ≡ x) ⊎ (y ≡ x → ⊥) → rank masks y < max top (c + 1)
    by_name y q (inl d) = rw (d, ← e) (omega (arith, le-max_right top (c + 1)))
    by_name y q (inr d) = omega (arith, r.below y (omega arith), le-max_left top (c + 1))

    same : (d y : ℕ) → d < 65 → y < 64 → (y ≡ x → ⊥) → has (get_or ranks d 0) y ≡ (ltb y (x + 1) && eqb (rank masks y) d)
    same d y q l n = r.sets d y q l ∙ ap (λ (t : Bool). t && eqb (rank masks y) d) (more y n)

    -- x is in no set yet
    new : (d : ℕ) → d < 65 → has (get_or ranks d 0) x ≡ false
    new d q = r.sets d x q p ∙ rw (le-ltb x x (omega arith)) refl

    by_set : (d y : ℕ) → d < 65 → y < 64 → (d ≡ c) ⊎ (d ≡ c → ⊥)
        → has (get_or (set ranks c (bit_or (get_or ranks c 0) (2 ^ x))) d 0) y ≡ (ltb y (x + 1) && eqb (rank masks y) d)
    by_set d y q l (inl i) = rw i (joined-own ranks c x (omega (arith, r.size)) y ∙ by_name' (eq_or_ne y x))
      where
        by_name' : (y ≡ x) ⊎ (y ≡ x → ⊥) → (has (get_or ranks c 0) y || eqb y x) ≡ (ltb y (x + 1) && eqb (rank masks y) c)
        by_name' (inl n) = or_right (has (get_or ranks c 0) y) (eqb y x) (eq-eqb y x n) ∙ sym (and_intro (ltb y (x + 1)) (eqb (rank masks y) c) (rw n own) (eq-eqb (rank masks y) c (rw n (sym e))))
        by_name' (inr n) = rw (ne_eqb y x n, or-false) (same c y few l n)
    by_set d y q l (inr i) = rw (get_or-set_other ranks c d _ 0 i) (by_name' (eq_or_ne y x))
      where
        by_name' : (y ≡ x) ⊎ (y ≡ x → ⊥) → has (get_or ranks d 0) y ≡ (ltb y (x + 1) && eqb (rank masks y) d)
        by_name' (inl n) = rw (n, new d q, ← e, ne_eqb c d (λ z. i (sym z)), and-false) refl
        by_name' (inr n) = same d y q l n
