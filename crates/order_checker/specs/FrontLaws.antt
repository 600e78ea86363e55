-- Masks of a book with fewer than 64 names: a name without a mask has none below it, so a walk over the masks alone leaves nothing out.
use Rattle.std.specs.Prelude.{List, ◌⊎◌, ◌≡◌, refl, ℕ, ◌<◌, ◌≤◌, length, get_or, take}
use Rattle.std.proofs.Common.{inl, inr, ◌∙◌, arith, length-take, get_or-take}
use Rattle.std.proofs.Math.ListN.{get_or-eq_default}
use Rattle.base.specs.Truth.{lt_or_le}
use Rattle.order.specs.Closure.{no_order}
use Rattle.name_sets.specs.Mask.{has, Holds}
use Rattle.name_sets.specs.MaskLaws.{has_zero}
use Rattle.order_masks.specs.AbsorbLaws.{grown, Absorbing}

-- the front of masks that hold no order holds none
pub holds-front : (n : ℕ) (masks : List ℕ) → Holds masks no_order → Holds (take n masks) no_order
holds-front n masks h = record { bits = λ x y p q. by_place x y p q (lt_or_le x n) }
  where
    by_place : (x y : ℕ) → x < 64 → y < 64 → (x < n) ⊎ (n ≤ x) → has (get_or (take n masks) x 0) y ≡ no_order y x
    by_place x y p q (inl l) = rw (get_or-take n masks x 0 l) (h.bits x y p q)
    by_place x y p q (inr l) = rw (get_or-eq_default (take n masks) 0 {n = x} (rw length-take (omega arith))) (has_zero y)

-- a walk past the last mask has absorbed the set, for all names
pub absorbing_past : {old : List ℕ} {right lower : ℕ} {new : List ℕ} {x : ℕ} → length old ≤ x → x ≤ 64
    → Absorbing old right lower new x → Absorbing old right lower new 64
absorbing_past {old} {right} {lower} {new} {x} p q a =
    record { size = a.size; past = λ z k. by_place z (lt_or_le z x); ahead = λ z k. a.ahead z (omega arith) }
  where
    by_place : (z : ℕ) → (z < x) ⊎ (x ≤ z) → get_or new z 0 ≡ grown right lower (get_or old z 0)
    by_place z (inl l) = a.past z l
    by_place z (inr l) = a.ahead z l ∙ rw (get_or-eq_default old 0 {n = z} (omega arith), has_zero right) refl
