-- Masks as code computes them: a bit read by a shift, the set of one name, and what some roles reach, gathered role by role.
use Rattle.std.specs.Prelude.{Bool, ◌||◌, List, ◌≡◌, refl, ℕ, suc, ◌+◌, ◌^◌, ◌<◌, ◌≤◌, eqb, length, get_or, drop}
use Rattle.std.proofs.Math.Bool.{or_assoc, or-false}
use Rattle.std.proofs.Math.Path.{sym}
use Rattle.std.proofs.Common.{ap, ◌∙◌, add-one, drop_of_length-le}
use Rattle.std.specs.Int.Bits.{bit_or}
use Rattle.std.proofs.Math.Seq.{drop-cons}
use Rattle.roles.specs.Role.{Chain, name}
use Rattle.order.specs.Closure.{reaches}
use Rattle.name_sets.specs.Mask.{has, Holds}
use Rattle.name_sets.specs.MaskLaws.{has_zero, has_or, has_single}

regroup : (a b c d : Bool) → (a || ((b || c) || d)) ≡ (((a || b) || c) || d)
regroup a b c d = sym (or_assoc a (b || c) d) ∙ ap (λ (t : Bool). t || d) (sym (or_assoc a b c))

-- what the roles reach is in the mask, or is what the roles from i on reach
pub record Reaching (masks : List ℕ) (roles : Chain) (mask i : ℕ) : Type 0 where
  pub reach : (lower : ℕ → ℕ → Bool) → Holds masks lower → (y : ℕ) → y < 64 → reaches lower roles y ≡ (has mask y || reaches lower (drop i roles) y)

module _ {masks : List ℕ} {roles : Chain} where
  pub reaching-start : Reaching masks roles 0 0
  reaching-start = record { reach = λ lower h y p. rw has_zero refl }

  -- inner is the name of role i
  pub reaching-next : {mask i inner one : ℕ} → i < length roles → inner ≡ name (get_or roles i 0) → inner < 64 → one ≡ 2 ^ inner
      → Reaching masks roles mask i → Reaching masks roles (bit_or (bit_or mask one) (get_or masks inner 0)) (i + 1)
  unfolding reaches
  reaching-next {mask} {i} {inner} {one} p e q o r =
      record {
        reach =
            λ lower h y k.
            r.reach lower h y k
            ∙ rw (add-one, drop-cons roles i 0 p, ← e, has_or (bit_or mask one), has_or mask one, o, has_single inner y, h.bits inner y q k)
            (regroup (has mask y) (eqb y inner) (lower y inner) (reaches lower (drop (suc i) roles) y));
      }

  pub reaching-end : {mask i : ℕ} → length roles ≤ i → Reaching masks roles mask i
      → (lower : ℕ → ℕ → Bool) → Holds masks lower → (y : ℕ) → y < 64 → has mask y ≡ reaches lower roles y
  unfolding reaches
  reaching-end {mask} p r lower h y k = sym (r.reach lower h y k ∙ rw (drop_of_length-le roles p) (or-false (has mask y)))
