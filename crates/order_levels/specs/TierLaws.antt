-- Tiers searched from the highest on for a name of a set.
use Rattle.std.specs.Prelude.{true, false, List, ◌⊎◌, ◌≡◌, refl, ℕ, ◌-◌, ◌^◌, ◌<◌, ◌≤◌, get_or}
use Rattle.std.proofs.Common.{true≢false, inl, inr, sym, ◌∙◌, arith}
use Rattle.std.specs.Int.Bits.{bit_and}
use Rattle.std.specs.Int.Count.{count_trailing_zeros}
use Rattle.base.specs.Truth.{and_left, and_right, and_intro, eq_or_ne, not_true_false}
use Rattle.name_sets.specs.Mask.{has}
use Rattle.name_sets.specs.MaskLaws.{has_zero}
use Rattle.name_sets.specs.MemberLaws.{has_and, lowest}
use Rattle.order_levels.specs.Climbing.{Meets}

-- tiers searched from the top: none so far, down to k
pub record Searched (set : ℕ) (tiers : List ℕ) (depth k : ℕ) : Type 0 where
  pub within : k ≤ depth
  pub none : (j x : ℕ) → k ≤ j → j < depth → x < 64 → has set x ≡ true → has (get_or tiers j 0) x ≡ false

module _ {set depth : ℕ} {tiers : List ℕ} where
  pub searched-start : Searched set tiers depth depth
  searched-start = record { within = omega arith; none = λ j x p q. absurd (let f : ⊥ = omega arith in f) }

  pub searched-next : {k : ℕ} → 0 < k → bit_and set (get_or tiers (k - 1) 0) ≡ 0 → Searched set tiers depth k → Searched set tiers depth (k - 1)
  searched-next {k} p e s =
      record { within = omega (arith, s.within); none = λ j x l q r h. by-tier j x l q r h (eq_or_ne j (k - 1)) }
    where
      by-tier : (j x : ℕ) → k - 1 ≤ j → j < depth → x < 64 → has set x ≡ true → (j ≡ k - 1) ⊎ (j ≡ k - 1 → ⊥) → has (get_or tiers j 0) x ≡ false
      by-tier j x l q r h (inl d) =
          rw d (not_true_false _ (λ t. true≢false (sym (has_and set (get_or tiers (k - 1) 0) x ∙ and_intro _ _ h t) ∙ rw e (has_zero x))))
      by-tier j x l q r h (inr d) = s.none j x (omega arith) q r h

  pub searched-none : {k : ℕ} → k ≤ 0 → Searched set tiers depth k → Meets set tiers depth 0
  searched-none p s = record { within = omega arith; none = λ j x l. s.none j x (omega arith); one = inl refl }

  pub searched-met : {k : ℕ} → 0 < k → (bit_and set (get_or tiers (k - 1) 0) ≡ 0 → ⊥) → bit_and set (get_or tiers (k - 1) 0) < 2 ^ 64 → Searched set tiers depth k
      → Meets set tiers depth k
  searched-met {k} p e small s =
      let m : ℕ = bit_and set (get_or tiers (k - 1) 0) in
      let low = lowest 64 m (omega arith) small in
      let x : ℕ = count_trailing_zeros 64 m in
      let both = sym (has_and set (get_or tiers (k - 1) 0) x) ∙ low.1 in
      record {
        within = s.within;
        none = s.none;
        one = inr (k - 1, x, omega arith, low.0, and_left (has set x) (has (get_or tiers (k - 1) 0) x) both, and_right (has set x) (has (get_or tiers (k - 1) 0) x) both);
      }
