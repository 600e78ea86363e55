-- Steps as a loop goes through them: what is left from step k on; and what checking gives for what is found there.
use Rattle.std.specs.Prelude.{true, false, List, [], ◌∷◌, ◌≡◌, ℕ, suc, ◌+◌, ◌-◌, ◌/◌, ◌%◌, ◌<◌, ◌≤◌, eqb, length}
use Rattle.std.proofs.Math.Path.{refl}
use Rattle.std.proofs.Common.{ap, ◌∙◌, arith, eq-eqb, ne_eqb}
use Rattle.std.proofs.Math.Numerals.{add-one}
use Rattle.std.proofs.Math.Nat.{sub-zero, sub_self}
use Rattle.base.specs.Result.{Result, demand, map_result}
use Rattle.base.specs.Result.Result.{refused, ok}
use Rattle.roles.specs.Role.{Chain, same_chain}
use Rattle.roles.specs.Rule.{Rule}
use Rattle.derivation_steps.specs.WrittenSteps.{step_at, possible, replaced, leads, ending, checked}
use Rattle.derivation_steps.specs.StepLaws.{leads_agree}

-- n steps of s from the role r
module _ (count : ℕ) (rule : (number side : ℕ) → Rule) (s : List ℕ) (r n : ℕ) where
  abbrev pub whole : Result Chain
  whole = leads count rule s 0 n (r ∷ [])

  -- they lead where the steps from k on lead from the chain that is reached
  abbrev pub Running : ℕ → Chain → Type 0
  Running k w = whole ≡ leads count rule s k (n - k) w

  pub running-start : Running 0 (r ∷ [])
  running-start = rw sub-zero refl

  module _ (k : ℕ) (w : Chain) (l : k < n) (h : Running k w) where
    left : n - k ≡ suc (n - (k + 1))
    left = omega arith

    pub running_impossible : possible count rule (step_at s k) w ≡ false → whole ≡ refused 17 k
    unfolding leads
    running_impossible e = h ∙ rw (left, e) refl

    pub running-next : possible count rule (step_at s k) w ≡ true → (v : Chain) → v ≡ replaced count rule (step_at s k) w → Running (k + 1) v
    unfolding leads
    running-next e v f = h ∙ rw (left, e, add-one, f) refl

  pub running-end : (w : Chain) → Running n w → whole ≡ ok w
  unfolding leads
  running-end w h = h ∙ rw sub_self refl

module _ (count : ℕ) (rule : (number side : ℕ) → Rule) (s : List ℕ) (r : ℕ) (w : Chain) where
  pub checked_uneven : (length s % 4 ≡ 0 → ⊥) → checked count rule r w s ≡ refused 17 0
  unfolding checked ending
  checked_uneven h = rw (ne_eqb _ _ h) refl

  pub checked-whole : (q : Result Chain) → length s % 4 ≡ 0 → whole count rule s r (length s / 4) ≡ q
      → checked count rule r w s ≡ map_result (λ v. same_chain v w) q
  unfolding checked ending
  checked-whole q h e = rw (eq-eqb _ _ h, e) refl

-- rules that agree where steps may name them
pub checked_agree : (count : ℕ) (rule rule' : (number side : ℕ) → Rule)
    → ((number side : ℕ) → number < count → side ≤ 1 → rule number side ≡ rule' number side)
    → (r : ℕ) (w : Chain) (s : List ℕ) → checked count rule r w s ≡ checked count rule' r w s
unfolding checked ending
checked_agree count rule rule' agree r w s =
    ap (λ (q : Result Chain). map_result (λ v. same_chain v w) (demand (eqb (length s % 4) 0) 17 0 q))
    (leads_agree count rule rule' agree s 0 (length s / 4) (r ∷ []))
