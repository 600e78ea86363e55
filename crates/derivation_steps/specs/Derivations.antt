-- The theorem on written derivations: one that ends in the chain is a derivation of it, and every derivation of a chain of at most 16 links is some
-- written one.
use Rattle.std.specs.Prelude.{true, ◌≡◌, refl, eqb, length, get_or}
use mathlib.Core.List.{List, [], ◌∷◌, ◌++◌, Memᴰ}
use Rattle.std.proofs.Math.Path.{sym, subst}
use Rattle.std.proofs.Common.{ap, ◌∙◌, arith, length-append}
use mathlib.Mathlib.Logic.Relation.ReflTransGenᴰ
use mathlib.Mathlib.Logic.Relation.{ReflTransGenᴰ}
use Prim.Native.Nat.{ℕ, zero, suc, ◌+◌, ◌*◌, ◌/◌, ◌%◌, ◌<◌, ◌≤◌}
use Rattle.std.proofs.Math.ListN.{take, drop}
use Rattle.std.proofs.Math.Seq.{split_at}
use Rattle.base.specs.Result.Result.{ok}
use Rattle.base.specs.ResultLaws.{ok_injective, demand_test, demand-rest, map_ok}
use Rattle.roles.specs.Role.{Chain, same_chain}
use Rattle.roles.specs.RoleLaws.{same_chain-sound}
use Rattle.roles.specs.Rule.{Rule}
use Rattle.roles.specs.Derivation.{Step, Derives}
use Rattle.roles.specs.Derivation.Step.{replace}
use Rattle.derivation_steps.specs.declared.WrittenStep.{WrittenStep}
use Rattle.derivation_steps.specs.WrittenSteps.{step_at, completed, possible, replaced, leads, ending, checked, derivation}
use Rattle.derivation_steps.specs.StepLaws.{Possible, possible_facts}
use Rattle.derivation_steps.specs.NumberedLaws.{numbered, completed-member, completed-some}
use Rattle.derivation_steps.specs.LeadsLaws.{leads-before, checked-steps}

module _ (ρs : List Rule) where
  -- a possible step is a replacement
  possible-step : (t : WrittenStep) (w : Chain) → Possible (length ρs) (completed ρs) t w → Step ρs w (replaced (length ρs) (completed ρs) t w)
  unfolding replaced
  possible-step t w p =
      let ρ = completed ρs t.number t.side in
      let before = take t.place w in
      let after = drop (suc t.place) w in
      subst (λ (v : Chain). Step ρs v (before ++ (ρ.left ++ after)))
      (ap (λ (r : ℕ). before ++ r ∷ after) (sym p.right) ∙ sym (split_at w t.place 0 p.inside))
      (replace before after ρ (completed-member ρs t.number t.side p.listed))

  leads_replaces : (s : List ℕ) (k n : ℕ) (v w : Chain) → leads (length ρs) (completed ρs) s k n v ≡ ok w → ReflTransGenᴰ (Step ρs) v w
  unfolding leads
  leads_replaces s k zero v w h = subst (ReflTransGenᴰ (Step ρs) v) (ok_injective v w h) ReflTransGenᴰ.refl
  leads_replaces s k (suc n) v w h =
      let t = step_at s k in
      let test = possible (length ρs) (completed ρs) t v in
      ReflTransGenᴰ.head (possible-step t v (possible_facts (length ρs) (completed ρs) t v (demand_test test 17 k _ w h)))
      (leads_replaces s (suc k) n (replaced (length ρs) (completed ρs) t v) w (demand-rest test 17 k _ w h))

  -- a written derivation that ends in the chain is a derivation of it
  pub written-derives : (r : ℕ) (w : Chain) (s : List ℕ) → derivation ρs r w s ≡ ok true → Derives ρs r w
  unfolding derivation checked ending
  written-derives r w s h = ends (map_ok (λ (v : Chain). same_chain v w) (ending (length ρs) (completed ρs) r s) (sym h))
    where
      ends : (v : Chain) × (ending (length ρs) (completed ρs) r s ≡ ok v) × (true ≡ same_chain v w) → Derives ρs r w
      ends e =
          subst (Derives ρs r) (same_chain-sound e.0 w (sym e.2))
          (leads_replaces s 0 (length s / 4) (r ∷ []) e.0 (demand-rest (eqb (length s % 4) 0) 17 0 _ e.0 e.1))

-- bytes that are a derivation of a chain from a role
pub record Written (ρs : List Rule) (r : ℕ) (w : Chain) : Type 0 where
  pub steps : List ℕ
  pub bytes : (i : ℕ) → get_or steps i 0 < 256
  pub derives : derivation ρs r w steps ≡ ok true

-- bytes whose steps lead from one chain to another, which is not shorter
record Leading (ρs : List Rule) (v w : Chain) : Type 0 where
  steps : List ℕ
  count : ℕ
  size : length steps ≡ 4 * count
  bytes : (i : ℕ) → get_or steps i 0 < 256
  leading : leads (length ρs) (completed ρs) steps 0 count v ≡ ok w
  longer : length v ≤ length w

leading-none : (ρs : List Rule) (w : Chain) → Leading ρs w w
unfolding leads
leading-none ρs w = record { steps = []; count = 0; size = refl; bytes = λ i. omega arith; leading = refl; longer = omega arith }

four_bytes : (a b c d : ℕ) (s : List ℕ) → a < 256 → b < 256 → c < 256 → d < 256 → ((i : ℕ) → get_or s i 0 < 256)
    → (i : ℕ) → get_or (a ∷ b ∷ c ∷ d ∷ s) i 0 < 256
four_bytes a b c d s p q x y h zero = p
four_bytes a b c d s p q x y h (suc zero) = q
four_bytes a b c d s p q x y h (suc (suc zero)) = x
four_bytes a b c d s p q x y h (suc (suc (suc zero))) = y
four_bytes a b c d s p q x y h (suc (suc (suc (suc i)))) = h i

-- a rule's number is a byte, and no left side is empty, so no chain on the way is longer than the last
module _ (ρs : List Rule) (few : length ρs ≤ 256) (some : (ρ : Rule) → Memᴰ ρ ρs → 1 ≤ length ρ.left) where
  module _ (w : Chain) (short : length w ≤ 16) where
    leading_numbered : (before after : Chain) (number side : ℕ) → number < length ρs → side ≤ 1
        → Leading ρs (before ++ ((completed ρs number side).left ++ after)) w → Leading ρs (before ++ ((completed ρs number side).right ∷ after)) w
    leading_numbered before after number side listed sided l =
        let left = (completed ρs number side).left in
        let room : length before + (length left + length after) ≤ length w = simp length-append at l.longer in
        let one : 1 ≤ length left = completed-some ρs some number side listed in
        record {
          steps = length before ∷ 0 ∷ number ∷ side ∷ l.steps;
          count = suc l.count;
          size = omega (arith, l.size);
          bytes = four_bytes (length before) 0 number side l.steps (omega arith) (omega arith) (omega arith) (omega arith) l.bytes;
          leading =
              leads-before (length ρs) (completed ρs) l.steps l.count before number side after w listed sided (omega arith) l.leading;
          longer = simp length-append (omega arith);
        }

    leading_step : (v u : Chain) → Step ρs v u → Leading ρs u w → Leading ρs v w
    leading_step v u (replace before after ρ m) l =
        let k = numbered ρs ρ m in
        subst (λ (σ : Rule). Leading ρs (before ++ (σ.left ++ after)) w → Leading ρs (before ++ (σ.right ∷ after)) w) k.same
        (leading_numbered before after k.number k.side k.listed k.sided) l

  -- every derivation of a chain of at most 16 links is some written one
  pub derives-written : (r : ℕ) (w : Chain) → length w ≤ 16 → Derives ρs r w → Written ρs r w
  unfolding derivation
  derives-written r w short d =
      let l = ReflTransGenᴰ.head_induction_on d (λ v _. Leading ρs v w) (leading-none ρs w) (λ v u s _ q. leading_step w short v u s q) in
      record {
        steps = l.steps;
        bytes = l.bytes;
        derives = checked-steps (length ρs) (completed ρs) r w l.steps l.count l.size l.leading;
      }
