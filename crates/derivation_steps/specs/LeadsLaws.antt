-- Laws of written derivations: steps one after another, one more step, and the bytes that steps are read from.
use Rattle.std.specs.Prelude.{true, List, [], ◌∷◌, ◌++◌, ◌≡◌, get_or, take}
use Rattle.std.proofs.Math.Path.{refl}
use Rattle.std.proofs.Common.{ap, ap₂, ◌∙◌, eq-eqb, get_or-append-add, get_or-take}
use Prim.Native.Nat.{ℕ, zero, suc, ◌+◌, ◌*◌, ◌/◌, ◌%◌, ◌<◌, ◌≤◌}
use Rattle.std.proofs.Math.Nat.{add-zero}
use Rattle.std.proofs.Math.Numerals.{add-one}
use native.Mathlib.Omega.{arith}
use Rattle.std.proofs.Math.ListN.{length, drop, length-append}
use Rattle.std.proofs.Math.Seq.{take-append_seam, drop-append-add, get_or-append_seam}
use Rattle.base.specs.Result.{demand}
use Rattle.base.specs.Result.Result.{ok}
use Rattle.base.specs.ResultLaws.{ok_injective, demand_test, demand-rest}
use Rattle.roles.specs.Role.{Chain}
use Rattle.roles.specs.RoleLaws.{same_chain_refl}
use Rattle.roles.specs.Rule.{Rule}
use Rattle.derivation_steps.specs.WrittenSteps.{step_at, possible, replaced, leads, ending, checked}
use Rattle.derivation_steps.specs.StepLaws.{possible_true}

-- a step is read from its own four bytes, wherever they stand
step_same : (s t : List ℕ) (k m : ℕ) → ((x : ℕ) → x < 4 → get_or s (4 * k + x) 0 ≡ get_or t (4 * m + x) 0) → step_at s k ≡ step_at t m
unfolding step_at
step_same s t k m h =
    let low : get_or s (4 * k) 0 ≡ get_or t (4 * m) 0 = simp add-zero at (h 0 (omega arith)) in
    λ i. record {
      place = low i + 256 * h 1 (omega arith) i;
      number = h 2 (omega arith) i;
      side = h 3 (omega arith) i;
    }

-- bytes in front, m fours of them, put off the steps by m
step-behind : (front s : List ℕ) (m k j : ℕ) → length front ≡ 4 * m → j ≡ m + k → step_at (front ++ s) j ≡ step_at s k
step-behind front s m k j h e =
    step_same (front ++ s) s j k
    (λ x _.
    let f : 4 * j + x ≡ length front + (4 * k + x) = omega arith in
    rw f (get_or-append-add front s (4 * k + x) 0))

module _ (count : ℕ) (rule : (number side : ℕ) → Rule) where
  -- steps go on from where the first ones lead
  pub leads_on : (s : List ℕ) (k a b n m : ℕ) (u v : Chain) → n ≡ b + a → m ≡ k + a → leads count rule s k a u ≡ ok v
      → leads count rule s k n u ≡ leads count rule s m b v
  unfolding leads
  leads_on s k zero b n m u v e f h =
      let e' : n ≡ b = omega arith in
      let f' : m ≡ k = omega arith in
      rw (e', f', ok_injective u v h) refl
  leads_on s k (suc a) b n m u v e f h =
      let e' : n ≡ suc (b + a) = omega arith in
      rw (e', demand_test (possible count rule (step_at s k) u) 17 k _ v h)
      (leads_on s (suc k) a b (b + a) m (replaced count rule (step_at s k) u) v refl (omega arith)
      (demand-rest (possible count rule (step_at s k) u) 17 k _ v h))

  -- steps are read from their own bytes alone
  pub leads-same : (s t : List ℕ) (k n : ℕ) (u : Chain) → ((x : ℕ) → 4 * k ≤ x → x < 4 * (k + n) → get_or s x 0 ≡ get_or t x 0)
      → leads count rule s k n u ≡ leads count rule t k n u
  unfolding leads
  leads-same s t k zero u h = refl
  leads-same s t k (suc n) u h =
      rw (step_same s t k k (λ x l. h (4 * k + x) (omega arith) (omega arith)))
      (ap (demand (possible count rule (step_at t k) u) 17 k)
      (leads-same s t (suc k) n (replaced count rule (step_at t k) u) (λ x a b. h x (omega arith) (omega arith))))

  pub leads-front : (s : List ℕ) (n : ℕ) (u : Chain) → leads count rule (take (4 * n) s) 0 n u ≡ leads count rule s 0 n u
  leads-front s n u = leads-same (take (4 * n) s) s 0 n u (λ x _ l. get_or-take (4 * n) s x 0 (omega arith))

  -- steps lead to the same chain behind other bytes, m fours of them
  pub leads-behind : (front s : List ℕ) (m k j n : ℕ) (u v : Chain) → length front ≡ 4 * m → j ≡ m + k → leads count rule s k n u ≡ ok v
      → leads count rule (front ++ s) j n u ≡ ok v
  unfolding leads
  leads-behind front s m k j zero u v h e d = d
  leads-behind front s m k j (suc n) u v h e d =
      rw (step-behind front s m k j h e, demand_test (possible count rule (step_at s k) u) 17 k _ v d)
      (leads-behind front s m (suc k) (suc j) n (replaced count rule (step_at s k) u) v h (omega arith)
      (demand-rest (possible count rule (step_at s k) u) 17 k _ v d))

  -- one step, of a rule's right role behind a front chain
  pub leads-first : (s : List ℕ) (k n : ℕ) (u : Chain) (number side : ℕ) (after : Chain) → number < count → side ≤ 1
      → length u + length (rule number side).left + length after ≤ 16
      → step_at s k ≡ record { place = length u; number = number; side = side }
      → leads count rule s k (suc n) (u ++ ((rule number side).right ∷ after)) ≡ leads count rule s (suc k) n (u ++ ((rule number side).left ++ after))
  unfolding leads replaced
  leads-first s k n u number side after listed sided short e =
      rw (
        e,
        possible_true count rule (record { place = length u; number = number; side = side }) (u ++ ((rule number side).right ∷ after))
            (record {
              inside = simp length-append (omega arith);
              listed = listed;
              side = sided;
              right = get_or-append_seam u (rule number side).right after 0;
              short = simp length-append (omega arith);
            }),
      )
      (ap (leads count rule s (suc k) n)
      (ap₂ (λ (a b : Chain). a ++ ((rule number side).left ++ b)) (take-append_seam u ((rule number side).right ∷ after)) behind))
    where
      behind : drop (suc (length u)) (u ++ ((rule number side).right ∷ after)) ≡ after
      behind = rw (← add-one (length u)) (drop-append-add u ((rule number side).right ∷ after) 1)

  -- a step in front is four bytes in front
  pub leads-before : (s : List ℕ) (n : ℕ) (u : Chain) (number side : ℕ) (after w : Chain) → number < count → side ≤ 1
      → length u + length (rule number side).left + length after ≤ 16
      → leads count rule s 0 n (u ++ ((rule number side).left ++ after)) ≡ ok w
      → leads count rule (length u ∷ 0 ∷ number ∷ side ∷ s) 0 (suc n) (u ++ ((rule number side).right ∷ after)) ≡ ok w
  unfolding step_at
  leads-before s n u number side after w listed sided short h =
      leads-first (length u ∷ 0 ∷ number ∷ side ∷ s) 0 n u number side after listed sided short
      (λ i. record { place = add-zero (length u) i; number = number; side = side })
      ∙ leads-behind (length u ∷ 0 ∷ number ∷ side ∷ []) s 1 0 1 n (u ++ ((rule number side).left ++ after)) w refl refl h

  -- one more step at the end
  pub leads-step : (s : List ℕ) (at : ℕ) (c u : Chain) (number side : ℕ) (after : Chain) → number < count → side ≤ 1
      → length u + length (rule number side).left + length after ≤ 16
      → step_at s at ≡ record { place = length u; number = number; side = side }
      → leads count rule s 0 at c ≡ ok (u ++ ((rule number side).right ∷ after))
      → leads count rule s 0 (at + 1) c ≡ ok (u ++ ((rule number side).left ++ after))
  unfolding leads
  leads-step s at c u number side after listed sided short e h =
      leads_on s 0 at 1 (at + 1) at c (u ++ ((rule number side).right ∷ after)) (omega arith) (omega arith) h
      ∙ leads-first s at 0 u number side after listed sided short e

  -- all steps of some bytes, where they lead to the chain
  pub checked-steps : (r : ℕ) (w : Chain) (s : List ℕ) (n : ℕ) → length s ≡ 4 * n → leads count rule s 0 n (r ∷ []) ≡ ok w
      → checked count rule r w s ≡ ok true
  unfolding checked ending
  checked-steps r w s n e h =
      let d : length s / 4 ≡ n = omega arith in
      rw (eq-eqb (length s % 4) 0 (omega arith), d, h, same_chain_refl w) refl
