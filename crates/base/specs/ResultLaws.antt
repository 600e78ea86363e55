-- Laws of results: what a result without refusal says of the checks before it.
use Rattle.std.specs.Prelude.{Bool, true, false, ◌≡◌, refl, ℕ}
use Rattle.std.proofs.Common.{arith}
use Rattle.base.specs.Result.{Result, demand, and_then, map_result}
use Rattle.base.specs.Result.Result.{refused, ok}

module _ {A : Type 0} where
  pub refused-ok : (c v : ℕ) (a : A) → refused c v ≡ ok a → ⊥
  refused-ok c v a h = let z : ◌≡◌ {A = ℕ} 0 1 = cc in omega arith

  pub ok_injective : (a b : A) → ok a ≡ ok b → a ≡ b
  ok_injective a b h = cc

  pub and_then_assoc : {B C : Type 0} (r : Result A) (f : A → Result B) (g : B → Result C) → and_then (and_then r f) g ≡ and_then r (λ a. and_then (f a) g)
  and_then_assoc (refused c v) f g = refl
  and_then_assoc (ok a) f g = refl

  pub demand_test : (t : Bool) (c v : ℕ) (rest : Result A) (a : A) → demand t c v rest ≡ ok a → t ≡ true
  demand_test true c v rest a h = refl
  demand_test false c v rest a h = absurd (refused-ok c v a h)

  pub demand-rest : (t : Bool) (c v : ℕ) (rest : Result A) (a : A) → demand t c v rest ≡ ok a → rest ≡ ok a
  demand-rest true c v rest a h = h
  demand-rest false c v rest a h = absurd (refused-ok c v a h)

  -- what a map gives, a refusal or not, it gives of the same
  pub map_refused : {B : Type 0} (f : A → B) (r : Result A) {c v : ℕ} → refused c v ≡ map_result f r → r ≡ refused c v
  map_refused f (refused c' v') h = cc
  map_refused f (ok a) {c} {v} h = absurd (let z : ◌≡◌ {A = ℕ} 0 1 = cc in let g : ⊥ = omega arith in g)

  pub map_ok : {B : Type 0} (f : A → B) (r : Result A) {b : B} → ok b ≡ map_result f r → (a : A) × (r ≡ ok a) × (b ≡ f a)
  map_ok f (refused c v) {b} h = absurd (let z : ◌≡◌ {A = ℕ} 0 1 = cc in let g : ⊥ = omega arith in g)
  map_ok f (ok a) h = (a, refl, cc)
