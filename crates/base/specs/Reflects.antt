-- A Boolean that says whether something holds, and one that is the answer to a test, as a negated branch leaves it.
use Rattle.std.specs.Prelude.{Bool, true, false, not, ◌≡◌, refl}
use Rattle.std.proofs.Common.{true≢false, sym, ◌∙◌}
use Rattle.std.proofs.lemmas.Bool.{false≢true, not-true, not-false}

pub record Reflects (b : Bool) (A : Type 0) : Type 0 where
  pub holds : b ≡ true → A
  pub fails : b ≡ false → A → ⊥

module _ (A : Type 0) where
  pub decides_yes : A → Reflects true A
  decides_yes a = record { holds = λ h. a; fails = λ h. absurd (true≢false h) }

  pub decides_no : (A → ⊥) → Reflects false A
  decides_no n = record { holds = λ h. absurd (false≢true h); fails = λ h. n }

-- the Boolean is true where what it says holds
pub reflected : (b : Bool) {A : Type 0} → Reflects b A → A → b ≡ true
reflected true d a = refl
reflected false d a = absurd (d.fails refl a)

module _ (b t : Bool) (answer : b ≡ t) where
  pub test_failed : not b ≡ true → t ≡ false
  test_failed h = sym answer ∙ not-true b h

  pub test_passed : not b ≡ false → t ≡ true
  test_passed h = sym answer ∙ not-false b h
