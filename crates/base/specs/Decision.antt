-- The answer to a question that may be refused: the first refusal met; else yes, exactly where what is asked holds.
use Rattle.std.specs.Prelude.{Bool, true, false, ◌≡◌, ℕ}
use Rattle.base.specs.Result.{Result}
use Rattle.base.specs.Result.Result.{refused, ok}

pub data Decision (checks : Result (Unit {0})) (Holds : Type 0) : Result Bool → Type 0 where
  refuses : (cause value : ℕ) → checks ≡ refused cause value → Decision checks Holds (refused cause value)
  yes : checks ≡ ok tt → Holds → Decision checks Holds (ok true)
  no : checks ≡ ok tt → (Holds → ⊥) → Decision checks Holds (ok false)
