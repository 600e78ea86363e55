-- What checking a written derivation of a chain from a role by a book gives: causes 1 to 8, 13 to 15 and 17, else whether its steps lead there.
use Rattle.std.specs.Prelude.{Bool, List, ℕ}
use Rattle.base.specs.Result.{Result, and_then}
use Rattle.roles.specs.Role.{Chain}
use Rattle.derivation_steps.specs.WrittenSteps.{derivation}
use Rattle.book_questions.specs.ShortQuestion.{asked_book}

unfoldable pub checked_derivation : List ℕ → ℕ → Chain → List ℕ → Result Bool
checked_derivation s r w steps = and_then (asked_book s r w) (λ b. derivation b.rules r w steps)
