-- Room for the completed rules of a book that is asked.
use Rattle.std.specs.Prelude.{List, ◌≡◌, ℕ, ◌*◌, ◌≤◌, length}
use Rattle.base.specs.Result.Result.{ok}
use Rattle.roles.specs.Role.{Chain}
use Rattle.roles.specs.Rule.{Book}
use Rattle.book_questions.specs.ShortQuestion.{asked_book}

-- so many numbers are room for them
abbrev pub Roomy : List ℕ → ℕ → Chain → ℕ → Type 0
Roomy s r w size = (b : Book) → asked_book s r w ≡ ok b → 32 * length b.rules ≤ size
