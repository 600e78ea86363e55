-- A question of at most 16 links put to a book: causes 1 to 8, 13, 14 and 15.
use Rattle.std.specs.Prelude.{List, ℕ}
use Rattle.base.specs.Result.{Result, and_then}
use Rattle.roles.specs.Role.{Chain}
use Rattle.roles.specs.Rule.{Book}
use Rattle.book_causes.specs.Ordered.{ordered}
use Rattle.query_causes.specs.Query.{short_question}

-- causes 1 to 8, then 13, 14 and 15: the book that is asked
unfoldable pub asked_book : List ℕ → ℕ → Chain → Result Book
asked_book s r w = and_then (ordered s) (λ b. short_question b.names r w b)
