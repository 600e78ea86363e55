-- Document 01's number of each cause that refuses a book, 1 to 8, and the value returned beside it.
use Rattle.std.specs.Prelude.{ℕ}
use Rattle.refusals.specs.declared.book.BookRefusal.{BookRefusal}
use Rattle.refusals.specs.declared.book.BookRefusal.TheVariants.{Size, Mark, Version, Range, Malformed, Undeclared, Repeated, NoOrder}

abbrev pub book_cause : BookRefusal → ℕ
book_cause Size = 1
book_cause Mark = 2
book_cause Version = 3
book_cause Range = 4
book_cause (Malformed rule) = 5
book_cause (Undeclared rule) = 6
book_cause (Repeated rule) = 7
book_cause (NoOrder rule) = 8

abbrev pub book_value : BookRefusal → ℕ
book_value Size = 0
book_value Mark = 0
book_value Version = 0
book_value Range = 0
book_value (Malformed rule) = rule
book_value (Undeclared rule) = rule
book_value (Repeated rule) = rule
book_value (NoOrder rule) = rule
