-- The number of each cause that refuses a question put to a book, 1 to 8 and 13 to 17, and the value returned beside it.
use Rattle.std.specs.Prelude.{ℕ}
use Rattle.refusals.specs.BookRefusals.{book_cause, book_value}
use Rattle.refusals.specs.QueryRefusals.{query_cause}
use Rattle.refusals.specs.declared.book_query.BookQueryRefusal.{BookQueryRefusal}
use Rattle.refusals.specs.declared.book_query.BookQueryRefusal.TheVariants.{Book, Question, Long, Buffer, Uneven, Impossible}

abbrev pub book_query_cause : BookQueryRefusal → ℕ
book_query_cause (Book book) = book_cause book
book_query_cause (Question question) = query_cause question
book_query_cause Long = 15
book_query_cause Buffer = 16
book_query_cause Uneven = 17
book_query_cause (Impossible step) = 17

abbrev pub book_query_value : BookQueryRefusal → ℕ
book_query_value (Book book) = book_value book
book_query_value (Question question) = 0
book_query_value Long = 0
book_query_value Buffer = 0
book_query_value Uneven = 0
book_query_value (Impossible step) = step
