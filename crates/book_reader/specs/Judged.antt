-- What the search for repeats makes of a book that passes causes 1 to 6: cause 7 by the lowest rule that repeats one before it, or a well-formed book.
use Rattle.std.specs.Prelude.{Result as Answer}
use Rattle.base.specs.Result.{Result, map_result}
use Rattle.refusals.specs.declared.book.BookRefusal.{BookRefusal}
use Rattle.refusals.specs.Said.{said}
use Rattle.refusals.specs.BookRefusals.{book_cause, book_value}
use Rattle.book_header.specs.declared.Header.{Header}

abbrev pub judged : Header → Answer (Unit {0}) BookRefusal → Result Header
judged h r = map_result (λ _. h) (said book_cause book_value r)
