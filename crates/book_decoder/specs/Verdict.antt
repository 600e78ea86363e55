-- What a verdict says, in document 01's numbers.
use Rattle.std.specs.Prelude.{length}
use Rattle.std.specs.Prelude.{Result as Verdict}
use Rattle.roles.specs.Rule.{Book}
use Rattle.base.specs.Result.{Result}
use Rattle.book_header.specs.declared.Header.{Header}
use Rattle.refusals.specs.declared.book.BookRefusal.{BookRefusal}
use Rattle.refusals.specs.Said.{said}
use Rattle.refusals.specs.BookRefusals.{book_cause, book_value}

-- the numbers of names and rules of a book
abbrev pub header_of : Book → Header
header_of b = record { names = b.names; rules = length b.rules }

-- a verdict: a well-formed book by its header, or a refusal by its number and value
abbrev pub says : Verdict Header BookRefusal → Result Header
says = said book_cause book_value
