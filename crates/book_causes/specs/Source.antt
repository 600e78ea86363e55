-- The book that tables are built from, apart from the book as written: the book itself where it has a regular order, and none else.
use Rattle.std.specs.Prelude.{List, ℕ}
use Rattle.roles.specs.Rule.{Book}
use Rattle.base.specs.Result.{Result, and_then}
use Rattle.book_format.specs.Format.{decode, distinct_book}
use Rattle.book_causes.specs.Ordered.{order_book}

-- the book that the tables of a book are built from, or cause 8
abbrev pub source : Book → Result Book
source b = order_book b

-- the same of a book that has not passed cause 7 yet, wherever it comes from
abbrev pub sourced_book : Book → Result Book
sourced_book b = and_then (distinct_book b) source

-- the same of bytes
unfoldable pub sourced : List ℕ → Result Book
sourced s = and_then (decode s) sourced_book
