-- What is found of a question put to a book, and what an answer says, in document 02's numbers.
use Rattle.std.specs.Prelude.{Bool, List, ◌≡◌, ℕ, ◌*◌, ◌<◌, ◌≤◌, length}
use Rattle.std.specs.Prelude.{Result as Checked}
use Rattle.base.specs.Result.{Result, map_result}
use Rattle.base.specs.Result.Result.{refused, ok}
use Rattle.roles.specs.Role.{Chain}
use Rattle.roles.specs.Rule.{Book}
use Rattle.book_header.specs.declared.Header.{Header}
use Rattle.book_decoder.specs.Verdict.{header_of}
use Rattle.refusals.specs.declared.book_query.BookQueryRefusal.{BookQueryRefusal}
use Rattle.refusals.specs.Said.{said}
use Rattle.refusals.specs.BookQueryRefusals.{book_query_cause, book_query_value}
use Rattle.book_questions.specs.ShortQuestion.{asked_book}
use Rattle.book_questions.specs.RuleTable.{Filled}

-- how many names and rules the book has, or the refusal by its number and value
abbrev pub says : Checked Header BookQueryRefusal → Result Header
says = said book_query_cause book_query_value

-- yes, no, or why a question put to a book is refused
abbrev pub BookAnswer : Type 0
BookAnswer = Checked Bool BookQueryRefusal

-- the same in document 01's numbers
abbrev pub answers : BookAnswer → Result Bool
answers = said book_query_cause book_query_value

-- the question's causes, and the lent table: the completed rules of the book that is asked among what it held, where so many numbers are lent; what it
-- held where they are not, and where the question is refused
pub record Admits (s : List ℕ) (r : ℕ) (w : Chain) (table table' : List ℕ) (a : Checked Header BookQueryRefusal) : Type 0 where
  pub answer : says a ≡ map_result header_of (asked_book s r w)
  pub kept : (cause value : ℕ) → asked_book s r w ≡ refused cause value → table' ≡ table
  pub short : (b : Book) → asked_book s r w ≡ ok b → length table < 32 * length b.rules → table' ≡ table
  pub filled : (b : Book) → asked_book s r w ≡ ok b → 32 * length b.rules ≤ length table → Filled b.rules (2 * b.names) table table'
