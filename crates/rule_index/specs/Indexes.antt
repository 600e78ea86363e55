-- What checking and indexing a book promises.
use Rattle.std.specs.Prelude.{List, ◌≡◌, ℕ, ◌<◌, length, Ok, Err}
use Rattle.std.specs.Prelude.{Result as Answer}
use Rattle.roles.specs.Rule.{Book}
use Rattle.base.specs.Result.{Result, map_result}
use Rattle.base.specs.Result.Result.{refused, ok}
use Rattle.book_causes.specs.Accepted.{depth_of, count_or_none}
use Rattle.book_causes.specs.Ordered.{ordered}
use Rattle.book_header.specs.declared.Header.{Header}
use Rattle.book_decoder.specs.Verdict.{header_of}
use Rattle.refusals.specs.declared.book.BookRefusal.{BookRefusal}
use Rattle.refusals.specs.Said.{said}
use Rattle.refusals.specs.BookRefusals.{book_cause, book_value}
use Rattle.rule_index.specs.declared.Indexing.{Indexing}
use Rattle.rule_index.specs.RuleIndex.{Indexed, level_in}

-- what indexing says of a book: passed by its header, or refused by its number and value
abbrev pub header_said : Answer Indexing BookRefusal → Result Header
header_said r = map_result (λ (i : Indexing). i.header) (said book_cause book_value r)

-- the depth: 0 of a book that is refused
abbrev pub depth_in : Answer Indexing BookRefusal → ℕ
depth_in (Ok indexing) = indexing.depth
depth_in (Err refusal) = 0

-- causes 1 to 8; numbers that are not an index of an ordered book keep their values
pub record Indexes (s old new : List ℕ) (r : Answer Indexing BookRefusal) : Type 0 where
  pub verdict : header_said r ≡ map_result header_of (ordered s)
  pub depth : depth_in r ≡ count_or_none depth_of (ordered s)
  pub kept : (cause value : ℕ) → ordered s ≡ refused cause value → new ≡ old
  pub other : (length old ≡ 3904 → ⊥) → new ≡ old
  pub index : (b : Book) → ordered s ≡ ok b → length old ≡ 3904 → Indexed b.rules new
  pub few : (b : Book) → ordered s ≡ ok b → length old ≡ 3904 → (x : ℕ) → x < b.names → level_in new x < b.names
