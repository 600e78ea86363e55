-- What a build says and writes.
use Rattle.std.specs.Prelude.{List, ◌≡◌, ℕ, ◌≤◌, length}
use Rattle.std.specs.Prelude.{Result as Outcome}
use Rattle.roles.specs.Rule.{Book}
use Rattle.base.specs.Result.{Result, map_result}
use Rattle.base.specs.Result.Result.{ok}
use Rattle.book_causes.specs.Ordered
use Rattle.rule_index.specs.declared.Indexing.{Indexing}
use Rattle.rule_index.specs.RuleIndex.{Indexed}
use Rattle.rule_index.specs.Indexes.{Indexes}
use Rattle.book_causes.specs.Accepted.{states_of, count_of, depth_of, heads_of, moves_of, built, written}
use Rattle.refusals.specs.declared.book.BookRefusal.{BookRefusal}
use Rattle.refusals.specs.declared.build.BuildRefusal.{BuildRefusal}
use Rattle.refusals.specs.Said.{said}
use Rattle.refusals.specs.BuildRefusals.{build_cause, build_value}
use Rattle.table_builder.specs.Lay.{Enough}
use Rattle.table_limits.specs.declared.Counts.{Counts}

-- the numbers of names, states and transitions of a book's tables, and its depth
abbrev pub counts_of : Book → Counts
counts_of b = record { names = b.names; states = states_of b; transitions = count_of b; depth = depth_of b }

-- a build by its counts, or a refusal by its number and value
abbrev pub says : Outcome Counts BuildRefusal → Result Counts
says = said build_cause build_value

-- the answer of causes 1 to 11 where so many heads and moves are lent
abbrev pub Answers : List ℕ → (heads moves : ℕ) → Outcome Counts BuildRefusal → Type 0
Answers s heads moves r = says r ≡ map_result counts_of (built s heads moves)

-- the numbers are what indexing a book left of as many others
abbrev pub Checked : (s ix : List ℕ) → Outcome Indexing BookRefusal → Type 0
Checked s ix i = (old : List ℕ) × (length old ≡ 3904) × Indexes s old ix i

-- an ordered book of so many names and its index, with levels below the number of names
pub record Prepared (s ix : List ℕ) (names : ℕ) : Type 0 where
  pub book : Book
  pub ordered : Ordered.ordered s ≡ ok book
  pub index : Indexed book.rules ix
  pub same : names ≡ book.names
  pub few : names ≤ 64
  pub levels : Enough ix names book.names

-- the answer is that of causes 1 to 11, and the lent tables hold what it says
pub record Builds (s : List ℕ) (h m h' m' : List ℕ) (r : Outcome Counts BuildRefusal) : Type 0 where
  pub answer : says r ≡ map_result counts_of (built s (length h) (length m))
  pub heads : h' ≡ written (built s (length h) (length m)) heads_of h
  pub moves : m' ≡ written (built s (length h) (length m)) moves_of m
