-- Causes 9 to 11, of a book and of bytes: when a book is accepted, and when it is built in lent tables of some lengths, with what a build writes there.
-- The tables, and so these causes, are those of the book that is built from.
use Rattle.std.specs.Prelude.{◌&&◌, List, ◌≡◌, ℕ, ◌*◌, leb, length}
use Rattle.roles.specs.Rule.{Book}
use Rattle.order.specs.Depth.{levels, depth}
use Rattle.tables.specs.Tables.{initial_states, transitions, state_count, numbers}
use Rattle.base.specs.Result.{Result, demand, and_then}
use Rattle.base.specs.Result.Result.{refused, ok}
use Rattle.base.specs.Writing.{over}
use Rattle.book_format.specs.Format.{decode, read}
use Rattle.book_causes.specs.Source.{sourced_book}

-- how many states and transitions the tables of a book have
abbrev pub states_of : Book → ℕ
states_of b = state_count b.names b.rules

abbrev pub count_of : Book → ℕ
count_of b = length (transitions b.names b.rules)

-- the levels of a book's names, and its depth
abbrev pub levels_of : Book → List ℕ
levels_of b = levels b.names b.rules

unfoldable pub depth_of : Book → ℕ
depth_of b = depth b.names b.rules

-- what the first line says of a book: states, transitions and depth
abbrev pub summary : Book → ℕ × (ℕ × ℕ)
summary b = (states_of b, (count_of b, depth_of b))

-- the numbers that are written: an initial state for each name, and three for each transition
abbrev pub heads_of : Book → List ℕ
heads_of b = initial_states b.names b.rules

abbrev pub moves_of : Book → List ℕ
moves_of b = numbers (transitions b.names b.rules)

-- causes 9 and 10, in this order: the tables keep the limits
unfoldable pub fitting : Book → Result Book
fitting b = demand (leb (states_of b) 2048) 9 0 (demand (leb (count_of b) 5120) 10 0 (ok b))

-- causes 7 to 10 of a book, wherever it comes from: the book that its tables are built from, where it is accepted (document 01's word)
abbrev pub accepted_book : Book → Result Book
accepted_book b = and_then (sourced_book b) fitting

-- causes 1 to 10
unfoldable pub accepted : List ℕ → Result Book
accepted s = and_then (decode s) accepted_book

-- cause 11, where tables of so many numbers are lent
abbrev pub lent : (heads moves : ℕ) → Book → Result Book
lent heads moves b = demand (leb b.names heads && leb (3 * count_of b) moves) 11 0 (ok b)

-- causes 7 to 11 of a book
abbrev pub built_book : (heads moves : ℕ) → Book → Result Book
built_book heads moves b = and_then (accepted_book b) (lent heads moves)

-- causes 1 to 11
unfoldable pub built : List ℕ → (heads moves : ℕ) → Result Book
built s heads moves = and_then (decode s) (built_book heads moves)

-- the book b as written, and the book d that its tables are built from
pub record Building (s : List ℕ) (heads moves : ℕ) (b d : Book) : Type 0 where
  pub written : read s ≡ ok b
  pub source : built s heads moves ≡ ok d

-- a number of a book; 0 where it is refused
abbrev pub count_or_none : (Book → ℕ) → Result Book → ℕ
count_or_none count (refused cause value) = 0
count_or_none count (ok b) = count b

-- what a lent table holds after the build: the new numbers and the old ones after them; the old ones alone where the build is refused
abbrev pub written : Result Book → (Book → List ℕ) → List ℕ → List ℕ
written (refused cause value) table old = old
written (ok b) table old = over (table b) old
