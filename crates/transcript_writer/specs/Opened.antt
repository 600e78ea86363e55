-- What opening a book gives: its first line, and its tables as one value.
use Rattle.std.specs.Prelude.{List, ◌≡◌, ℕ, ◌*◌, take, Option, Some, None}
use Rattle.roles.specs.Rule.{Book}
use Rattle.base.specs.Result.{Result, map_result}
use Rattle.base.specs.Result.Result.{refused, ok}
use Rattle.base.specs.Writing.{over}
use Rattle.book_causes.specs.Accepted.{count_of, summary, heads_of, moves_of, built}
use Rattle.transcript_lines.specs.Lines.{first_line}
use Rattle.transcript_writer.specs.declared.opening.Tables.{Tables}
use Rattle.transcript_writer.specs.declared.opening.Opening.{Opening}
use Rattle.line_writer.specs.Puts.{Puts}

-- the numbers of tables that count
abbrev pub heads_in : Tables → List ℕ
heads_in t = take t.names t.heads

abbrev pub moves_in : Tables → List ℕ
moves_in t = take (3 * t.transitions) t.moves

-- the tables of a book, with its counts, where h and m were held; none of a refused book
abbrev pub tables_of : (h m : List ℕ) → Result Book → Option Tables
tables_of h m (ok b) = Some (record { heads = over (heads_of b) h; moves = over (moves_of b) m; names = b.names; transitions = count_of b })
tables_of h m (refused cause value) = None

-- the first line of a build in tables of the largest size that held h and m, and the tables that it leaves, with its counts, where the book is accepted
pub record Opens (s h m line line' : List ℕ) (r : Opening) : Type 0 where
  pub puts : Puts line 0 (first_line (map_result summary (built s 64 15360))) line' r.written
  pub tables : r.tables ≡ tables_of h m (built s 64 15360)
