-- What the first line says of a book, and the lines of answers.
use Rattle.std.specs.Prelude.{Bool, true, false, List, [], ◌∷◌, ◌++◌, ◌≡◌, ℕ, suc, ◌+◌, ◌*◌, ◌≤◌, length, take}
use Rattle.std.specs.Prelude.{Result as Answer}
use Rattle.base.specs.Result.{Result, map_result}
use Rattle.base.specs.Result.Result.{refused, ok}
use Rattle.refusals.specs.declared.build.BuildRefusal.{BuildRefusal}
use Rattle.refusals.specs.Said.{said}
use Rattle.refusals.specs.BuildRefusals.{build_cause, build_value}
use Rattle.table_limits.specs.declared.Counts.{Counts}
use Rattle.transcript_lines.specs.Lines.{answer_line}
use Rattle.query_answerer.specs.Batch.{told}
use Rattle.line_writer.specs.Puts.{Puts}

-- the numbers of states and transitions and the depth of an accepted book, or the number and the second value of a refusal
abbrev pub book_says : Bool → ℕ → ℕ → ℕ → Result (ℕ × (ℕ × ℕ))
book_says true first second third = ok (first, (second, third))
book_says false first second third = refused first second

-- the numbers of states and transitions and the depth
abbrev pub line_numbers : Counts → ℕ × (ℕ × ℕ)
line_numbers c = (c.states, (c.transitions, c.depth))

-- these numbers of an accepted book, or the number of a refusal and the value beside it
abbrev pub build_says : Answer Counts BuildRefusal → Result (ℕ × (ℕ × ℕ))
build_says build = map_result line_numbers (said build_cause build_value build)

-- the line of one question, of at most 64 bytes
pub record PutsAnswer (out : List ℕ) (at k byte : ℕ) (out' : List ℕ) (end : ℕ) : Type 0 where
  pub puts : Puts out at (answer_line k (told byte)) out' end
  pub short : end ≤ at + 64

-- the lines of questions that are answered by bytes, numbered from k on
abbrev pub answer_lines : ℕ → List ℕ → List ℕ
answer_lines k [] = []
answer_lines k (byte ∷ bytes) = answer_line k (told byte) ++ answer_lines (suc k) bytes

-- a buffer has 64 bytes from a place on for each of so many lines, and there are numbers for them from k on
abbrev pub Room : (size at k count : ℕ) → Type 0
Room size at k count = (at + 64 * count ≤ size) × (k + count ≤ 18446744073709551615)

-- whether there is room
pub record HasRoom (size at k count : ℕ) (r : Bool) : Type 0 where
  pub some : r ≡ true → Room size at k count
  pub none : r ≡ false → Room size at k count → ⊥

-- where there is room for all of the lines they are put at the place, else nothing is
pub record WritesLines (out : List ℕ) (at k : ℕ) (bytes out' : List ℕ) (end : ℕ) : Type 0 where
  pub puts : Room (length out) at k (length bytes) → Puts out at (answer_lines k bytes) out' end
  pub none : (Room (length out) at k (length bytes) → ⊥) → (out' ≡ out) × (end ≡ at)

-- the lines of the first i of these bytes are put, where there is room for all of them
pub record LinesPut (out : List ℕ) (at k : ℕ) (bytes : List ℕ) (i : ℕ) (out' : List ℕ) (end : ℕ) : Type 0 where
  pub room : Room (length out) at k (length bytes)
  pub within : i ≤ length bytes
  pub short : end ≤ at + 64 * i
  pub same : length out' ≡ length out
  pub puts : Puts out at (answer_lines k (take i bytes)) out' end
