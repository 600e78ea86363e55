-- Input that comes in blocks, wherever their borders fall: the whole questions of a block are answered, what is left of it is kept, and the next
-- block follows that.
use Rattle.std.specs.Prelude.{Bool, List, [], ◌∷◌, ◌++◌, ◌≡◌, ℕ, suc, ◌-◌, ◌<◌, ◌≤◌, length}
use Rattle.roles.specs.Role.{Chain}
use Rattle.base.specs.Result.{Result}
use Rattle.query_causes.specs.Input.{Broken}
use Rattle.transcript_lines.specs.Lines.{answer_line, cut_line}
use Rattle.transcript_lines.specs.Transcript.{Next, next}
use Rattle.transcript_lines.specs.Transcript.Next.{nothing, part, whole}

-- why no more questions are answered: none at the front of q is whole, or 64 bytes are not left for a line, or the number after k has more than 64 bits
pub data Stopped (k : ℕ) (q : List ℕ) (room : ℕ) : Type 0 where
  no_question : Broken q → Stopped k q room
  no_room : room < 64 → Stopped k q room
  no_number : 18446744073709551615 ≤ k → Stopped k q room

module _ (Says : ℕ → Chain → Result Bool → Type 0) where
  -- questions at the front of q, numbered from k on, are answered in a buffer with so much room, until something stops it. What is not answered is the
  -- rest, and its first question has the number k'
  pub data Block : (k : ℕ) (q : List ℕ) (room : ℕ) (lines : List ℕ) (k' : ℕ) (rest : List ℕ) → Type 0 where
    stopped : {k room : ℕ} {q : List ℕ} → Stopped k q room → Block k q room [] k q
    answered : {k room k' r : ℕ} {q after lines rest : List ℕ} {w : Chain} {a : Result Bool} → next q ≡ whole r w after → 64 ≤ room
        → k < 18446744073709551615 → Says r w a → Block (suc k) after (room - length (answer_line k a)) lines k' rest
        → Block k q room (answer_line k a ++ lines) k' rest

  -- blocks one after another, each with a room of its own; their lines, joined
  pub data Blocks : (k : ℕ) (kept : List ℕ) (blocks : List (List ℕ)) (lines : List ℕ) (k' : ℕ) (kept' : List ℕ) → Type 0 where
    none : {k : ℕ} {kept : List ℕ} → Blocks k kept [] [] k kept
    more : {k room k' k'' : ℕ} {kept block lines kept' lines' kept'' : List ℕ} {blocks : List (List ℕ)} → Block k (kept ++ block) room lines k' kept'
        → Blocks k' kept' blocks lines' k'' kept'' → Blocks k kept (block ∷ blocks) (lines ++ lines') k'' kept''

-- the blocks as one input
abbrev pub joined : List (List ℕ) → List ℕ
joined [] = []
joined (block ∷ blocks) = block ++ joined blocks

-- the last line: where the input ends inside question k, that it is cut
abbrev pub cut_off : ℕ → Next → List ℕ
cut_off k nothing = []
cut_off k part = cut_line k
cut_off k (whole r w rest) = []

abbrev pub ending : ℕ → List ℕ → List ℕ
ending k q = cut_off k (next q)
