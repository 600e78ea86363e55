-- What the program can say of its run: how the blocks that it has read are answered, and why it stops.
use Rattle.std.specs.Prelude.{Bool, true, false, List, [], ◌⊎◌, ◌≡◌, ℕ, ◌+◌, ◌<◌, ◌≤◌, length, take}
use Rattle.roles.specs.Role.{Chain}
use Rattle.roles.specs.Rule.{Book}
use Rattle.base.specs.Result.{Result}
use Rattle.base.specs.Result.Result.{refused}
use Rattle.book_causes.specs.Accepted.{built, Building}
use Rattle.query_causes.specs.Input.{Broken, is_whole}
use Rattle.query_correctness.specs.BindingReply.{DecidedByBinding}
use Rattle.transcript_lines.specs.Block.{Blocks, joined}
use Rattle.program.specs.declared.Stop.{Stop}
use Rattle.program.specs.declared.Stop.TheVariants.{Refused, Ended, Unwritten, Exhausted}

-- the blocks that were read are answered, up to a question k whose bytes are kept; `left` says whether these are a whole question, and `turns` blocks more
-- may be read. Each block has a byte or a question is answered with it
pub record Serving (Says : ℕ → Chain → Result Bool → Type 0) (k : ℕ) (kept : List ℕ) (left : Bool) (turns : ℕ) : Type 0 where
  pub blocks : List (List ℕ)
  pub lines : List ℕ
  pub answered : Blocks Says 0 [] blocks lines k kept
  pub whole : left ≡ is_whole kept
  pub counted : 18446744073709551615 ≤ length (joined blocks) + k + turns

-- why no more blocks are read. At the end of the input no whole question is left, so the last line is that of what is kept; else 2^64 - 1 bytes are read
-- and questions answered
pub data Served (Says : ℕ → Chain → Result Bool → Type 0) : Stop → Type 0 where
  ended : {k : ℕ} {kept lines : List ℕ} {blocks : List (List ℕ)} → Blocks Says 0 [] blocks lines k kept → Broken kept → Served Says Ended
  exhausted : {k : ℕ} {kept lines : List ℕ} {blocks : List (List ℕ)} → Blocks Says 0 [] blocks lines k kept
      → 18446744073709551615 ≤ length (joined blocks) + k → Served Says Exhausted
  unwritten : Served Says Unwritten

-- why the program stops
pub data Ran : Stop → Type 0 where
  refuses : (s : List ℕ) (cause value : ℕ) → built s 64 15360 ≡ refused cause value → Ran Refused
  opened : {r : Stop} (s : List ℕ) (b d : Book) → Building s 64 15360 b d → Served (DecidedByBinding b) r → Ran r
  unwritten : Ran Unwritten

-- one read after the bytes that are kept, which stay: the bytes in the buffer then end at r. Where a whole question is left, nothing is read
pub record Reads (left : Bool) (kept : ℕ) (q q' : List ℕ) (r : ℕ) : Type 0 where
  pub same : length q' ≡ length q
  pub front : take kept q' ≡ take kept q
  pub after : kept ≤ r
  pub within : r ≤ length q'
  pub still : left ≡ true → r ≡ kept

-- whether the input has ended: no whole question is left, and nothing was read
pub record Ends (kept end : ℕ) (left r : Bool) : Type 0 where
  pub over : r ≡ true → (left ≡ false) × (end ≤ kept)
  pub more : r ≡ false → (left ≡ true) ⊎ (kept < end)
