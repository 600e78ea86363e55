-- What answering the questions of a block promises.
use Rattle.std.specs.Prelude.{Bool, false, List, ◌++◌, ◌⊎◌, ◌≡◌, ℕ, ◌+◌, ◌-◌, ◌*◌, ◌<◌, ◌≤◌, length, take, drop}
use Rattle.roles.specs.Role.{Chain}
use Rattle.base.specs.Result.{Result}
use Rattle.query_causes.specs.Input.{is_whole}
use Rattle.transcript_lines.specs.Block.{Stopped, Block}
use Rattle.transcript_writer.specs.declared.block.Progress.{Progress}
use Rattle.transcript_writer.specs.declared.block.Reached.{Reached}
use Rattle.line_writer.specs.Puts.{Puts}

-- over what it is to answer a question about a role and a chain
module _ (Says : ℕ → Chain → Result Bool → Type 0) where
  -- the block of the first `end` bytes of q is answered: its lines stand at the front of the one buffer, what is not answered at
  -- the front of the other, and all else in both is as it was. `OneBlock` shows that this settles the lines and the rest
  pub record AnswersBlock (k : ℕ) (q : List ℕ) (end : ℕ) (out q' out' : List ℕ) (p : Progress) : Type 0 where
    pub lines : List ℕ
    pub rest : List ℕ
    pub block : Block Says k (take end q) (length out) lines p.number rest
    pub puts : Puts out 0 lines out' p.written
    pub keeps : Puts q 0 rest q' p.kept
    pub left : p.left ≡ is_whole rest

  -- the same, where the rest is left in its place
  pub record Advances (k : ℕ) (q out out' : List ℕ) (p : Reached) : Type 0 where
    pub lines : List ℕ
    pub block : Block Says k q (length out) lines p.number (drop p.read q)
    pub puts : Puts out 0 lines out' p.written
    pub within : p.read ≤ length q

  -- questions at the front of q are answered, and what answers the rest completes the block; there is room and there are numbers for `most` lines more,
  -- and without such the block stops here
  pub record Advanced (k : ℕ) (q out : List ℕ) (k' read written most : ℕ) (out' : List ℕ) : Type 0 where
    pub lines : List ℕ
    pub puts : Puts out 0 lines out' written
    pub same : length out' ≡ length out
    pub within : read ≤ length q
    pub completes : (lines' : List ℕ) (k'' : ℕ) (rest : List ℕ) → Block Says k' (drop read q) (length out - written) lines' k'' rest
        → Block Says k q (length out) (lines ++ lines') k'' rest
    pub few : most ≤ 1024
    pub room : 64 * most ≤ length out - written
    pub numbers : k' + most ≤ 18446744073709551615
    pub stops : most ≡ 0 → Stopped k' (drop read q) (length out - written)

-- room and numbers for so many lines; none where there is no more question, no room or no number
pub record LinesIn (more : Bool) (room k count : ℕ) : Type 0 where
  pub few : count ≤ 1024
  pub fits : 64 * count ≤ room
  pub numbers : k + count ≤ 18446744073709551615
  pub ends : more ≡ false → count ≡ 0
  pub none : count ≡ 0 → (more ≡ false) ⊎ ((room < 64) ⊎ (18446744073709551615 ≤ k))
