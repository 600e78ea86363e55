-- Answering by blocks gives the lines of the joined input, whatever its blocks.
use Rattle.std.specs.Prelude.{Bool, List, [], ◌++◌, ◌⊎◌, ◌≡◌, ℕ, ◌+◌, ◌<◌, ◌≤◌, length, get_or, take, drop}
use Rattle.std.proofs.Common.{append_assoc, append-nil, inl, inr, sym, ◌∙◌, arith}
use Rattle.base.specs.Truth.{lt_or_le, eq_or_ne}
use Rattle.roles.specs.Role.{Chain}
use Rattle.roles.specs.Rule.{Book}
use Rattle.base.specs.Result.{Result}
use Rattle.base.specs.Result.Result.{ok}
use Rattle.book_causes.specs.Accepted.{summary, built}
use Rattle.book_causes.specs.AcceptedLaws.{building}
use Rattle.query_causes.specs.Input.{links_of, Whole, Broken}
use Rattle.query_correctness.specs.BindingReply.{DecidedByBinding}
use Rattle.transcript_lines.specs.Lines.{first_line, answer_line}
use Rattle.transcript_lines.specs.Transcript.{next, Transcript, Session}
use Rattle.transcript_lines.specs.Transcript.Next.{nothing, part, whole}
use Rattle.transcript_lines.specs.Transcript.Transcript.{ended, cut, answered as line}
use Rattle.transcript_lines.specs.Transcript.Session.{served}
use Rattle.transcript_lines.specs.TranscriptLaws.{next-nothing, next-whole, next-part}
use Rattle.transcript_lines.specs.OneTranscript.{nothing-whole, part-whole}
use Rattle.transcript_lines.specs.Block.{Block, Blocks, joined, ending}
use Rattle.transcript_lines.specs.Block.Stopped.{no_question, no_room, no_number}
use Rattle.transcript_lines.specs.Block.Block.{stopped, answered}
use Rattle.transcript_lines.specs.Block.Blocks.{none, more}

-- a whole question, where the input ends with it or goes on
pub next_here : (q : List ℕ) → Whole q → next q ≡ whole (get_or q 0 0) (take (links_of q) (drop 3 q)) (drop (3 + links_of q) q)
next_here q h = rw (append-nil q, append-nil (drop (3 + links_of q) q)) at (next-whole q [] h)

-- what is not whole is nothing or a part
pub broken_next : (q : List ℕ) → Broken q → (next q ≡ nothing) ⊎ (next q ≡ part)
broken_next q h = by_length (eq_or_ne (length q) 0)
  where
    by_length : (length q ≡ 0) ⊎ (length q ≡ 0 → ⊥) → (next q ≡ nothing) ⊎ (next q ≡ part)
    by_length (inl e) = inl (next-nothing q e)
    by_length (inr e) = inr (next-part q (omega arith) h)

pub broken_whole : (q : List ℕ) (r : ℕ) (w : Chain) (after : List ℕ) → Broken q → next q ≡ whole r w after → ⊥
broken_whole q r w after h e = by_next (broken_next q h)
  where
    by_next : (next q ≡ nothing) ⊎ (next q ≡ part) → ⊥
    by_next (inl f) = nothing-whole r w after (sym f ∙ e)
    by_next (inr f) = part-whole r w after (sym f ∙ e)

pub next_on : (q later : List ℕ) (r : ℕ) (w : Chain) (after : List ℕ) → next q ≡ whole r w after → next (q ++ later) ≡ whole r w (after ++ later)
next_on q later r w after e = by_length (lt_or_le (length q) (3 + links_of q))
  where
    by_length : Broken q ⊎ Whole q → next (q ++ later) ≡ whole r w (after ++ later)
    by_length (inl h) = absurd (broken_whole q r w after h e)
    by_length (inr h) =
        let f : whole r w after ≡ whole (get_or q 0 0) (take (links_of q) (drop 3 q)) (drop (3 + links_of q) q) = sym e ∙ next_here q h in
        let role : r ≡ get_or q 0 0 = cc in
        let chain : w ≡ take (links_of q) (drop 3 q) = cc in
        let rest : after ≡ drop (3 + links_of q) q = cc in
        rw (role, chain, rest) (next-whole q later h)

module _ {Says : ℕ → Chain → Result Bool → Type 0} where
  -- the lines of what follows complete those of a block
  pub block-completes : {k room k' : ℕ} {q lines rest : List ℕ} → Block Says k q room lines k' rest → (later out : List ℕ)
      → Transcript Says k' (rest ++ later) out → Transcript Says k (q ++ later) (lines ++ out)
  block-completes (stopped h) later out t = t
  block-completes (answered {k} {r = r} {q = q} {after} {lines} {w = w} {a} e h l s b) later out t =
      rw (append_assoc (answer_line k a) lines out)
      (line k (q ++ later) r w (after ++ later) a (lines ++ out) (next_on q later r w after e) s (block-completes b later out t))

  -- so do those of the last block
  pub blocks-complete : {k k' : ℕ} {kept lines kept' : List ℕ} {blocks : List (List ℕ)} → Blocks Says k kept blocks lines k' kept' → (out : List ℕ)
      → Transcript Says k' kept' out → Transcript Says k (kept ++ joined blocks) (lines ++ out)
  blocks-complete (none {kept = kept}) out t = rw (append-nil kept) t
  blocks-complete (more {kept = kept} {block} {lines} {lines' = lines'} {blocks = blocks} b bs) out t =
      rw (append_assoc lines lines' out, ← append_assoc kept block (joined blocks))
      (block-completes b (joined blocks) (lines' ++ out) (blocks-complete bs out t))

  -- what is left at the end has the last line
  pub transcript-ending : (k : ℕ) (q : List ℕ) → Broken q → Transcript Says k q (ending k q)
  transcript-ending k q h = by_next (broken_next q h)
    where
      by_next : (next q ≡ nothing) ⊎ (next q ≡ part) → Transcript Says k q (ending k q)
      by_next (inl e) = rw e (ended k q e)
      by_next (inr e) = rw e (cut k q e)

-- answers that imply others
module _ {P Q : ℕ → Chain → Result Bool → Type 0} (f : (r : ℕ) (w : Chain) (a : Result Bool) → P r w a → Q r w a) where
  block_map : {k room k' : ℕ} {q lines rest : List ℕ} → Block P k q room lines k' rest → Block Q k q room lines k' rest
  block_map (stopped h) = stopped h
  block_map (answered {r = r} {w = w} {a} e h l s b) = answered e h l (f r w a s) (block_map b)

  pub blocks_map : {k k' : ℕ} {kept lines kept' : List ℕ} {blocks : List (List ℕ)} → Blocks P k kept blocks lines k' kept'
      → Blocks Q k kept blocks lines k' kept'
  blocks_map none = none
  blocks_map (more b bs) = more (block_map b) (blocks_map bs)

-- the first line, the lines of the blocks and the last line are all that is written for the joined input
pub session-blocks : (s : List ℕ) (b : Book) → built s 64 15360 ≡ ok b → {k : ℕ} {lines kept : List ℕ} {blocks : List (List ℕ)}
    → Blocks (DecidedByBinding b) 0 [] blocks lines k kept → Broken kept
    → Session s (joined blocks) (first_line (ok (summary b)) ++ (lines ++ ending k kept))
session-blocks s b e {k} {lines} {kept} bs h =
    served b b (lines ++ ending k kept) (building s 64 15360 b e) (blocks-complete bs (ending k kept) (transcript-ending k kept h))

-- numbers go on, and a whole question with room and a number is answered
module _ {Says : ℕ → Chain → Result Bool → Type 0} where
  pub block-counts : {k room k' : ℕ} {q lines rest : List ℕ} → Block Says k q room lines k' rest → k ≤ k'
  block-counts (stopped h) = omega arith
  block-counts (answered e h l s b) = omega (arith, block-counts b)

  pub block_goes : {k room k' : ℕ} {q lines rest : List ℕ} → Block Says k q room lines k' rest → Whole q → 64 ≤ room → k < 18446744073709551615 → k < k'
  block_goes (stopped (no_question h)) w l n = absurd (let f : ⊥ = omega (arith, h, w) in f)
  block_goes (stopped (no_room h)) w l n = absurd (let f : ⊥ = omega (arith, h, l) in f)
  block_goes (stopped (no_number h)) w l n = absurd (let f : ⊥ = omega (arith, h, n) in f)
  block_goes (answered e h g s b) w l n = omega (arith, block-counts b)
