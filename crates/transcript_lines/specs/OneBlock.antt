-- A block is answered in one way: what is promised of its lines and of what is left settles both.
use Rattle.std.specs.Prelude.{Bool, List, ◌++◌, ◌≡◌, refl, ℕ, ◌<◌, ◌≤◌}
use Rattle.std.proofs.Common.{sym, ap₂, ◌∙◌, arith}
use Rattle.roles.specs.Role.{Chain}
use Rattle.base.specs.Result.{Result}
use Rattle.transcript_lines.specs.Lines.{answer_line}
use Rattle.transcript_lines.specs.Transcript.{next}
use Rattle.transcript_lines.specs.Transcript.Next.{whole}
use Rattle.transcript_lines.specs.BlockLaws.{broken_whole}
use Rattle.transcript_lines.specs.Block.{Stopped, Block}
use Rattle.transcript_lines.specs.Block.Stopped.{no_question, no_room, no_number}
use Rattle.transcript_lines.specs.Block.Block.{stopped, answered}

-- where it stops, no question is answered
stops : {k room r : ℕ} {q after : List ℕ} {w : Chain} → Stopped k q room → next q ≡ whole r w after → 64 ≤ room → k < 18446744073709551615 → ⊥
stops {r = r} {q = q} {after} {w} (no_question h) e l n = broken_whole q r w after h e
stops (no_room h) e l n = omega (arith, h, l)
stops (no_number h) e l n = omega (arith, h, n)

module _ {Says : ℕ → Chain → Result Bool → Type 0} (one : (r : ℕ) (w : Chain) (a a' : Result Bool) → Says r w a → Says r w a' → a ≡ a') where
  pub block_one : {k room k' k'' : ℕ} {q lines rest lines' rest' : List ℕ} → Block Says k q room lines k' rest → Block Says k q room lines' k'' rest'
      → (lines ≡ lines') × (k' ≡ k'') × (rest ≡ rest')
  block_one (stopped h) (stopped g) = (refl, refl, refl)
  block_one (stopped h) (answered e l n s b) = absurd (stops h e l n)
  block_one (answered e l n s b) (stopped g) = absurd (stops g e l n)
  block_one (answered {k} {room} {r = r} {after = after} {w = w} {a} e l n s b) (answered {r = r'} {after = after'} {lines = lines'} {w = w'} {a = a'} e' l' n' s' b') =
      let f : whole r' w' after' ≡ whole r w after = sym e' ∙ e in
      let role : r' ≡ r = cc in
      let chain : w' ≡ w = cc in
      let rest : after' ≡ after = cc in
      let same : a ≡ a' = one r w a a' s (rw (role, chain) at s') in
      let ih = block_one b (rw (rest, ← same) at b') in
      (ap₂ (λ (x : Result Bool) (l : List ℕ). answer_line k x ++ l) same ih.0, ih.1, ih.2)
