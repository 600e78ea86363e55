-- The calls of the program, one after another, write what documents 01 and 02 lay down, wherever the borders of the blocks fall: the line of the opening, the
-- lines of each block, and the last line of what is left when the input ends.
use Rattle.std.specs.Prelude.{List, [], ◌++◌, ◌≡◌, refl, ℕ, take, Some, None}
use Rattle.std.proofs.Common.{sym, ap, ◌∙◌}
use Rattle.std.proofs.lemmas.Option.{none-some}
use Rattle.roles.specs.Rule.{Book}
use Rattle.base.specs.Result.{Result, map_result}
use Rattle.base.specs.Result.Result.{refused, ok}
use Rattle.book_causes.specs.Accepted.{summary, built}
use Rattle.query_causes.specs.Input.{Broken}
use Rattle.query_correctness.specs.TrailQuery.{AnsweredByTrails}
use Rattle.query_correctness.specs.BindingReply.{DecidedByBinding}
use Rattle.query_correctness.specs.BindingReplyLaws.{decided_by-binding}
use Rattle.transcript_lines.specs.Lines.{first_line}
use Rattle.transcript_lines.specs.Transcript.{Session}
use Rattle.transcript_lines.specs.Transcript.Session.{refuses}
use Rattle.transcript_lines.specs.Block.{Blocks, joined, ending}
use Rattle.transcript_lines.specs.BlockLaws.{blocks_map, session-blocks}
use Rattle.transcript_writer.specs.declared.opening.Tables.{Tables}
use Rattle.transcript_writer.specs.declared.opening.Opening.{Opening}
use Rattle.line_writer.specs.PutsLaws.{puts-front}
use Rattle.transcript_writer.specs.Opened.{heads_in, moves_in, tables_of, Opens}
use Rattle.transcript_writer.specs.OpenedLaws.{opened-heads, opened-moves}

module _ {s h m line line' : List ℕ} {r : Opening} (o : Opens s h m line line' r) where
  wrote : take r.written line' ≡ first_line (map_result summary (built s 64 15360))
  wrote = puts-front o.puts

  -- blocks answered by the tables of the opening are answered by the book
  pub opened-blocks : {t : Tables} → r.tables ≡ Some t → (b : Book) → built s 64 15360 ≡ ok b → {k k' : ℕ} {kept lines kept' : List ℕ}
      {blocks : List (List ℕ)} → Blocks (AnsweredByTrails (heads_in t) (moves_in t)) k kept blocks lines k' kept'
      → Blocks (DecidedByBinding b) k kept blocks lines k' kept'
  opened-blocks {t} f b e bs =
      blocks_map (λ x w a u. decided_by-binding s 64 15360 b e x w a (rw (opened-heads o f b e, opened-moves o f b e) at u)) bs

  -- an accepted book: any list of blocks
  pub session-accepted : {t : Tables} → r.tables ≡ Some t → {k : ℕ} {lines kept : List ℕ} {blocks : List (List ℕ)}
      → Blocks (AnsweredByTrails (heads_in t) (moves_in t)) 0 [] blocks lines k kept → Broken kept
      → Session s (joined blocks) (take r.written line' ++ (lines ++ ending k kept))
  session-accepted f {k} {lines} {kept} {blocks} bs left = by_result (built s 64 15360) refl
    where
      by_result : (x : Result Book) → built s 64 15360 ≡ x → Session s (joined blocks) (take r.written line' ++ (lines ++ ending k kept))
      by_result (refused c v) e = absurd (none-some _ (sym (o.tables ∙ ap (tables_of h m) e) ∙ f))
      by_result (ok b) e = rw (wrote, e) (session-blocks s b e (opened-blocks f b e bs) left)

  -- a refused book: its line, whatever the input
  pub session-refused : r.tables ≡ None → (q : List ℕ) → Session s q (take r.written line')
  session-refused f q = by_result (built s 64 15360) refl
    where
      by_result : (x : Result Book) → built s 64 15360 ≡ x → Session s q (take r.written line')
      by_result (refused c v) e = rw (wrote, e) (refuses c v e)
      by_result (ok b) e = absurd (none-some _ (sym f ∙ o.tables ∙ ap (tables_of h m) e))
