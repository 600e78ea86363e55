use mathlib.Core.Path.{◌≡◌}
use native.Mathlib.Omega.{arith}
use borrow.Author.Rules.{rules}
use lib.ListN.{length, replicate, length-replicate, take}
use Prim.Native.Nat.{ℕ, ◌*◌}
use Rattle.query_correctness.specs.TrailQuery.{AnsweredByTrails}
use Rattle.transcript_writer.specs.Opened.{heads_in, moves_in}
use Rattle.std.proofs.lemmas.Grind.{common_steps}
use Rattle.transcript_writer.specs.AdvancesLaws.{advances, advances_as, batch_within, batch_less, advanced_next}
use Rattle.transcript_writer.proofs.block.answer_each.Goals as goal

zeros : length {A = ℕ} (replicate 1024 0) ≡ 1024
zeros = length-replicate {A = ℕ} 1024 0

pub overflow_add-read : goal.overflow_add-read
overflow_add-read c = omega (arith, batch_within c.loop-most.invariant (replicate 1024 0) zeros c.bind_all-batch.ensures, c.well_formed)

pub loop-most-smaller : goal.loop-most-smaller
loop-most-smaller c = batch_less c.loop-most.invariant (replicate 1024 0) zeros c.bind_all-batch.ensures (search rules) c.lines_in-most-in-loop-most.ensures

pub loop-most-preserved : goal.loop-most-preserved
loop-most-preserved c =
    advanced_next c.loop-most.invariant (replicate 1024 0) zeros c.bind_all-batch.ensures c.answer_lines-written.ensures c.lines_in-most-in-loop-most.ensures

pub returns : goal.returns
returns c =
    let heads : take c.min-names.result c.args.tables.heads ≡ heads_in c.args.tables = grind (arith, common_steps) in
    let moves : take (3 * c.min-numbers.result) c.args.tables.moves ≡ moves_in c.args.tables = grind (arith, common_steps) in
    advances_as AnsweredByTrails heads moves (advances c.loop-most.invariant (search rules))
