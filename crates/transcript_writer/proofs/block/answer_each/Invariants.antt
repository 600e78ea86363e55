-- `answer_each` meets its contract: each batch completes the lines by its questions, until there is no more to answer or no room.
use Prim.Native.Nat.{◌+◌, ◌-◌, ◌*◌}
use lib.ListN.{length, take}
use Rattle.query_correctness.specs.TrailQuery.{AnsweredByTrails}
use Rattle.transcript_writer.specs.Advances.{Advanced}
use Rattle.transcript_writer.proofs.block.answer_each.Given as goal

abbrev pub invariant-loop-most : goal.invariant-loop-most
invariant-loop-most l = Advanced (AnsweredByTrails (take l.names l.heads) (take l.numbers l.moves)) l.number l.input l.initial.out l.next l.read l.written l.most l.out

abbrev pub decreases-loop-most : goal.decreases-loop-most
decreases-loop-most l = 1025 * (length l.input - l.read) + l.most
