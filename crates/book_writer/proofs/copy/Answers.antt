-- `copy` meets its contract: the element copied is the next one.
use Rattle.std.proofs.Common.{length-set}
use Rattle.book_writer.specs.BookStoreLaws.{copied_more}
use Rattle.book_writer.proofs.copy.Goals as goal

pub loop-i-preserved : goal.loop-i-preserved
loop-i-preserved c =
    let inv = c.loop-i.invariant in
    (copied_more _ _ _ _ _ inv.0 c.loop-i-test.true, rw length-set inv.1)
