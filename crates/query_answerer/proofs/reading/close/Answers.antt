use native.Mathlib.Omega.{arith}
use Rattle.query_simulation.specs.ReadingLaws.{closing_more}
use Rattle.query_answerer.proofs.reading.close.Goals as goal

pub loop-i-preserved : goal.loop-i-preserved
loop-i-preserved c =
    let at-loop-test = c.loop-i-test in
    (omega (arith, c.spread-count.ensures.added.grows, at-loop-test.true), closing_more c.loop-i.invariant.1 at-loop-test.true c.spread-count.ensures)
