use Rattle.std.proofs.Common.{arith, ◌≡◌}
use Rattle.query_simulation.specs.ReadingLaws.{gathered-more, stepped}
use Rattle.query_answerer.proofs.reading.step.Goals as goal

pub loop-i-preserved : goal.loop-i-preserved
loop-i-preserved c = gathered-more c.requires c.loop-i.invariant c.loop-i-test.true c.spread-found.ensures

pub returns : goal.returns
returns c =
    let at-loop = c.loop-i in
    let e : at-loop.i ≡ c.args.count = omega arith in stepped c.requires (rw e at at-loop.invariant) c.close.ensures
