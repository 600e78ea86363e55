use Rattle.query_simulation.specs.TransitionIndexLaws.{walked_more}
use Rattle.query_answerer.proofs.reading.spread.Goals as goal

pub loop-at-preserved : goal.loop-at-preserved
loop-at-preserved c = walked_more c.requires.active.indexed c.loop-at.invariant c.loop-at-test.true c.meet-count.ensures
