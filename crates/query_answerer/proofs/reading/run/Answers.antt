use Rattle.std.proofs.Common.{arith, rules}
use Rattle.query_simulation.specs.AskedLaws.{asked-letter, read-link, read_asked}
use Rattle.query_simulation.specs.ReadingLaws.{read-steps}
use Rattle.query_answerer.proofs.reading.run.Goals as goal

pub step-count-requires : goal.step-count-requires
step-count-requires c = read-steps _ _ c.loop-i.invariant.1.1 (omega arith) (asked-letter _ _ _ c.loop-i-test.true c.requires.letters c.link-label.ensures)

pub loop-i-preserved : goal.loop-i-preserved
loop-i-preserved c =
    let at-loop = c.loop-i in
    (omega arith, (search rules, read-link _ _ _ c.loop-i-test.true at-loop.invariant.1.1 c.link-label.ensures c.step-count.ensures))

pub returns-clause-reflects : goal.returns-clause-reflects
returns-clause-reflects c = read_asked _ _ _ c.loop-i.invariant.1.1 (omega arith) c.requires.inside
