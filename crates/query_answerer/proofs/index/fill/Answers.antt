use Rattle.std.proofs.Common.{arith, length-set}
use Rattle.query_simulation.specs.TransitionIndexLaws.{listed-some, prepared-entered}
use Rattle.query_answerer.proofs.index.fill.Goals as goal

pub loop-k-preserved : goal.loop-k-preserved
loop-k-preserved c =
    let at-loop = c.loop-k in
    let taken = c.loop-k-test.true in
    let here = listed-some _ _ _ taken c.in-Some.ensures.0 (λ z. omega (arith, c.in-Some.ensures.1, z)) c.requires.fit in
    (simp length-set at-loop.invariant.0, prepared-entered at-loop.invariant.1 taken here.0 here.1)
