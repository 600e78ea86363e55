use Prim.Native.Nat.{◌+◌}
use native.Mathlib.Omega.{arith}
use Rattle.query_binder.specs.PairReachLaws.{reaching-more, reaching-found, reaching_decides}
use Rattle.query_binder.proofs.reaching.weave.Goals as goal

pub returns-then-pairs-mark-clause-reflects : goal.returns-then-pairs-mark-clause-reflects
returns-then-pairs-mark-clause-reflects c = reaching-found c.loop-i.invariant (c.args.head + 1) c.args.end (omega (arith, c.requires.head_bound.0)) (omega (arith, c.requires.head_bound.2)) c.if-pairs-mark.true

pub loop-i-preserved : goal.loop-i-preserved
loop-i-preserved c =
    reaching-more c.loop-i.invariant (omega arith) c.visit-count.ensures

pub returns-clause-reflects : goal.returns-clause-reflects
returns-clause-reflects c = reaching_decides c.loop-i.invariant (c.args.head + 1) c.args.end (omega (arith, c.requires.head_bound.0)) (omega (arith, c.requires.head_bound.2)) (omega arith) c.requires.grounded.few (omega (arith, c.requires.head_bound.1))
