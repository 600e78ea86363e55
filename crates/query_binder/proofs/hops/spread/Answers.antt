use mathlib.Core.Path.{◌≡◌}
use native.Mathlib.Omega.{arith}
use Rattle.query_binder.specs.HopsLaws.{walked_more, walked_all}
use Rattle.query_binder.proofs.hops.spread.Goals as goal

pub loop-at-preserved : goal.loop-at-preserved
loop-at-preserved c =
    walked_more c.requires.indexed c.loop-at.invariant (omega arith) c.meet-all.ensures

pub returns : goal.returns
returns c =
    let e : c.loop-at.at ≡ 0 = omega arith in walked_all c.requires.indexed c.requires.from_lt_room.1 (rw e at c.loop-at.invariant)
