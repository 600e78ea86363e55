use Rattle.std.proofs.Common.{arith}
use Rattle.order_levels.specs.ClimbedLaws.{climbed-none}
use Rattle.order_levels.specs.WalkLaws.{ready-none, ready-next, climbed-all}
use Rattle.order_levels.proofs.climb.Goals as goal

pub loop-c-init : goal.loop-c-init
loop-c-init c = (ready-none, climbed-none c.requires.tiers_value.0 c.requires.tiers_value.1)

pub loop-c-preserved : goal.loop-c-preserved
loop-c-preserved c = (ready-next c.requires.masks_len_bound.1 c.loop-c.invariant.0 (omega (arith, c.requires.masks_len_bound.1.few)), c.climb_rank-depth.ensures)

pub returns : goal.returns
returns c =
    let pre = c.requires.masks_len_bound in
    climbed-all pre.1 c.loop-c.invariant.0 pre.0 (omega arith) c.loop-c.invariant.1
