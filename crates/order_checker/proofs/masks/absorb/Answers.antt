use Rattle.std.proofs.Common.{ℕ, arith, length-set}
use Rattle.order_masks.specs.AbsorbLaws.{absorbing_end}
use Rattle.order_checker.specs.FrontLaws.{absorbing_past}
use Rattle.order_checker.proofs.masks.absorb.Goals as goal

pub returns : goal.returns
returns c =
    absorbing_end c.args.masks.now c.args.right c.args.lower c.requires.right_in_bounds (omega arith) (omega arith)
    (absorbing_past (omega arith) (omega (arith, length-set {A = ℕ})) c.loop-mask.invariant)
