use Rattle.std.proofs.Common.{◌≡◌, ◌+◌, ◌-◌, arith}
use Rattle.std.specs.Int.Bits.{and_lt}
use Rattle.order_levels.specs.TierLaws.{searched-next, searched-met}
use Rattle.order_levels.proofs.highest.Goals as goal

pub returns-then-set-tiers-ne0 : goal.returns-then-set-tiers-ne0
returns-then-set-tiers-ne0 c =
    let e : c.loop-k.k - 1 + 1 ≡ c.loop-k.k = omega arith in
    rw e (searched-met (omega arith) c.if-set-tiers-ne0.true (and_lt 64 c.args.set _ c.ranges.set.fits (c.type_inv.tiers (c.loop-k.k - 1)).fits) c.loop-k.invariant)

pub loop-k-preserved : goal.loop-k-preserved
loop-k-preserved c = searched-next (omega arith) c.if-set-tiers-ne0.false c.loop-k.invariant
