use Rattle.std.proofs.Common.{◌<◌, refl, arith}
use Rattle.std.specs.Int.Count.{count_trailing_zeros}
use Rattle.name_sets.specs.Mask.{only}
use Rattle.name_sets.specs.MemberLaws.{lowest, lowest_out, only-named}
use Rattle.name_sets.proofs.without_lowest.Goals as goal

pub returns-then-set-eq0 : goal.returns-then-set-eq0
unfolding only count_trailing_zeros
returns-then-set-eq0 c = rw c.if-set-eq0.true refl

-- `without_lowest` meets its contract: one less turns the lowest bit and those below it, and no other.
pub returns-else-set-eq0 : goal.returns-else-set-eq0
returns-else-set-eq0 c =
    let some : 0 < c.args.set = omega arith in
    rw (only-named _ (lowest 64 _ some c.ranges.set.fits).0) (lowest_out 64 _ some c.ranges.set.fits)
