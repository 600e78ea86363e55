use Rattle.std.proofs.Common.{◌<◌, ◌≤◌, arith, get_or}
use Rattle.std.specs.Int.Count.{ones}
use Rattle.std.proofs.lemmas.Nat.{ones-le}
use Rattle.name_sets.specs.MaskLaws.{ones_count}
use Rattle.name_sets.specs.MemberLaws.{only-named}
use Rattle.order_levels.specs.RankedLaws.{ranked-none, ranked-next}
use Rattle.order_levels.proofs.rank.Goals as goal

pub loop-x-init : goal.loop-x-init
loop-x-init c = ranked-none c.requires.1

pub loop-x-preserved : goal.loop-x-preserved
loop-x-preserved c =
    let x-small : c.loop-x.x < 64 = omega (arith, c.requires.0) in
    let fits = (c.type_inv.masks c.loop-x.x).fits in
    -- a mask has 64 names at most, and as many as its rank
    let few : ones (get_or c.args.masks.now c.loop-x.x 0) ≤ 64 = ones-le 64 _ fits in
    rw (c.max-top.ensures, c.single.ensures, only-named _ x-small)
    (ranked-next x-small (ones_count 64 _ fits) (omega arith) c.loop-x.invariant)
