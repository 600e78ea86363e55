use Rattle.std.proofs.Common.{true, ◌≡◌, ◌<◌, ◌≤◌, length, get_or, arith}
use Rattle.std.specs.Int.Count.{count_trailing_zeros}
use Rattle.std.proofs.lemmas.Nat.{xor_lt}
use Rattle.std.proofs.Math.Pow.{pow-lt}
use Rattle.name_sets.specs.Mask.{has}
use Rattle.name_sets.specs.MemberLaws.{lowest, only-named, without_fewer}
use Rattle.order_levels.specs.Climbing.{ClimbedRank}
use Rattle.order_levels.specs.WalkLaws.{rank-ready, walking_next, walking_end, named, level-few}
use Rattle.order_levels.proofs.climb_rank.Goals as goal
use Rattle.order_levels.proofs.climb_rank.Goals.{After-highest-below, In-loop-rest}

short : (c : In-loop-rest) → length c.args.masks.now ≤ 64
short c = c.requires.masks_len_bound.0

-- the names of the rank and of lower ranks
own : (c : In-loop-rest) → ClimbedRank c.args.masks.now (get_or c.args.ranks.now c.args.c 0) c.args.walked c.args.c
own c = rank-ready c.requires.by_index.0.1 c.requires.by_index.1 c.requires.masks_len_bound.1

-- the lowest name left
low : (c : In-loop-rest) → (count_trailing_zeros 64 c.loop-rest.rest < 64) × (has c.loop-rest.rest (count_trailing_zeros 64 c.loop-rest.rest) ≡ true)
low c = lowest 64 c.loop-rest.rest (let h = c.loop-rest-test.true in omega arith) c.loop-rest.invariant.0

pub bounds-masks-x : goal.bounds-masks-x
bounds-masks-x c = named (short (goal.at.bounds-masks-x c).In-loop-rest) (own (goal.at.bounds-masks-x c).In-loop-rest) c.loop-rest.invariant.1 (low (goal.at.bounds-masks-x c).In-loop-rest).0 (low (goal.at.bounds-masks-x c).In-loop-rest).1

-- the level below it has a tier
fits : (c : After-highest-below) → c.highest-below.result ≤ 64
fits c = level-few (short (goal.at.After-highest-below c).In-loop-rest) (own (goal.at.After-highest-below c).In-loop-rest) c.loop-rest.invariant.1 (low (goal.at.After-highest-below c).In-loop-rest).0 (low (goal.at.After-highest-below c).In-loop-rest).1 c.highest-below.ensures

pub bounds-tiers-below-in-loop-rest : goal.bounds-tiers-below-in-loop-rest
bounds-tiers-below-in-loop-rest c = omega (arith, fits (goal.at.bounds-tiers-below-in-loop-rest c).After-highest-below, c.loop-rest.invariant.1.climbed.tiers_size)

pub loop-rest-smaller : goal.loop-rest-smaller
loop-rest-smaller c =
    rw (c.single-rest.ensures, only-named _ (low (goal.at.loop-rest-smaller c).In-loop-rest).0) (without_fewer _ _ (low (goal.at.loop-rest-smaller c).In-loop-rest).0 (low (goal.at.loop-rest-smaller c).In-loop-rest).1)

pub loop-rest-preserved : goal.loop-rest-preserved
loop-rest-preserved c =
    rw (c.single-rest.ensures, c.single.ensures, c.max-deepest.ensures, only-named _ (low (goal.at.loop-rest-preserved c).In-loop-rest).0)
    (xor_lt 64 _ _ c.loop-rest.invariant.0 (pow-lt (low (goal.at.loop-rest-preserved c).In-loop-rest).0), walking_next (short (goal.at.loop-rest-preserved c).In-loop-rest) (own (goal.at.loop-rest-preserved c).In-loop-rest) c.loop-rest.invariant.1 (low (goal.at.loop-rest-preserved c).In-loop-rest).0 (low (goal.at.loop-rest-preserved c).In-loop-rest).1 c.highest-below.ensures)

pub returns : goal.returns
returns c = walking_end c.requires.masks_len_bound.0 c.loop-rest-test.false c.loop-rest.invariant.1

pub bounds-tiers-below : goal.bounds-tiers-below
bounds-tiers-below c = omega (arith, fits (goal.at.bounds-tiers-below c).After-highest-below, c.loop-rest.invariant.1.climbed.tiers_size)
