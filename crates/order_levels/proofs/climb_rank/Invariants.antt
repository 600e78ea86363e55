-- `climb_rank` meets its contract. The invariant: the names of the rank that are not left are in their tiers.
use Rattle.std.proofs.Common.{◌<◌, ◌^◌, get_or}
use Rattle.name_sets.specs.Mask.{has, count}
use Rattle.order_levels.specs.WalkLaws.{Walking}
use Rattle.order_levels.proofs.climb_rank.Given as goal

abbrev pub invariant-loop-rest : goal.invariant-loop-rest
invariant-loop-rest l = (l.rest < 2 ^ 64) × Walking l.masks l.walked (get_or l.ranks l.c 0) l.rest l.tiers l.levels l.deepest

abbrev pub decreases-loop-rest : goal.decreases-loop-rest
decreases-loop-rest l = count 64 (has l.rest)
