-- `climb` meets its contract. The invariant: the names of rank below c are in their tiers.
use Rattle.name_sets.specs.Mask.{has}
use Rattle.order_levels.specs.Climbing.{Ready, Climbed}
use Rattle.order_levels.proofs.climb.Given as goal

abbrev pub invariant-loop-c : goal.invariant-loop-c
invariant-loop-c l = Ready l.masks l.walked l.c × Climbed l.masks (has l.walked) l.tiers l.levels l.depth
