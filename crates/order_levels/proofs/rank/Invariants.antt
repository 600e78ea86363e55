-- `rank` meets its contract. The invariant: the names below x are sorted.
use Rattle.order_levels.specs.Climbing.{Ranked}
use Rattle.order_levels.proofs.rank.Given as goal

abbrev pub invariant-loop-x : goal.invariant-loop-x
invariant-loop-x l = Ranked l.masks l.x l.ranks l.top
