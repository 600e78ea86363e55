-- `highest` meets its contract. The invariant: no tier from k on has a name of the set.
use Rattle.order_levels.specs.TierLaws.{Searched}
use Rattle.order_levels.proofs.highest.Given as goal

abbrev pub invariant-loop-k : goal.invariant-loop-k
invariant-loop-k l = Searched l.set l.tiers l.depth l.k
