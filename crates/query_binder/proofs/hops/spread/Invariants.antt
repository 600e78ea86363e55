-- `spread` meets its contract. The invariant: of the list, the transitions from the entry on are done.
use Rattle.query_binder.specs.Hops.{Walked}
use Rattle.query_binder.proofs.hops.spread.Given as goal

abbrev pub invariant-loop-at : goal.invariant-loop-at
invariant-loop-at l = Walked l.moves l.room l.stamp l.from l.label l.place l.at l.initial.pairs l.count l.pairs l.all

abbrev pub decreases-loop-at : goal.decreases-loop-at
decreases-loop-at l = l.at
