-- `spread` meets its contract. The invariant: of the list, the transitions from the entry on are done.
use Rattle.query_simulation.specs.TransitionIndex.{Walked}
use Rattle.query_answerer.proofs.reading.spread.Given as goal

abbrev pub invariant-loop-at : goal.invariant-loop-at
invariant-loop-at l = Walked l.room l.stamp l.list l.moves l.slot l.label l.at l.initial.space l.initial.count l.space l.count

abbrev pub decreases-loop-at : goal.decreases-loop-at
decreases-loop-at l = l.at
