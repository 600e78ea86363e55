-- `step` meets its contract. The invariant: what the first i states reach by the label has been put into the other list.
use Rattle.query_simulation.specs.Reading.{Gathered}
use Rattle.query_answerer.proofs.reading.step.Given as goal

abbrev pub invariant-loop-i : goal.invariant-loop-i
invariant-loop-i l = Gathered l.moves l.room l.stamp l.list l.label l.i l.initial.space l.count l.space l.found
