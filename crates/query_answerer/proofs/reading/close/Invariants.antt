-- `close` meets its contract. The invariant: the silent transitions of the first i members lead to members.
use Prim.Native.Nat.{◌≤◌, ◌-◌}
use Rattle.query_simulation.specs.Reading.{Closing}
use Rattle.query_answerer.proofs.reading.close.Given as goal

abbrev pub invariant-loop-i : goal.invariant-loop-i
invariant-loop-i l = (l.i ≤ l.count) × Closing l.moves l.room l.stamp l.list l.i l.initial.space l.initial.count l.space l.count

abbrev pub decreases-loop-i : goal.decreases-loop-i
decreases-loop-i l = l.room - l.i
