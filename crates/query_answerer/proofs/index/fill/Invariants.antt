-- `fill` meets its contract. The invariant: the index holds the first k transitions, whose states are below the room.
use mathlib.Core.Path.{◌≡◌}
use lib.ListN.{length}
use Rattle.query_simulation.specs.TransitionIndex.{Prepared}
use Rattle.query_answerer.proofs.index.fill.Given as goal

abbrev pub invariant-loop-k : goal.invariant-loop-k
invariant-loop-k l = (length l.space ≡ length l.initial.space) × Prepared l.room 1 l.moves l.k l.space
