-- `run` meets its contract. The invariant: some state of the set has a path along the links from i on exactly where the head has one along all.
use mathlib.Core.Path.{◌≡◌}
use Prim.Native.Nat.{◌+◌}
use lib.ListN.{length}
use Rattle.query_causes.specs.Query.{asked}
use Rattle.query_simulation.specs.Reading.{Read}
use Rattle.query_answerer.proofs.reading.run.Given as goal

abbrev pub invariant-loop-i : goal.invariant-loop-i
invariant-loop-i l = (l.stamp ≡ l.initial.stamp + l.i) × ((length l.space ≡ length l.initial.space) × Read l.moves l.room l.stamp l.list l.head (asked l.role l.chain) l.i l.space l.count)
