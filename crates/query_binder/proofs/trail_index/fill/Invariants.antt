-- `fill` meets its contract. The invariant: the first k transitions are in the index.
use mathlib.Core.Path.{◌≡◌}
use lib.ListN.{length}
use Rattle.query_binder.specs.TrailIndex.{Indexed}
use Rattle.query_binder.proofs.trail_index.fill.Given as goal

abbrev pub invariant-loop-k : goal.invariant-loop-k
invariant-loop-k l = (length l.index ≡ length l.initial.index) × Indexed l.room l.moves l.index l.k
