-- `walk` meets its contract. The invariant: the steps written so far lead to the links that stand, followed by the pending roles.
use Prim.Native.Nat.{◌+◌, ◌-◌, ◌<◌}
use Rattle.derivation_writer.specs.Tracing.{Ready, Tracing}
use Rattle.derivation_writer.proofs.trace.walk.Given as goal

abbrev pub invariant-loop-place : goal.invariant-loop-place
invariant-loop-place l = (ready : Ready l.table l.chain l.chart) → l.role < ready.roles → Tracing ready l.role l.initial.steps l.steps l.pending l.place

abbrev pub decreases-loop-place : goal.decreases-loop-place
decreases-loop-place l = 4000 - (l.place.step + l.place.link)
