use native.Mathlib.Omega.{arith}
use lib.ListN.{length-set}
use Rattle.query_binder.specs.TrailIndexLaws.{indexed-next}
use Rattle.query_binder.proofs.trail_index.fill.Goals as goal

pub loop-k-preserved : goal.loop-k-preserved
loop-k-preserved c = (simp length-set c.loop-k.invariant.0, indexed-next c.loop-k.invariant.1 (omega arith) c.list_at-list.ensures)
