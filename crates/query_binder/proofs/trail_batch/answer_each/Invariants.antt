-- `answer_each` meets its contract. The invariant: the questions read are answered, and the stamp is newer than all that stands in the set.
use Rattle.query_answerer.specs.Batch.{Going}
use Rattle.query_binder.specs.PairSets.{Unused}
use Rattle.query_correctness.specs.TrailQuery.{AnsweredByTrails}
use Rattle.query_binder.proofs.trail_batch.answer_each.Given as goal

abbrev pub invariant-loop-answered : goal.invariant-loop-answered
invariant-loop-answered l = Going (AnsweredByTrails l.heads l.moves) l.input l.initial.answers l.read l.answered l.answers × Unused l.room l.stamp l.pairs
