-- `answer_each` meets its contract. The invariant: the questions read are answered, and the stamp is newer than all that stands in the sets.
use mathlib.Core.Path.{◌≡◌}
use lib.ListN.{length}
use Rattle.query_causes.specs.Query.{Answered}
use Rattle.query_answerer.specs.Batch.{Ready, Going}
use Rattle.query_answerer.proofs.batch.answer_each.Given as goal

abbrev pub invariant-loop-answered : goal.invariant-loop-answered
invariant-loop-answered l = Going (Answered l.heads l.moves) l.input l.initial.answers l.read l.answered l.answers × (Ready l.heads l.moves l.names l.stamp l.space × (length l.space ≡ length l.initial.space))
