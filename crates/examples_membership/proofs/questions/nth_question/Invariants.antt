-- `nth_question` ends, since each turn leaves a smaller number.
use Rattle.examples_membership.proofs.questions.nth_question.Given as goal

abbrev pub decreases-loop-rest : goal.decreases-loop-rest
decreases-loop-rest l = l.rest
