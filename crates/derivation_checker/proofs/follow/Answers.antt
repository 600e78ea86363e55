use mathlib.Core.Path.{sym, ap, ◌∙◌}
use native.Mathlib.Omega.{arith}
use Rattle.base.specs.Result.Result.{ok}
use Rattle.roles.specs.ChainParts.{pointwise_same}
use Rattle.book_questions.specs.RuleTable.{rule_in}
use Rattle.derivation_steps.specs.RunningLaws.{checked_uneven}
use Rattle.derivation_checker.specs.Following.{following_stop, following_next, following_end}
use Rattle.derivation_checker.proofs.follow.Goals as goal

pub returns-then-steps-ne0 : goal.returns-then-steps-ne0
returns-then-steps-ne0 c =
    let entry = c.args in
    sym (checked_uneven entry.header.rules (rule_in entry.table.now) entry.steps.now entry.role entry.chain.now
    (λ e. omega arith))

pub returns-in_default : goal.returns-in_default
returns-in_default c =
    following_stop c.loop-k.invariant (omega arith) (c.step_of.ensures.whole (omega arith)) c.in_default.ensures.after _

pub loop-k-preserved : goal.loop-k-preserved
loop-k-preserved c =
    following_next c.loop-k.invariant (omega arith) (c.step_of.ensures.whole (omega arith)) c.apply.ensures.room c.in-Some.ensures.after

pub returns : goal.returns
returns c = following_end c.loop-k.invariant (omega arith) _ (ap ok (c.eq.ensures ∙ pointwise_same _ _))
