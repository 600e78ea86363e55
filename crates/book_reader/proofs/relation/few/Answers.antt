use borrow.Author.Tests.{not-true, not-false}
use Rattle.refusals.specs.Check.{check-passed, check_failed}
use Rattle.book_reader.specs.RelationLaws.{compared_start, compared_found, compared_passed, compared_above}
use Rattle.book_reader.proofs.relation.few.Goals as goal

pub loop-at-init : goal.loop-at-init
loop-at-init c = compared_start c.requires.gathered c.requires.name_bound

pub loop-at-preserved-in-Failed : goal.loop-at-preserved-in-Failed
loop-at-preserved-in-Failed c = compared_found c.loop-at.invariant c.loop-at-test.true c.if-rule-least.true (not-false _ (check_failed _ _ c.fresh.ensures c.in-Failed.is))

pub loop-at-preserved-in_default : goal.loop-at-preserved-in_default
loop-at-preserved-in_default c = compared_passed c.loop-at.invariant c.loop-at-test.true (not-true _ (check-passed _ _ c.fresh.ensures c.in_default.is))

pub loop-at-preserved : goal.loop-at-preserved
loop-at-preserved c = compared_above c.loop-at.invariant c.loop-at-test.true c.if-rule-least.false
