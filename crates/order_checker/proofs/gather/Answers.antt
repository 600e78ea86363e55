use mathlib.Core.Path.{◌∙◌}
use native.Mathlib.Omega.{arith}
use Rattle.book_format.specs.Place.{rule_place}
use Rattle.order_checker.specs.GatherLaws.{gathers_start, formed, few_names, whole-rule, named_rule, gathers_next, gathers_clash, gathers_end}
use Rattle.book_cursor.specs.CursorLaws.{Hands, Yields, yields}
use Rattle.order_checker.proofs.gather.Goals as goal
use Rattle.order_checker.proofs.gather.Goals.{After-step, In-Some}

pub loop-number-init : goal.loop-number-init
unfolding rule_place
loop-number-init c = (c.first-cursor.ensures, (c.requires.masks_len, gathers_start c.requires.holds))

-- the step of a turn yields rule `number`
turn : (c : After-step) → Yields c.args.book.now c.loop-number.number c.step.result
turn c = yields c.loop-number.invariant.0 c.step.ensures

pub returns-in_default-clause-result_value : goal.returns-in_default-clause-result_value
returns-in_default-clause-result_value c = absurd ((turn (goal.at.returns-in_default-clause-result_value c).After-step).some (whole-rule (formed c.requires.book_value) c.loop-number-test.true) c.in_default.is)

pub returns-in_default-clause-gathered_order : goal.returns-in_default-clause-gathered_order
returns-in_default-clause-gathered_order c = absurd ((turn (goal.at.returns-in_default-clause-gathered_order c).After-step).some (whole-rule (formed c.requires.book_value) c.loop-number-test.true) c.in_default.is)

handed : (c : In-Some) → Hands c.args.book.now c.loop-number.number c.in-Some.entry c.in-Some.next
handed c = (turn (goal.at.In-Some c).After-step).hands c.in-Some.is

pub overflow_add-left : goal.overflow_add-left
overflow_add-left c = omega (arith, (handed (goal.at.overflow_add-left c).In-Some).fits, c.well_formed)

pub add_rule-requires-clause-left_value : goal.add_rule-requires-clause-left_value
add_rule-requires-clause-left_value c =
    let f = formed c.requires.book_value in rw c.loop-number.invariant.1.0 (named_rule f c.loop-number-test.true (handed (goal.at.add_rule-requires-clause-left_value c).In-Some).part)

pub add_rule-requires-clause-masks_len_bound : goal.add_rule-requires-clause-masks_len_bound
add_rule-requires-clause-masks_len_bound c =
    let f = formed c.requires.book_value in rw c.loop-number.invariant.1.0 (few_names f)

pub returns-in_default-add_rule-clause-result_value : goal.returns-in_default-add_rule-clause-result_value
returns-in_default-add_rule-clause-result_value c = gathers_clash (formed c.requires.book_value) c.loop-number-test.true (handed (goal.at.returns-in_default-add_rule-clause-result_value c).In-Some).part c.add_rule.ensures c.loop-number.invariant.1.1 c.in_default-add_rule.is

pub loop-number-preserved : goal.loop-number-preserved
loop-number-preserved c =
    let h = handed (goal.at.loop-number-preserved c).In-Some in (
      h.place,
      (
        c.add_rule.auto.masks ∙ c.loop-number.invariant.1.0,
        gathers_next (formed c.requires.book_value) c.loop-number-test.true h.part c.add_rule.ensures c.loop-number.invariant.1.1 c.in-Passed.is,
      ),
    )

pub returns-clause-result_value : goal.returns-clause-result_value
returns-clause-result_value c = (gathers_end (formed c.requires.book_value) (omega arith) c.loop-number.invariant.1.1).0

pub returns-clause-gathered_order : goal.returns-clause-gathered_order
returns-clause-gathered_order c = (gathers_end (formed c.requires.book_value) (omega arith) c.loop-number.invariant.1.1).1

pub slice_bounds-left-end : goal.slice_bounds-left-end
slice_bounds-left-end c = (handed (goal.at.slice_bounds-left-end c).In-Some).fits
