use Rattle.std.proofs.Common.{◌≡◌, refl, sym, ap, ◌∙◌, arith}
use borrow.Author.Tests.{leb-true, leb-false}
use Rattle.refusals.specs.Check.{check-passed, check_failed}
use Rattle.book_cursor.specs.CursorLaws.{Hands, Yields, yields, named-entry}
use Rattle.book_decoder.specs.Verdict.{header_of}
use Rattle.book_format.specs.FormatLaws.{length-first_rules}
use Rattle.book_format.specs.Place.{rule_place}
use Rattle.base.specs.Result.{map_result}
use Rattle.book_format.specs.RuleLoopLaws.{running-start, running-cut, running_undeclared, running-next, running-after, running-end}
use Rattle.book_decoder.proofs.decode_rules.Goals as goal
use Rattle.book_decoder.proofs.decode_rules.Goals.{After-step, In-Some}

pub loop-number-init : goal.loop-number-init
unfolding rule_place
loop-number-init c = (c.first-cursor.ensures, running-start)

-- the step of a turn yields rule `number`
turn : (c : After-step) → Yields c.args.book.now c.loop-number.number c.step.result
turn c = yields c.loop-number.invariant.0 c.step.ensures

pub returns-in_default : goal.returns-in_default
returns-in_default c =
    sym (ap (map_result header_of) (running-cut c.loop-number-test.true c.loop-number.invariant.1 ((turn (goal.at.returns-in_default c).After-step).none c.in_default.is)))

handed : (c : In-Some) → Hands c.args.book.now c.loop-number.number c.in-Some.entry c.in-Some.next
handed c = (turn (goal.at.In-Some c).After-step).hands c.in-Some.is

pub declared-requires-clause-size_in_bounds : goal.declared-requires-clause-size_in_bounds
declared-requires-clause-size_in_bounds c = (handed c).fits

pub returns-in_default-declared : goal.returns-in_default-declared
returns-in_default-declared c =
    let h = handed (goal.at.returns-in_default-declared c).In-Some in
    sym
    (ap (map_result header_of)
    (running_undeclared c.loop-number-test.true c.loop-number.invariant.1 h.whole
    (named-entry _ h (check_failed _ _ c.declared.ensures c.in_default-declared.is))))

pub loop-number-preserved : goal.loop-number-preserved
loop-number-preserved c =
    let h = handed (goal.at.loop-number-preserved c).In-Some in (
      h.place,
      running-next c.loop-number-test.true c.loop-number.invariant.1 h.whole
          (named-entry _ h (check-passed _ _ c.declared.ensures c.in-Passed.is)),
    )

pub returns-in_default-ended : goal.returns-in_default-ended
returns-in_default-ended c =
    let all : c.loop-number.number ≡ c.args.header.rules = omega arith in
    sym
    (ap (map_result header_of)
    (running-after all c.loop-number.invariant.0 c.loop-number.invariant.1 (leb-false _ _ (check_failed _ _ c.ended.ensures c.in_default-ended.is))))

pub returns : goal.returns
returns c =
    let all : c.loop-number.number ≡ c.args.header.rules = omega arith in
    sym
    (ap (map_result header_of)
    (running-end all c.loop-number.invariant.0 c.loop-number.invariant.1 (leb-true _ _ (check-passed _ _ c.ended.ensures c.in-Passed-ended.is)))
    ∙ rw length-first_rules refl)
