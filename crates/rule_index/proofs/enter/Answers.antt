use mathlib.Core.Path.{◌≡◌, sym, ◌∙◌}
use native.Mathlib.Omega.{arith}
use Rattle.book_format.specs.Place.{rule_place}
use Rattle.book_cursor.specs.CursorLaws.{Hands, Yields, yields}
use Rattle.rule_index.specs.FillingLaws.{entering_none, entering_more}
use Rattle.rule_index.proofs.enter.Goals as goal
use Rattle.rule_index.proofs.enter.Goals.{After-step, In-Some}

pub loop-k-init : goal.loop-k-init
unfolding rule_place
loop-k-init c = (c.first-cursor.ensures, entering_none c.requires.1)

-- the step of a turn yields rule `k`
turn : (c : After-step) → Yields c.args.book.now c.loop-k.k c.step.result
turn c = yields c.loop-k.invariant.0 c.step.ensures

pub returns-in_default : goal.returns-in_default
returns-in_default c =
    absurd ((turn (goal.at.returns-in_default c).After-step).some (c.requires.0.whole _ c.loop-k-test.true) c.in_default.is)

handed : (c : In-Some) → Hands c.args.book.now c.loop-k.k c.in-Some.entry c.in-Some.next
handed c = (turn (goal.at.In-Some c).After-step).hands c.in-Some.is

pub loop-k-preserved : goal.loop-k-preserved
loop-k-preserved c =
    let h = handed (goal.at.loop-k-preserved c).In-Some in
    (h.place, entering_more (omega (arith, c.requires.0.few)) h.part c.loop-k.invariant.1 c.enter_rule.ensures)

pub returns : goal.returns
returns c = let e : c.args.rules ≡ c.loop-k.k = omega arith in rw e c.loop-k.invariant.1

pub shape_of-index-in_default : goal.shape_of-index-in_default
shape_of-index-in_default c = c.loop-k.invariant.1.size ∙ sym c.requires.1

pub overflow_add-left : goal.overflow_add-left
overflow_add-left c = omega (arith, (handed (goal.at.overflow_add-left c).In-Some).fits, c.well_formed)

pub slice_bounds-left-end : goal.slice_bounds-left-end
slice_bounds-left-end c = (handed (goal.at.slice_bounds-left-end c).In-Some).fits

pub enter_rule-requires : goal.enter_rule-requires
enter_rule-requires c = ((handed (goal.at.enter_rule-requires c).In-Some).few, omega (arith, c.requires.0.few), c.loop-k.invariant.1.size)

pub shape_of-index : goal.shape_of-index
shape_of-index c = c.loop-k.invariant.1.size ∙ sym c.requires.1
