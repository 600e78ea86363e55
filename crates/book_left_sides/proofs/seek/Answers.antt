use mathlib.Core.Path.{ap, ◌∙◌, ◌≡◌}
use native.Mathlib.Omega.{arith}
use Rattle.book_cursor.specs.CursorLaws.{Yields, yields}
use Rattle.book_format.specs.DecodeLaws.{has_rule-whole}
use Rattle.book_format.specs.Place.{rule_place}
use Rattle.book_left_sides.proofs.seek.Goals as goal
use Rattle.book_left_sides.proofs.seek.Goals.{After-step}

pub loop-init : goal.loop-init
unfolding rule_place
loop-init c = c.first-cursor.ensures

-- the step of a turn yields the rule of that number
turn : (c : After-step) → Yields c.args.book.now c.loop.counter c.step.result
turn c = yields c.loop.invariant c.step.ensures

pub returns-in_default : goal.returns-in_default
returns-in_default c =
    absurd ((turn (goal.at.returns-in_default c).After-step).some (has_rule-whole _ _ c.requires _ (omega arith)) c.in_default.is)

pub loop-preserved : goal.loop-preserved
loop-preserved c = ((turn (goal.at.loop-preserved c).After-step).hands c.in-Some.is).place

pub returns : goal.returns
returns c =
    let e : c.loop.counter ≡ c.args.rule = omega arith in c.loop.invariant ∙ ap (rule_place c.args.book.now) e
