-- `left_side` meets its contract: the entry at the rule's place gives the part.
use mathlib.Core.Bool.{true}
use mathlib.Core.Path.{◌≡◌, sym, ap, ◌∙◌}
use native.Mathlib.Omega.{arith}
use borrow.Author.Tests.{lt-ltb, le-ltb}
use lib.Dec.{ltb}
use Rattle.book_cursor.specs.CursorLaws.{Hands, Yields, yields}
use Rattle.book_decoder.specs.Verdict.{says}
use Rattle.book_decoder.specs.VerdictLaws.{has_rule-header, has_rule-refused}
use Rattle.book_format.specs.Format.{decode}
use Rattle.book_format.specs.Place.{has_rule}
use Rattle.book_format.specs.DecodeLaws.{left-none, left-some, has_rule-whole}
use Rattle.roles.specs.Rule.{Rule}
use Rattle.book_left_sides.proofs.left_side.Goals as goal
use Rattle.book_left_sides.proofs.left_side.Goals.{After-seek, After-step, In-Some, In-Ok}

pub returns-in_default-clause-part : goal.returns-in_default-clause-part
returns-in_default-clause-part c = (left-none _ _ (has_rule-refused _ _ (sym (ap says c.in_default.is) ∙ c.decode.ensures))).0

pub returns-in_default-clause-left : goal.returns-in_default-clause-left
returns-in_default-clause-left c = (left-none _ _ (has_rule-refused _ _ (sym (ap says c.in_default.is) ∙ c.decode.ensures))).1

-- whether the book has the rule, by the header that it is decoded to
counted : (c : In-Ok) → has_rule (decode c.args.book.now) c.args.rule ≡ ltb c.args.rule c.in-Ok.header.rules
counted c = has_rule-header _ _ (sym (ap says c.in-Ok.is) ∙ c.decode.ensures)

pub returns-then-header-rule-clause-part : goal.returns-then-header-rule-clause-part
returns-then-header-rule-clause-part c = (left-none _ _ (counted (goal.at.returns-then-header-rule-clause-part c).In-Ok ∙ le-ltb _ _ c.if-header-rule.true)).0

pub returns-then-header-rule-clause-left : goal.returns-then-header-rule-clause-left
returns-then-header-rule-clause-left c = (left-none _ _ (counted (goal.at.returns-then-header-rule-clause-left c).In-Ok ∙ le-ltb _ _ c.if-header-rule.true)).1

pub seek-requires : goal.seek-requires
seek-requires c = counted (goal.at.seek-requires c).In-Ok ∙ lt-ltb c.args.rule c.in-Ok.header.rules (omega arith)

-- the step yields the rule
turn : (c : After-step) → Yields c.args.book.now c.args.rule c.step.result
turn c = yields c.seek.ensures c.step.ensures

there : (c : After-seek) → has_rule (decode c.args.book.now) c.args.rule ≡ true
there c = counted (goal.at.After-seek c).In-Ok ∙ lt-ltb c.args.rule c.in-Ok.header.rules (omega arith)

pub returns-in_default-step-clause-part : goal.returns-in_default-step-clause-part
returns-in_default-step-clause-part c = absurd ((turn (goal.at.returns-in_default-step-clause-part c).After-step).some (has_rule-whole _ _ (there (goal.at.returns-in_default-step-clause-part c).After-seek) _ (omega arith)) c.in_default-step.is)

pub returns-in_default-step-clause-left : goal.returns-in_default-step-clause-left
returns-in_default-step-clause-left c = absurd ((turn (goal.at.returns-in_default-step-clause-left c).After-step).some (has_rule-whole _ _ (there (goal.at.returns-in_default-step-clause-left c).After-seek) _ (omega arith)) c.in_default-step.is)

handed : (c : In-Some) → Hands c.args.book.now c.args.rule c.in-Some.entry c.in-Some.field-0-1
handed c = (turn (goal.at.In-Some c).After-step).hands c.in-Some.is

pub returns-clause-part : goal.returns-clause-part
returns-clause-part c =
    let left = ap (λ (ρ : Rule). ρ.left) (handed (goal.at.returns-clause-part c).In-Some).part in
    let found = left-some _ _ (there (goal.at.returns-clause-part c).After-seek) in left ∙ found.0

pub returns-clause-left : goal.returns-clause-left
returns-clause-left c =
    let left = ap (λ (ρ : Rule). ρ.left) (handed (goal.at.returns-clause-left c).In-Some).part in
    let found = left-some _ _ (there (goal.at.returns-clause-left c).After-seek) in left ∙ found.1

pub overflow_add-result : goal.overflow_add-result
overflow_add-result c = omega (arith, (handed (goal.at.overflow_add-result c).In-Some).fits)

pub slice_bounds-result-end-2 : goal.slice_bounds-result-end-2
slice_bounds-result-end-2 c = (handed (goal.at.slice_bounds-result-end-2 c).In-Some).fits
