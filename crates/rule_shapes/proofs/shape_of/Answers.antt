-- `shape_of` meets its contract: the length, the first and the last letter settle the shape.
use Rattle.std.proofs.Common.{sym, ◌∙◌, arith}
use Rattle.order.specs.ShapeTests.{shape-short, shape-symmetric, shape-transitive, shape-led, shape_trailed, shape_long}
use Rattle.rule_shapes.specs.FoundShapeLaws.{found-transitive, found-symmetric, found_plain, found-led, found_trailed}
use Rattle.rule_shapes.proofs.shape_of.Goals as goal
use Rattle.rule_shapes.proofs.shape_of.Goals.{else-first-right-via-then-first-right+then-last-right+else-size-eq2, else-first-right-via-then-first-right+else-last-right, else-first-right-via-else-first-right}

pub returns-in-empty : goal.returns-in-empty
returns-in-empty c = found_plain _ _ _ c.plain.ensures (shape-short _ _ (omega arith) (λ e f. omega arith))

pub returns-then-only-inverse : goal.returns-then-only-inverse
returns-then-only-inverse c = found-symmetric _ _ (shape-symmetric _ _ (omega arith) (c.if-only-inverse.true ∙ c.inverse.ensures))

pub returns-else-only-inverse : goal.returns-else-only-inverse
returns-else-only-inverse c =
    found_plain _ _ _ c.plain-else-only-inverse.ensures (shape-short _ _ (omega arith) (λ e f. c.if-only-inverse.false (f ∙ sym c.inverse.ensures)))

pub returns-then-size-eq2 : goal.returns-then-size-eq2
returns-then-size-eq2 c = found-transitive _ _ (shape-transitive _ _ (omega arith) c.if-size-eq2.true c.if-first-right.true c.if-last-right.true)

pub returns-then-first-right-2 : goal.returns-then-first-right-2
returns-then-first-right-2 c =
    found-led _ _ (shape-led _ _ (omega arith) c.if-first-right-2.true (λ e f.
    elim c.else-first-right.branch [
      | else-first-right-via-then-first-right+then-last-right+else-size-eq2 w ↦ w.if-size-eq2.false e
      | else-first-right-via-then-first-right+else-last-right w ↦ w.if-last-right.false f
      | else-first-right-via-else-first-right w ↦ w.if-first-right.false c.if-first-right-2.true
    ]))

pub returns-then-last-right-2 : goal.returns-then-last-right-2
returns-then-last-right-2 c = found_trailed _ _ (shape_trailed _ _ (omega arith) c.if-first-right-2.false c.if-last-right-2.true)

pub returns-else-last-right-2 : goal.returns-else-last-right-2
returns-else-last-right-2 c = found_plain _ _ _ c.plain-else-last-right-2.ensures (shape_long _ _ (omega arith) c.if-first-right-2.false c.if-last-right-2.false)
