-- `rabbitsteel_order` meets its contract: what is told of the order check's answer is told of the judgement that it equals.
use Rattle.std.proofs.Common.{◌∙◌}
use Rattle.rabbitsteel.specs.CallsLaws.{tells-order, tells-no_order}
use Rattle.rabbitsteel.proofs.rabbitsteel_order.Goals as goal
use Rattle.rabbitsteel.proofs.rabbitsteel_order.Goals.{in-Ok, in_default}

pub returns : goal.returns
returns c =
    elim c.match-ordering.branch [
      | in-Ok w ↦ tells-order c.order-ordering.result c.order-ordering.ensures _ w.in-Ok.is (w.levels-is ∙ w.copy.ensures) c.tell-told.ensures
      | in_default w ↦ tells-no_order c.order-ordering.result c.order-ordering.ensures w.in_default.not-Ok w.levels-is c.tell-told.ensures
    ]
