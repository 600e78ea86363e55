-- `rabbitsteel_derived` meets its contract: what is told of the reply is told of the call that gave it.
use Rattle.rabbitsteel.specs.CallsLaws.{tells-derived}
use Rattle.rabbitsteel.proofs.rabbitsteel_derived.Goals as goal

pub returns : goal.returns
returns c = tells-derived c.derived.ensures c.tell-told.ensures
