-- `rabbitsteel_binds` meets its contract: what is told of the answer is told of the call that gave it.
use Rattle.rabbitsteel.specs.CallsLaws.{tells-binding}
use Rattle.rabbitsteel.proofs.rabbitsteel_binds.Goals as goal

pub returns : goal.returns
returns c = tells-binding c.bind.result c.bind.ensures c.tell-told.ensures
