-- `rabbitsteel_check_derivation` meets its contract: what is told of the answer is told of what checking the steps gives.
use Rattle.rabbitsteel.specs.CallsLaws.{tells-checked}
use Rattle.rabbitsteel.proofs.rabbitsteel_check_derivation.Goals as goal

pub returns : goal.returns
returns c = tells-checked c.check.result c.check.ensures c.tell-told.ensures
