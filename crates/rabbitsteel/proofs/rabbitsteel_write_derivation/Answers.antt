-- `rabbitsteel_write_derivation` meets its contract: what is told of the derivation is told of the call that wrote it.
use Rattle.rabbitsteel.specs.CallsLaws.{tells-derivation}
use Rattle.rabbitsteel.proofs.rabbitsteel_write_derivation.Goals as goal

pub returns : goal.returns
returns c = tells-derivation c.write.ensures c.tell-told.ensures
