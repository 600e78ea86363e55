-- `rabbitsteel_build` meets its contract: what is told of the outcome is told of the build that gave it.
use Rattle.rabbitsteel.specs.CallsLaws.{tells-build}
use Rattle.rabbitsteel.proofs.rabbitsteel_build.Goals as goal

pub returns : goal.returns
returns c = tells-build c.build.ensures c.tell-told.ensures
