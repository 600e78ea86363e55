-- `rabbitsteel_ask` meets its contract: what is told of the answer is told of the tables that gave it.
use Rattle.rabbitsteel.specs.CallsLaws.{tells-answer}
use Rattle.rabbitsteel.proofs.rabbitsteel_ask.Goals as goal

pub returns : goal.returns
returns c = tells-answer c.ask.result c.ask.ensures c.tell-told.ensures
