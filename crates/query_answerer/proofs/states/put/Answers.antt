-- `put` meets its contract: a state that is not a member leaves room for one more.
use Rattle.query_simulation.specs.StatesLaws.{put_written}
use Rattle.query_answerer.proofs.states.put.Goals as goal

pub returns : goal.returns
returns c = put_written c.requires.states _ c.requires.state_lt_room c.if-space-mark.false
