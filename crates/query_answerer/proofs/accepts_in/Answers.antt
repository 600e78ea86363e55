-- `accepts_in` meets its contract: a fresh array is empty sets and an empty index, and `run` decides where the index is filled.
use Rattle.query_simulation.specs.TransitionIndexLaws.{prepared-zeros}
use Rattle.query_answerer.proofs.accepts_in.Goals as goal

pub fill-requires-clause-prepared : goal.fill-requires-clause-prepared
fill-requires-clause-prepared g c = prepared-zeros _ _ c.requires.sizes.0 c.requires.sizes.2 c.requires.sizes.1
