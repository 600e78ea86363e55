-- `put` meets its contract: a pair that is not a member leaves room for one more.
use native.Mathlib.Omega.{arith}
use Rattle.query_binder.specs.PairSetsLaws.{put_written}
use Rattle.query_binder.proofs.pairs.put.Goals as goal

pub returns : goal.returns
returns c = put_written c.requires.pair_set _ c.requires.pair_bound (omega arith)
