-- `bind_all` meets its contract: the arrays have room for the tables.
use Rattle.query_binder.specs.TrailBatchLaws.{held-few, held-many}
use Rattle.query_binder.proofs.trail_batch.bind_all.Goals as goal

pub bind_in-requires-clause-held : goal.bind_in-requires-clause-held
bind_in-requires-clause-held c some = held-few _ _ some (c.is_small.ensures c.if-is_small.true)

pub bind_in-requires-else-is_small-clause-held : goal.bind_in-requires-else-is_small-clause-held
bind_in-requires-else-is_small-clause-held c some = held-many _ _ some
