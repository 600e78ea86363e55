-- `put` meets its contract: outside the table a write changes nothing.
use mathlib.Core.Path.{sym}
use lib.Seq.{set_out}
use Rattle.table_builder.proofs.lay.put.Goals as goal

pub returns-else-at-table : goal.returns-else-at-table
returns-else-at-table c = sym (set_out _ _ _ c.if-at-table.false)
