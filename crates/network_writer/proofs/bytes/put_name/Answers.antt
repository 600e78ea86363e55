-- `put_name` meets its contract: empty rows are zeros.
use Rattle.network_writer.specs.RowBytesLaws.{name-zeros}
use Rattle.network_writer.proofs.bytes.put_name.Goals as goal

pub returns-then-is_empty : goal.returns-then-is_empty
returns-then-is_empty c = rw (name-zeros c.args.rows.now c.args.front c.args.places (c.is_empty.ensures c.if-is_empty.true)) c.put_zeros.ensures
