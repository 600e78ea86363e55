-- `put_pair` meets its contract: its parts, one after another.
-- LENGTHS 6 given, 5 needs
use Rattle.line_writer.specs.SaidLaws.{puts-pair}
use Rattle.line_writer.proofs.line.put_pair.Goals as goal

pub returns : goal.returns
returns c = puts-pair c.put-start.ensures c.put_number-middle.ensures c.put_number.ensures
