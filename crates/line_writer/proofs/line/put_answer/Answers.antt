-- `put_answer` meets its contract: the number, then what the answer says.
-- LENGTHS 14 given, 10 needs
use native.Mathlib.Omega.{arith}
use Rattle.line_writer.specs.SaidLaws.{puts-refused}
use Rattle.line_writer.proofs.line.put_answer.Goals as goal

pub returns-in_default : goal.returns-in_default
returns-in_default c = puts-refused _ (omega arith) (omega arith) c.put_number-end.ensures c.put_number-in_default.ensures
