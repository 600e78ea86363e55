use native.Mathlib.Omega.{arith}
use Rattle.line_writer.specs.SaidLaws.{lines-one}
use Rattle.line_writer.proofs.line.answer_lines.Goals as goal

pub loop-i-preserved : goal.loop-i-preserved
loop-i-preserved c = lines-one c.loop-i.invariant (omega arith) c.put_answer-end.ensures
