-- `first_line` meets its contract: the numbers, after their word.
use Rattle.line_writer.specs.SaidLaws.{puts_third}
use Rattle.line_writer.proofs.line.first_line.Goals as goal

pub returns-then-accepted : goal.returns-then-accepted
returns-then-accepted c = rw c.if-accepted.true (puts_third c.put_pair-end.ensures c.put_number.ensures)

pub returns : goal.returns
returns c = rw c.if-accepted.false c.put_pair.ensures.puts
