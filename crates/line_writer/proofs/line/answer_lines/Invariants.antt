-- `answer_lines` meets its contract. The invariant: the lines of the first i answers are put, each of at most 64 bytes.
use Rattle.line_writer.specs.Said.{LinesPut}
use Rattle.line_writer.proofs.line.answer_lines.Given as goal

abbrev pub invariant-loop-i : goal.invariant-loop-i
invariant-loop-i l = LinesPut l.initial.out l.at l.number l.answers l.i l.out l.end
