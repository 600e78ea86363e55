-- `divide` meets its contract. The invariant: the roles before t are stored with their ends, and the others spell the rest of the part.
use Rattle.derivation_writer.specs.Division.{Dividing}
use Rattle.derivation_writer.proofs.division.divide.Given as goal

abbrev pub invariant-loop-t : goal.invariant-loop-t
invariant-loop-t l = Dividing l.chart l.left l.from l.end l.initial.pending l.first l.t l.i l.pending
