-- `cut` meets its contract. The invariant: a place where the role can end is not before m.
use Rattle.derivation_writer.specs.Division.{Cutting}
use Rattle.derivation_writer.proofs.division.cut.Given as goal

abbrev pub invariant-loop-m : goal.invariant-loop-m
invariant-loop-m l = Cutting l.chart l.left l.t l.i l.end l.m
