use native.Mathlib.Omega.{arith}
use Rattle.derivation_writer.specs.DivisionLaws.{dividing_start, dividing_next, dividing_end, divided_one}
use Rattle.derivation_writer.proofs.division.divide.Goals as goal

pub returns-then-left-eq1 : goal.returns-then-left-eq1
returns-then-left-eq1 c =
    let one = c.if-left-eq1.true in
    rw c.pair.ensures (divided_one one (c.requires.by_index 0 (omega arith)) c.requires.left_len_bound.2 c.requires.splits c.requires.left_len_bound.1)

pub loop-t-preserved : goal.loop-t-preserved
loop-t-preserved c =
    rw c.pair-in-loop-t.ensures (dividing_next c.loop-t.invariant (omega arith) (c.requires.by_index _ (omega arith)) c.cut-i.ensures)

pub returns : goal.returns
returns c =
    dividing_end c.loop-t.invariant (omega arith) (omega (arith, c.requires.left_len_bound.0)) c.requires.left_len_bound.1

pub loop-t-init : goal.loop-t-init
loop-t-init c = dividing_start c.requires.splits
