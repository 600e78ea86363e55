-- `letters` meets its contract: too late for two states, or three additions one after another.
use native.Mathlib.Omega.{arith}
use Rattle.table_writer.specs.AddingLaws.{letters-past, letters-next}
use Rattle.table_writer.proofs.letters.Goals as goal

pub returns-then-initial-gt2046 : goal.returns-then-initial-gt2046
returns-then-initial-gt2046 c =
    let a = c.args in
    letters-past a.symmetric a.transitive a.role a.place a.moves.now c.if-initial-gt2046.true

pub returns : goal.returns
returns c =
    let a = c.args in
    letters-next a.symmetric a.transitive a.role a.place a.moves.now c.if-initial-gt2046.false (omega arith)
    c.add-first.ensures (rw c.inverse-label.ensures at c.add-both.ensures) c.add.ensures
