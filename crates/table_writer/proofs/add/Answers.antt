-- `add` meets its contract: three numbers, none where there is no room, and nothing counted where the tables are full.
use Rattle.std.proofs.Common.{arith}
use Rattle.table_writer.specs.AddingLaws.{adds_absent, adds_past, adds_full, adds_short, adds_next}
use Rattle.table_writer.proofs.add.Goals as goal
use Rattle.table_writer.proofs.add.Goals.{then-not-present-via-then-not-present, then-not-present-via-else-not-present+then-state-gt2048, then-not-present-via-else-not-present+else-state-gt2048+then-count-ge60000}

pub returns-then-not-present : goal.returns-then-not-present
returns-then-not-present c =
    let a = c.args in
    elim c.then-not-present.branch [
      | then-not-present-via-then-not-present w ↦
          adds_absent a.present a.from a.label a.to a.place a.moves.now w.if-not-present.true
      | then-not-present-via-else-not-present+then-state-gt2048 w ↦
          adds_past a.present a.from a.label a.to a.place a.moves.now w.if-not-present.false (omega arith)
      | then-not-present-via-else-not-present+else-state-gt2048+then-count-ge60000 w ↦
          adds_full a.present a.from a.label a.to a.place a.moves.now w.if-not-present.false (omega arith) (omega arith)
    ]

pub returns-then-moves-count : goal.returns-then-moves-count
returns-then-moves-count c =
    let a = c.args in
    adds_short a.present a.from a.label a.to a.place a.moves.now c.if-not-present.false (omega arith) (omega arith) (omega arith)

pub returns : goal.returns
returns c =
    let a = c.args in
    adds_next a.present a.from a.label a.to a.place a.moves.now c.if-not-present.false (omega arith) (omega arith) (omega arith)
