-- `again` meets its contract: past a limit, counted, and copied where there is room.
use Rattle.std.proofs.Common.{refl, arith}
use Rattle.table_builder.specs.Memo.{Sound}
use Rattle.table_builder.specs.AgainLaws.{held_kept, again_full, again_short, again_copied, again_near, again_numbers}
use Rattle.table_builder.proofs.memo.again.Goals as goal

pub returns-then-end-ge60000-clause-laid : goal.returns-then-end-ge60000-clause-laid
returns-then-end-ge60000-clause-laid c = λ z at k.
    again_full (held_kept c.args.memo.now c.args.r k c.number.ensures.0 refl c.number-size.ensures.0 refl) c.if-next-gt2048.false c.if-end-ge60000.true

pub returns-else-end-moves-clause-laid : goal.returns-else-end-moves-clause-laid
returns-else-end-moves-clause-laid c = λ z at k.
    again_short (held_kept c.args.memo.now c.args.r k c.number.ensures.0 refl c.number-size.ensures.0 refl) c.if-next-gt2048.false c.if-end-moves.false

pub shift-requires-clause-by_index : goal.shift-requires-clause-by_index
shift-requires-clause-by_index c =
    let k = held_kept c.args.memo.now c.args.r c.requires.by_index.2 c.number.ensures.0 c.number-then-end-moves-2.ensures.0 c.number-size.ensures.0 c.number-then-end-moves.ensures.0 in
    let sound : Sound c.args.place = (c.requires.small_2.1, omega (arith, c.if-end-ge60000.false)) in λ j l. again_near k sound c.if-end-moves.true j l c.if-next-gt2048.false

pub returns-then-end-moves-clause-laid : goal.returns-then-end-moves-clause-laid
returns-then-end-moves-clause-laid c = λ z at h.
    let k = held_kept c.args.memo.now c.args.r h c.number.ensures.0 c.number-then-end-moves-2.ensures.0 c.number-size.ensures.0 c.number-then-end-moves.ensures.0 in
    again_copied k c.if-next-gt2048.false (c.shift.ensures _ (again_numbers k (c.requires.small_2.1, omega (arith, c.if-end-ge60000.false)) c.if-end-moves.true))
