use Rattle.std.proofs.Common.{refl, arith}
use Rattle.table_builder.specs.ShiftLaws.{shifting_next}
use Rattle.table_builder.proofs.memo.shift.Goals as goal

pub loop-j-preserved : goal.loop-j-preserved
loop-j-preserved c =
    shifting_next c.loop-j.invariant c.requires.size_bound.0 c.loop-j-test.true (omega (arith, c.number.ensures.0)) refl (omega arith)
