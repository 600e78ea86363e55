-- `shift` meets its contract. The invariant: the transitions before j are copied.
use Rattle.table_builder.specs.ShiftLaws.{Shifting}
use Rattle.table_builder.proofs.memo.shift.Given as goal

abbrev pub invariant-loop-j : goal.invariant-loop-j
invariant-loop-j l = Shifting l.start l.size l.count l.by l.initial.moves l.moves l.j
