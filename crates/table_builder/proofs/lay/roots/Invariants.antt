-- `roots` meets its contract: each turn lays the root of one name and leaves those of the names after it.
use Rattle.table_builder.specs.RootsLaws.{Rooting}
use Rattle.table_builder.specs.Memo.{Memo}
use Rattle.table_builder.proofs.lay.roots.Given as goal

abbrev pub invariant-loop-x : goal.invariant-loop-x
invariant-loop-x l = Rooting l.index l.names l.initial.heads l.initial.moves l.place l.heads l.moves l.x × Memo l.index l.memo l.place l.moves
