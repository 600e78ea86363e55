-- `find` meets its contract. The invariant: of the keys before the entry that it began at, those from the present entry on are others.
use Rattle.book_reader.specs.EnteredLaws.{Walked}
use Rattle.book_reader.proofs.key_lists.find.Given as goal

abbrev pub invariant-loop-at : goal.invariant-loop-at
invariant-loop-at l = Walked l.lists l.keys l.index l.key l.last l.at

abbrev pub decreases-loop-at : goal.decreases-loop-at
decreases-loop-at l = l.at
