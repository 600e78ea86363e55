-- `few` meets its contract. The invariant: of the relation's rules from the entry on, those below `least` repeat none.
use Rattle.book_reader.specs.RelationLaws.{Compared}
use Rattle.book_reader.proofs.relation.few.Given as goal

abbrev pub invariant-loop-at : goal.invariant-loop-at
invariant-loop-at l = Compared l.keys l.targets l.name l.lowest l.least l.at

abbrev pub decreases-loop-at : goal.decreases-loop-at
decreases-loop-at l = l.at
