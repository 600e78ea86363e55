-- `many` meets its contract. The invariant: the keys of the relation's rules from the entry on are met, and of these rules none below `least` repeats another.
use Rattle.book_reader.specs.RelationLaws.{Split}
use Rattle.book_reader.proofs.relation.many.Given as goal

abbrev pub invariant-loop-at : goal.invariant-loop-at
invariant-loop-at l = Split l.keys l.targets l.name l.lowest l.met l.numbers l.index l.count l.least l.at

abbrev pub decreases-loop-at : goal.decreases-loop-at
decreases-loop-at l = l.at
