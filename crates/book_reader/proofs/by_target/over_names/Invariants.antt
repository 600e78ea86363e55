-- `over_names` meets its contract. The invariant: the lowest repeat of the names before the present one.
use Rattle.book_reader.specs.Lowest.{Lowest}
use Rattle.book_reader.proofs.by_target.over_names.Given as goal

abbrev pub invariant-loop-name : goal.invariant-loop-name
invariant-loop-name l = Lowest l.keys l.name l.header.rules l.lowest
