-- `distinct` meets its contract. The invariant: the cursor is at rule `rule`, and the rules before it are met, in lists by name.
use mathlib.Core.Path.{◌≡◌}
use Rattle.book_format.specs.Place.{rule_place}
use Rattle.book_reader.specs.Lowest.{Sized}
use Rattle.book_reader.specs.RepeatSearchLaws.{Met}
use Rattle.book_reader.proofs.by_target.distinct.Given as goal

abbrev pub invariant-loop-rule : goal.invariant-loop-rule
invariant-loop-rule l = (l.cursor.at ≡ rule_place l.book l.rule) × (Met 64 l.book l.keys l.targets l.rule × Sized l.sizes l.rule)
