-- `seek` meets its contract. The invariant: the cursor is at the rule of that number.
use mathlib.Core.Path.{◌≡◌}
use Rattle.book_format.specs.Place.{rule_place}
use Rattle.book_left_sides.proofs.seek.Given as goal

abbrev pub invariant-loop : goal.invariant-loop
invariant-loop l = l.cursor.at ≡ rule_place l.book l.counter
