-- `gather` meets its contract. The invariant: the cursor is at rule `number`, and the masks hold the order that the rules before it force.
use mathlib.Core.Path.{◌≡◌}
use lib.ListN.{length}
use Rattle.book_format.specs.Place.{rule_place}
use Rattle.order_checker.specs.GatherLaws.{Gathers}
use Rattle.order_checker.proofs.gather.Given as goal

abbrev pub invariant-loop-number : goal.invariant-loop-number
invariant-loop-number l = (l.cursor.at ≡ rule_place l.book l.number) × ((length l.masks ≡ l.header.names) × Gathers l.book l.masks l.number)
