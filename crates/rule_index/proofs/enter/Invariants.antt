-- `enter` meets its contract. The invariant: the cursor is at rule `k`, and the rules before it are entered.
use mathlib.Core.Path.{◌≡◌}
use Rattle.book_format.specs.Place.{rule_place}
use Rattle.rule_index.specs.Filling.{Entering}
use Rattle.rule_index.proofs.enter.Given as goal

abbrev pub invariant-loop-k : goal.invariant-loop-k
invariant-loop-k l = (l.cursor.at ≡ rule_place l.book l.k) × Entering l.book l.k l.index
