-- `decode_rules` meets its contract. The invariant: the cursor is at rule `number`, and the whole reading is the one from there on.
use mathlib.Core.Path.{◌≡◌}
use Rattle.book_format.specs.Place.{rule_place}
use Rattle.book_format.specs.RuleLoopLaws.{Running}
use Rattle.book_decoder.proofs.decode_rules.Given as goal

abbrev pub invariant-loop-number : goal.invariant-loop-number
invariant-loop-number l = (l.cursor.at ≡ rule_place l.book l.number) × Running l.book l.header.names l.header.rules l.number
