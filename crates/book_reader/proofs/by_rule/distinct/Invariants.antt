-- `distinct` meets its contract. The invariant: the cursor is at rule `later`, the search has come to it, and the rules before it are met.
use mathlib.Core.Path.{◌≡◌}
use Prim.Native.Nat.{ℕ}
use Rattle.book_format.specs.Place.{rule_place}
use Rattle.book_format.specs.RepeatLaws.{Searching}
use Rattle.book_reader.specs.RepeatSearchLaws.{Met}
use Rattle.book_reader.proofs.by_rule.distinct.Given as goal

abbrev pub invariant-loop-later : goal.invariant-loop-later
invariant-loop-later l = (l.cursor.at ≡ rule_place l.book l.later) × (((n : ℕ) → Searching l.book n l.fn.header.rules l.later) × Met 251 l.book l.keys l.index l.later)
