-- `copy` meets its contract. The invariant: the first `i` elements are copied.
use mathlib.Core.Path.{◌≡◌}
use lib.ListN.{length, take}
use lib.Seq.{sets}
use Rattle.book_writer.proofs.copy.Given as goal

abbrev pub invariant-loop-i : goal.invariant-loop-i
invariant-loop-i l = (l.book ≡ sets l.initial.book l.at (take l.i l.part)) × (length l.book ≡ length l.initial.book)
