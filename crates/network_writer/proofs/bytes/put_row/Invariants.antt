-- `put_row` meets its contract. The invariant: the bytes of the first places are put, and the others are left.
use mathlib.Core.Path.{◌≡◌}
use Prim.Native.Nat.{ℕ, ◌+◌}
use Rattle.name_sets.specs.Mask.{has}
use Rattle.network_writer.specs.RowBytes.{row_bytes, Puts}
use Rattle.network_writer.proofs.bytes.put_row.Given as goal

abbrev pub invariant-loop-to : goal.invariant-loop-to
invariant-loop-to l = Puts l.initial.network l.start (row_bytes l.set l.to) l.network (l.start + l.to) × ((b : ℕ) → has l.rest b ≡ has l.set (l.to + b))
