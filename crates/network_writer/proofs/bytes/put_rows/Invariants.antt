-- `put_rows` meets its contract. The invariant: the rows of the first places are put.
use Prim.Native.Nat.{◌+◌}
use lib.ListN.{get_or}
use Rattle.network_writer.specs.WritesNetwork.{joined}
use Rattle.network_writer.specs.RowBytes.{row_bytes, Puts}
use Rattle.network_writer.proofs.bytes.put_rows.Given as goal

abbrev pub invariant-loop-from : goal.invariant-loop-from
invariant-loop-from l = Puts l.initial.network l.start (joined l.from (λ a. row_bytes (get_or l.rows (l.front + a) 0) l.places)) l.network l.at
