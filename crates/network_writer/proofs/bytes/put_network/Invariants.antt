-- `put_network` meets its contract. The invariant: the links of the first names are put.
use Prim.Native.Nat.{◌*◌}
use Rattle.network_writer.specs.WritesNetwork.{joined}
use Rattle.network_writer.specs.RowBytes.{name_bytes, Puts}
use Rattle.network_writer.proofs.bytes.put_network.Given as goal

abbrev pub invariant-loop-x : goal.invariant-loop-x
invariant-loop-x l = Puts l.initial.network 0 (joined l.x (λ y. name_bytes l.rows (64 * y) l.places)) l.network l.at
