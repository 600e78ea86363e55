use Prim.Native.Nat.{◌*◌}
use native.Mathlib.Nat.{zero-add}
use native.Mathlib.Omega.{arith}
use Rattle.network_writer.specs.RowBytes.{name_bytes}
use Rattle.network_writer.specs.RowBytesLaws.{length-name, puts-start, puts-next, puts-room}
use Rattle.network_writer.proofs.bytes.put_network.Goals as goal

pub loop-x-init : goal.loop-x-init
loop-x-init c = puts-start (λ y. name_bytes c.args.rows.now (64 * y) c.args.places)

pub put_name-at-requires : goal.put_name-at-requires
put_name-at-requires c = (
  puts-room {start = 0} (λ y. name_bytes c.args.rows.now (64 * y) c.args.places) (c.args.places * c.args.places) c.args.names c.loop-x.x
      (λ y. length-name c.args.rows.now (64 * y) c.args.places) (omega arith) (rw (zero-add) c.requires.0) c.loop-x.invariant,
  omega arith,
  c.requires.2,
)

pub loop-x-preserved : goal.loop-x-preserved
loop-x-preserved c = puts-next (λ y. name_bytes c.args.rows.now (64 * y) c.args.places) c.loop-x.invariant c.put_name-at.ensures
