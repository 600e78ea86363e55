use Prim.Native.Nat.{◌+◌}
use native.Mathlib.Omega.{arith}
use lib.ListN.{get_or}
use Rattle.network_writer.specs.RowBytes.{row_bytes}
use Rattle.network_writer.specs.RowBytesLaws.{length-row, puts-start, puts-next, puts-room}
use Rattle.network_writer.proofs.bytes.put_rows.Goals as goal

pub loop-from-init : goal.loop-from-init
loop-from-init c = puts-start (λ a. row_bytes (get_or c.args.rows.now (c.args.front + a) 0) c.args.places)

pub put_row-at-requires : goal.put_row-at-requires
put_row-at-requires c = (
  puts-room (λ a. row_bytes (get_or c.args.rows.now (c.args.front + a) 0) c.args.places) c.args.places c.args.places c.loop-from.from
      (λ a. length-row (get_or c.args.rows.now (c.args.front + a) 0) c.args.places) (omega arith) c.requires.0 c.loop-from.invariant,
  c.requires.2,
)

pub loop-from-preserved : goal.loop-from-preserved
loop-from-preserved c =
    puts-next (λ a. row_bytes (get_or c.args.rows.now (c.args.front + a) 0) c.args.places) c.loop-from.invariant (rw c.row.ensures at c.put_row-at.ensures)
