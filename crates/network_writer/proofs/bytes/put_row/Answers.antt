use mathlib.Core.List.{[], ◌∷◌}
use mathlib.Core.Path.{◌≡◌, ap, ◌∙◌}
use mir.Val.{bool_byte}
use Prim.Native.Nat.{suc, ◌+◌}
use native.Mathlib.Omega.{arith}
use lib.Bits.{bit_and}
use Rattle.name_sets.specs.Mask.{has}
use Rattle.name_sets.specs.MaskLaws.{has_half}
use Rattle.network_writer.specs.RowBytesLaws.{puts-start, puts-next, puts_byte, low_byte}
use Rattle.network_writer.proofs.bytes.put_row.Goals as goal
use Rattle.network_writer.proofs.bytes.put_row.Goals.{In-loop-to}

pub loop-to-init : goal.loop-to-init
loop-to-init c =
    let e : c.args.start + 0 ≡ c.args.start = omega arith in
    (rw e (puts-start (λ b. bool_byte (has c.args.set b) ∷ [])), λ b. ap (has c.args.set) (let d : b ≡ 0 + b = omega arith in d))

-- the lowest bit that is left is that of the next place
next-byte : (c : In-loop-to) → bit_and c.loop-to.rest 1 ≡ bool_byte (has c.args.set c.loop-to.to)
next-byte c =
    let e : c.loop-to.to + 0 ≡ c.loop-to.to = omega arith in
    low_byte c.loop-to.rest ∙ ap bool_byte (rw e at (c.loop-to.invariant.1 0))

pub loop-to-preserved : goal.loop-to-preserved
loop-to-preserved c =
    let e : c.args.start + c.loop-to.to + 1 ≡ c.args.start + (c.loop-to.to + 1) = omega arith in (
      rw (next-byte c) (rw e at (puts-next (λ b. bool_byte (has c.args.set b) ∷ []) c.loop-to.invariant.0 (puts_byte _ _ _))),
      λ b. has_half c.loop-to.rest b ∙ c.loop-to.invariant.1 (suc b) ∙ ap (has c.args.set) (let d : c.loop-to.to + suc b ≡ c.loop-to.to + 1 + b = omega arith in d),
    )
