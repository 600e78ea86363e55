-- `keep` meets its contract: the front of the buffer is the part that is copied.
use lib.Seq.{slice, length-slice}
use Prim.Native.Nat.{◌-◌, ◌≤◌}
use mathlib.Core.Path.{◌≡◌, refl}
use lib.ListN.{length, take, drop}
use native.Mathlib.Omega.{arith}
use borrow.Author.Rules.{rules}
use Rattle.std.proofs.lemmas.Slice.{between_is}
use Rattle.transcript_writer.proofs.block.keep.Goals as goal

pub returns : goal.returns
returns c =
    let inside : c.args.end ≤ length c.args.buffer.now = c.requires.1 in
    let part : take (c.args.end - c.args.from) (drop c.args.from c.args.buffer.now) ≡ slice c.args.from c.args.end c.args.buffer.now =
    search (rules, between_is) in
    let size : length (slice c.args.from c.args.end c.args.buffer.now) ≡ c.args.end - c.args.from = length-slice _ _ _ inside in
    record { bytes = rw (size, c.copy_within.ensures.after, part) refl; ends = omega (arith, size); fits = omega arith }
