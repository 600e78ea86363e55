-- `insert` meets its contract: after the links are moved the left side fits into the gap.
use mathlib.Core.Path.{◌≡◌, refl, ◌∙◌}
use Prim.Native.Nat.{◌+◌, ◌-◌}
use native.Mathlib.Omega.{arith}
use lib.ListN.{length}
use Rattle.std.proofs.lemmas.Slice.{put_mid-paste}
use Rattle.derivation_checker.specs.InsertionLaws.{inserted-whole}
use Rattle.derivation_checker.proofs.step.insert.Goals as goal

pub returns : goal.returns
returns c =
    let entry = c.args in
    let past : entry.place + length entry.left.now ≡ entry.place + 1 + (length entry.left.now - 1) = omega arith in
    inserted-whole entry.links.now entry.left.now entry.size entry.place (omega arith) (omega arith) (omega arith)
    _ (c.copy_within.ensures.after ∙ rw past refl)
    _ (put_mid-paste entry.place _ _ _ entry.left.now (length entry.left.now) c.copy_from_slice.ensures.after (omega arith) refl)
