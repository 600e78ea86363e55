use mathlib.Core.Path.{refl}
use Prim.Native.Nat.{◌-◌}
use native.Mathlib.Omega.{arith}
use lib.ListN.{get_or}
use Rattle.book_reader.specs.EnteredLaws.{last_found}
use Rattle.book_reader.specs.RelationLaws.{split-start, split-end, split-next}
use Rattle.book_reader.proofs.relation.many.Goals as goal

pub loop-at-init : goal.loop-at-init
loop-at-init c = split-start c.requires.gathered c.requires.name_bound

pub loop-at-preserved : goal.loop-at-preserved
loop-at-preserved c =
    let so_far = c.loop-at.invariant in
    let own = get_or c.args.keys.now (c.loop-at.at - 1) 0 in
    split-next so_far c.loop-at-test.true (last_found so_far.entered own _ refl (omega arith) c.find.ensures) c.lower-least.ensures c.enter.ensures.keys c.enter.ensures.lists

pub returns : goal.returns
returns c = split-end c.loop-at.invariant (omega arith)
