use Rattle.std.specs.Prelude.{ℕ}
use Rattle.std.proofs.Common.{refl, arith}
use Rattle.std.proofs.lemmas.List.{get_or-replicate}
use Rattle.table_builder.specs.RootsLaws.{rooting_start, rooting_next, rooting_end}
use Rattle.table_builder.specs.MemoLaws.{memo-none}
use Rattle.table_builder.proofs.lay.roots.Goals as goal

pub loop-x-init : goal.loop-x-init
loop-x-init c = (rooting_start, memo-none refl (λ r h. get_or-replicate {A = ℕ} 512 r 0 0 (omega arith)))

pub loop-x-preserved : goal.loop-x-preserved
loop-x-preserved c =
    let fragment = c.fragment-place in
    (rooting_next c.loop-x.invariant.0 c.loop-x-test.true c.put.ensures fragment.ensures.small fragment.auto.moves fragment.ensures.laid, fragment.ensures.memo)

pub returns : goal.returns
returns c = rooting_end c.loop-x.invariant.0 c.loop-x-test.false
