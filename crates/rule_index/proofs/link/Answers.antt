use Rattle.std.proofs.Common.{arith, length-set}
use Rattle.rule_index.specs.LinkingLaws.{linking_none, kind-small, name-small, linking_more}
use Rattle.rule_index.proofs.link.Goals as goal

pub loop-k-init : goal.loop-k-init
loop-k-init c = λ ρs l. linking_none l

pub bounds-index-kind : goal.bounds-index-kind
bounds-index-kind c =
    let l = c.requires.1 in
    let t = c.loop-k.invariant c.requires.0 l in
    simp length-set (omega (arith, t.size, kind-small l (omega arith) c.loop-k.auto.k t, name-small l (omega arith) c.loop-k.auto.k t c.name-x.ensures))

pub loop-k-preserved : goal.loop-k-preserved
loop-k-preserved c = λ ρs l. linking_more l (omega arith) c.loop-k.auto.k (c.loop-k.invariant ρs l) c.name-x.ensures
