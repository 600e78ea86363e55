use Rattle.std.specs.Prelude.{◌≡◌, ◌+◌, ◌-◌, get_or, take, drop}
use Rattle.std.proofs.Common.{◌∙◌, arith, get_or-take, get_or-drop}
use Rattle.rule_index.specs.NumberedShape.{Says}
use Rattle.rule_index.specs.FillingLaws.{copied_more, copied_all, found-says}
use Rattle.rule_index.proofs.enter_rule.Goals as goal
use Rattle.rule_index.proofs.enter_rule.Goals.{After-numbers_of-numbers}

-- what the numbers say of the left side
says : (c : After-numbers_of-numbers) → Says c.args.left.now c.shape_of.result c.numbers_of-numbers.result
says c = found-says _ c.shape_of.ensures c.numbers_of-numbers.ensures

pub overflow_cast-index-2 : goal.overflow_cast-index-2
overflow_cast-index-2 c = omega (arith, (says c).within)

pub overflow_add-inner : goal.overflow_add-inner
overflow_add-inner c = omega (arith, (says c).within)

pub slice_bounds-inner-end : goal.slice_bounds-inner-end
slice_bounds-inner-end c = (says c).within

pub loop-i-preserved : goal.loop-i-preserved
loop-i-preserved c =
    let n = c.numbers_of-numbers.result in
    let copied : get_or (take (n.start + n.size - n.start) (drop n.start c.args.left.now)) c.loop-i.i 0 ≡ get_or c.args.left.now (n.start + c.loop-i.i) 0
    = get_or-take (n.start + n.size - n.start) (drop n.start c.args.left.now) c.loop-i.i 0 (omega arith) ∙ get_or-drop n.start c.args.left.now c.loop-i.i 0 in
    rw copied (copied_more c.requires.1 (omega (arith, (says (goal.at.loop-i-preserved c).After-numbers_of-numbers).within)) c.loop-i.invariant)

pub returns : goal.returns
returns c = copied_all _ c.shape_of.ensures c.numbers_of-numbers.ensures c.requires.0 c.requires.1 c.requires.2 (omega arith) c.loop-i.invariant
