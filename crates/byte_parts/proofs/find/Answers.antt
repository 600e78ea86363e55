use Rattle.std.proofs.Common.{◌∙◌, arith}
use Rattle.byte_parts.specs.BytesLaws.{ahead-found, ahead-next, ahead-end}
use Rattle.byte_parts.proofs.find.Goals as goal

pub returns-then-bytes-i : goal.returns-then-bytes-i
returns-then-bytes-i c = omega (arith, ahead-found)

pub loop-i-preserved : goal.loop-i-preserved
loop-i-preserved c = c.loop-i.invariant ∙ ahead-next _ _ _ (omega arith) c.if-bytes-i.false

pub returns : goal.returns
returns c = grind (arith, ahead-end)
