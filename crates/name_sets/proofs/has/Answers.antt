use Rattle.std.proofs.Common.{sym, ◌∙◌, arith, le-ltb}
use Rattle.name_sets.specs.MemberLaws.{has_shift, has-past}
use Rattle.name_sets.proofs.has.Goals as goal

pub returns-then-x-lt64 : goal.returns-then-x-lt64
returns-then-x-lt64 c = has_shift _ _

pub returns-else-x-lt64 : goal.returns-else-x-lt64
returns-else-x-lt64 c = le-ltb _ _ c.if-x-lt64.false ∙ sym (has-past 64 _ _ (omega arith) c.if-x-lt64.false)
