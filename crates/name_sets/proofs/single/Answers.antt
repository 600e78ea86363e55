use Rattle.std.proofs.Common.{arith}
use Rattle.name_sets.specs.MemberLaws.{only_shift, only-past}
use Rattle.name_sets.proofs.single.Goals as goal

pub returns-then-x-lt64 : goal.returns-then-x-lt64
returns-then-x-lt64 c = only_shift _ (omega arith)

pub returns-else-x-lt64 : goal.returns-else-x-lt64
returns-else-x-lt64 c = only-past _ (omega arith)
