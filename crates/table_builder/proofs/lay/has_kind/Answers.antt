-- `has_kind` meets its contract: the flag of the kind and the name.
use Rattle.std.proofs.Common.{arith}
use Rattle.roles.specs.RoleLaws.{name_below}
use Rattle.table_builder.proofs.lay.has_kind.Goals as goal

pub number-requires : goal.number-requires
number-requires c = omega (arith, name_below _ 64 c.requires.1, c.name.ensures, c.requires.0.1.size)
