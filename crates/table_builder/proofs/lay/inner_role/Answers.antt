-- `inner_role` meets its contract: link j of a chain, or of its inverse.
use Rattle.std.proofs.Common.{ap, ◌∙◌}
use Rattle.roles.specs.Role.{inv}
use Rattle.table_builder.specs.RowLaws.{inner-mirrored}
use Rattle.table_builder.proofs.lay.inner_role.Goals as goal

pub returns-then-row : goal.returns-then-row
returns-then-row c = inner-mirrored c.requires.1.1 c.requires.0 c.if-row.true (c.inverse.ensures ∙ ap inv c.number.ensures.0)
