-- `row_of` meets its contract: the rule's numbers, as they stand or turned round.
use Rattle.std.proofs.Common.{sym, ◌∙◌}
use Rattle.table_builder.specs.RowLaws.{found-straight, found-mirrored}
use Rattle.table_builder.proofs.lay.row_of.Goals as goal

pub returns-then-number-role : goal.returns-then-number-role
returns-then-number-role c =
    let pre = c.requires in
    found-straight pre.0.1 _ _ _ pre.1 pre.2 pre.3 c.number-from.ensures.0 c.number-to.ensures.0 c.inner_count-size.ensures (sym c.number.ensures.0 ∙ c.if-number-role.true)

pub returns-else-number-role : goal.returns-else-number-role
returns-else-number-role c =
    let pre = c.requires in
    found-mirrored pre.0.1 _ _ _ pre.1 pre.2 pre.3 c.number-from.ensures.0 c.number-to.ensures.0 c.inner_count-size.ensures (λ e. c.if-number-role.false (c.number.ensures.0 ∙ e))
