-- The level of a role falls from a fragment to its inner fragments, and so does each measure; the loops keep what is laid so far.
use Rattle.std.proofs.Common.{◌+◌, ◌-◌, ◌*◌}
use Rattle.roles.specs.Role.{name}
use Rattle.rule_index.specs.RuleIndex.{level_in}
use Rattle.table_builder.specs.RowLaws.{Rowing}
use Rattle.table_builder.specs.RulesLaws.{Walking}
use Rattle.table_builder.proofs.lay.+fragment_row_rows.Given as goal

abbrev pub decreases-fragment : goal.decreases-fragment
decreases-fragment l = 3 * level_in l.index.now (name l.role) + 2

abbrev pub decreases-row : goal.decreases-row
decreases-row l = 3 * level_in l.index.now (name l.role)

abbrev pub decreases-rows : goal.decreases-rows
decreases-rows l = 3 * level_in l.index.now (name l.role) + 1

abbrev pub invariant-row-loop-j : goal.invariant-row-loop-j
invariant-row-loop-j l = Rowing l.index (level_in l.index (name l.role)) l.row l.initial.at l.initial.moves l.at l.memo l.moves l.reached l.j

abbrev pub invariant-rows-loop-k : goal.invariant-rows-loop-k
invariant-rows-loop-k l = Walking l.index l.role l.initial' l.first l.initial.at l.initial.moves l.k l.at l.memo l.moves

abbrev pub decreases-rows-loop-k : goal.decreases-rows-loop-k
decreases-rows-loop-k l = 256 - l.k
