-- Each lays its pieces one after another, and the memo stays true.
use mathlib.Core.Path.{ap, ◌∙◌}
use native.Mathlib.Omega.{arith}
use Rattle.roles.specs.Role.{name}
use Rattle.roles.specs.RoleLaws.{name-inv, inv-below}
use Rattle.rule_index.specs.RuleIndex.{level_in}
use Rattle.rule_index.specs.RuleIndexLaws.{at-start}
use Rattle.table_builder.specs.FragmentLaws.{over-laid, again_held, again_laid, lettered_by, mirrors_by, ready_lettered, ready-laid, ready-added, fragment_after, fragment_laid}
use Rattle.table_builder.specs.RowLaws.{row-none, rowing_added, rowing_next, rowing_end}
use Rattle.table_builder.specs.RulesLaws.{walking_next, walking_end}
use Rattle.table_builder.proofs.lay.+fragment_row_rows.Goals as goal

pub fragment-returns-then-initial-gt2046 : goal.fragment-returns-then-initial-gt2046
fragment-returns-then-initial-gt2046 t c = over-laid c.requires c.if-initial-gt2046.true

pub fragment-again-requires-clause-by_index : goal.fragment-again-requires-clause-by_index
fragment-again-requires-clause-by_index t c = again_held c.requires (omega arith)

pub fragment-returns-then-memo-r-gt0 : goal.fragment-returns-then-memo-r-gt0
fragment-returns-then-memo-r-gt0 t c = again_laid c.requires c.if-memo-r-gt0.true c.again.ensures.small c.again.ensures.laid c.again.auto.moves

pub fragment-rows-own-requires : goal.fragment-rows-own-requires
fragment-rows-own-requires t c =
    let few = c.if-initial-gt2046.false in
    let lettered = lettered_by c.requires c.has_kind-symmetric.ensures few c.has_kind-transitive.ensures c.letters-lettered.ensures in
    (omega arith, (ready_lettered c.requires lettered c.letters-lettered.auto.moves, (λ ρs i. rw c.first_of-first.ensures (at-start i c.args.role c.requires.role), few)))

pub fragment-rows-all-requires : goal.fragment-rows-all-requires
fragment-rows-all-requires t c =
    let mirrors = mirrors_by c.requires c.has_kind-symmetric.ensures c.first_of-first.ensures c.mirror_of-mirror.ensures in (
      omega (arith, ap (level_in c.args.index.now) (ap name c.inverse.ensures ∙ name-inv c.args.role)),
      (
        ready-laid c.requires c.rows-own.ensures.small c.rows-own.ensures.memo _ (rw c.inverse.ensures (inv-below _ 64 c.requires.role)),
        (λ ρs i. rw c.inverse.ensures (mirrors.here ρs i), c.if-initial-gt2046.false),
      ),
    )

pub fragment-keep-requires-clause-state_le_state : goal.fragment-keep-requires-clause-state_le_state
fragment-keep-requires-clause-state_le_state t c =
    let lettered = lettered_by c.requires c.has_kind-symmetric.ensures c.if-initial-gt2046.false c.has_kind-transitive.ensures c.letters-lettered.ensures in
    let mirrors = mirrors_by c.requires c.has_kind-symmetric.ensures c.first_of-first.ensures c.mirror_of-mirror.ensures in
    fragment_after c.requires lettered c.first_of-first.ensures c.rows-own.ensures mirrors c.inverse.ensures c.rows-all.ensures

pub fragment-returns : goal.fragment-returns
fragment-returns t c =
    let lettered = lettered_by c.requires c.has_kind-symmetric.ensures c.if-initial-gt2046.false c.has_kind-transitive.ensures c.letters-lettered.ensures in
    let mirrors = mirrors_by c.requires c.has_kind-symmetric.ensures c.first_of-first.ensures c.mirror_of-mirror.ensures in
    fragment_laid c.requires lettered c.first_of-first.ensures c.rows-own.ensures mirrors c.inverse.ensures c.rows-all.ensures (c.rows-all.auto.moves ∙ (c.rows-own.auto.moves ∙ c.letters-lettered.auto.moves)) c.keep.ensures

pub row-returns-then-row-eq0 : goal.row-returns-then-row-eq0
row-returns-then-row-eq0 t c = row-none c.row_of-row.ensures c.if-row-eq0.true c.requires.ready

pub row-fragment-at-requires : goal.row-fragment-at-requires
row-fragment-at-requires t c =
    let turn = c.loop-j.invariant in (
      omega (arith, c.inner_role.ensures.lower (level_in c.args.index.now (name c.args.role)) c.row_of-row.ensures.inner),
      ready-added c.requires.ready (rowing_added turn (omega (arith, turn.small.state)) c.add-at.ensures) c.add-at.auto.moves turn.memo _ c.inner_role.ensures.small,
    )

pub row-loop-j-preserved : goal.row-loop-j-preserved
row-loop-j-preserved t c =
    let turn = c.loop-j.invariant in
    rowing_next c.row_of-row.ensures turn c.add-at.auto.moves (rowing_added turn (omega (arith, turn.small.state)) c.add-at.ensures) c.loop-j-test.true c.inner_role.ensures c.fragment-at.auto.moves c.fragment-at.ensures

pub row-returns : goal.row-returns
row-returns t c =
    let turn = c.loop-j.invariant in
    rowing_end c.row_of-row.ensures turn c.add.auto.moves (rowing_added turn (omega (arith, c.row_of-row.ensures.near.1)) c.add.ensures) c.loop-j-test.false c.if-row-eq0.false

pub rows-loop-k-preserved : goal.rows-loop-k-preserved
rows-loop-k-preserved t c = walking_next c.loop-k.invariant c.loop-k-test.true c.number-k.ensures.0 c.row-at.ensures c.row-at.auto.moves

pub rows-returns : goal.rows-returns
rows-returns t c = walking_end c.loop-k.invariant c.loop-k-test.false
