use mathlib.Core.Path.{◌≡◌}
use Prim.Native.Nat.{◌<◌}
use native.Mathlib.Omega.{arith}
use Rattle.roles.specs.Role.{name}
use borrow.Author.Tests.{not-true, not-false, ltb-true, ltb-false}
use Rattle.refusals.specs.Check.{check-passed, check_failed}
use Rattle.book_decoder.specs.VerdictLaws.{headed}
use Rattle.book_format.specs.Place.{rule_place}
use Rattle.book_reader.specs.EnteredLaws.{entered-none}
use Rattle.book_reader.specs.LowestLaws.{sized_start, sized_next}
use Rattle.book_reader.specs.ShortLaws.{bounded}
use Rattle.book_reader.specs.KeyedAtLaws.{turn-whole, turn-short, turn-key, turn-next, turn_target, turn-name}
use Rattle.book_reader.specs.RepeatSearchLaws.{Met, met_next, lowest-judged, none-judged}
use Rattle.book_reader.proofs.by_target.distinct.Goals as goal
use Rattle.book_reader.proofs.by_target.distinct.Goals.{After-keyed_rule-keyed, After-loop-rule}

pub loop-rule-init : goal.loop-rule-init
unfolding rule_place
loop-rule-init c = (c.first-cursor.ensures, (record { entered = entered-none 64 (omega arith); keyed = λ k l. absurd (omega arith) }, sized_start))

pub keyed_rule-keyed-requires-clause-at_value : goal.keyed_rule-keyed-requires-clause-at_value
keyed_rule-keyed-requires-clause-at_value c =
    let reading = headed c.requires in
    let bounds = bounded c.requires in
    let place = c.loop-rule.invariant.0 in turn-whole reading bounds place c.loop-rule-test.true

pub keyed_rule-keyed-requires-clause-short : goal.keyed_rule-keyed-requires-clause-short
keyed_rule-keyed-requires-clause-short c =
    let reading = headed c.requires in
    let bounds = bounded c.requires in
    let place = c.loop-rule.invariant.0 in turn-short reading bounds place c.loop-rule-test.true

pub enter-requires-clause-list_value : goal.enter-requires-clause-list_value
enter-requires-clause-list_value c = cc (turn_target (headed c.requires) (bounded c.requires) c.loop-rule.invariant.0 c.loop-rule-test.true c.keyed_rule-keyed.ensures)

-- the name on the right is one of 64
named : (c : After-keyed_rule-keyed) → name c.keyed_rule-keyed.result.right < 64
named c = turn-name (headed c.requires) (bounded c.requires) c.loop-rule.invariant.0 c.loop-rule-test.true c.keyed_rule-keyed.ensures

pub enter-requires-clause-list_lt_lists : goal.enter-requires-clause-list_lt_lists
enter-requires-clause-list_lt_lists c = omega (arith, named (goal.at.enter-requires-clause-list_lt_lists c).After-keyed_rule-keyed)

pub enter-requires-clause-count_bound : goal.enter-requires-clause-count_bound
enter-requires-clause-count_bound c = omega (arith, (bounded c.requires).few)

pub loop-rule-preserved : goal.loop-rule-preserved
loop-rule-preserved c =
    let reading = headed c.requires in
    let bounds = bounded c.requires in
    let inside = c.loop-rule-test.true in
    let place = c.loop-rule.invariant.0 in (
      turn-next reading bounds place inside c.keyed_rule-keyed.ensures,
      (
        met_next reading bounds c.loop-rule.invariant.1.0 inside (turn-key reading bounds place inside c.keyed_rule-keyed.ensures) c.enter.ensures.keys c.enter.ensures.lists,
        sized_next c.loop-rule.invariant.1.1 _ (omega (arith, named (goal.at.loop-rule-preserved c).After-keyed_rule-keyed)),
      ),
    )

pub over_names-lowest-requires-clause-names_bound : goal.over_names-lowest-requires-clause-names_bound
over_names-lowest-requires-clause-names_bound c =
    let e : c.loop-rule.rule ≡ c.args.header.rules = omega arith in (bounded c.requires).few_names

all_met : (c : After-loop-rule) → Met 64 c.args.book.now c.loop-rule.keys c.loop-rule.targets c.args.header.rules
all_met c = let e : c.loop-rule.rule ≡ c.args.header.rules = omega arith in rw e at c.loop-rule.invariant.1.0

pub returns-in_default : goal.returns-in_default
returns-in_default c = lowest-judged (headed c.requires) (bounded c.requires) (all_met (goal.at.returns-in_default c).After-loop-rule).keyed c.over_names-lowest.ensures (ltb-true _ _ (not-false _ (check_failed _ _ c.no_rule.ensures c.in_default.is)))

pub returns : goal.returns
returns c = none-judged (headed c.requires) (bounded c.requires) (all_met (goal.at.returns c).After-loop-rule).keyed c.over_names-lowest.ensures (ltb-false _ _ (not-true _ (check-passed _ _ c.no_rule.ensures c.in-Passed.is)))

pub bounds-sizes-target : goal.bounds-sizes-target
bounds-sizes-target c = omega (arith, named (goal.at.bounds-sizes-target c).After-keyed_rule-keyed)

pub bounds-sizes-target-in-loop-rule : goal.bounds-sizes-target-in-loop-rule
bounds-sizes-target-in-loop-rule c = omega (arith, named (goal.at.bounds-sizes-target-in-loop-rule c).After-keyed_rule-keyed)
