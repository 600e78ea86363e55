use mathlib.Core.Path.{◌≡◌, refl, ◌∙◌}
use native.Mathlib.Omega.{arith}
use borrow.Author.Tests.{not-true, not-false}
use Rattle.refusals.specs.Check.{check-passed, check_failed}
use Rattle.book_decoder.specs.VerdictLaws.{headed}
use Rattle.book_format.specs.Place.{rule_place}
use Rattle.book_format.specs.RepeatLaws.{searching_start}
use Rattle.book_reader.specs.EnteredLaws.{entered-none, last-among}
use Rattle.book_reader.specs.ShortLaws.{bounded}
use Rattle.book_reader.specs.KeyedAtLaws.{turn-whole, turn-short, turn-key, turn-next}
use Rattle.book_reader.specs.RepeatSearchLaws.{judged-none, met_next, rule-repeats, rule_passes}
use Rattle.book_reader.proofs.by_rule.distinct.Goals as goal

pub loop-later-init : goal.loop-later-init
unfolding rule_place
loop-later-init c = (c.first-cursor.ensures, ((λ n. searching_start), record { entered = entered-none 251 (omega arith); keyed = λ k l. absurd (omega arith) }))

pub keyed_rule-keyed-requires-clause-at_value : goal.keyed_rule-keyed-requires-clause-at_value
keyed_rule-keyed-requires-clause-at_value c =
    let reading = headed c.requires in
    let bounds = bounded c.requires in
    let place = c.loop-later.invariant.0 in turn-whole reading bounds place c.loop-later-test.true

pub keyed_rule-keyed-requires-clause-short : goal.keyed_rule-keyed-requires-clause-short
keyed_rule-keyed-requires-clause-short c =
    let reading = headed c.requires in
    let bounds = bounded c.requires in
    let place = c.loop-later.invariant.0 in turn-short reading bounds place c.loop-later-test.true

pub returns-in_default : goal.returns-in_default
returns-in_default c =
    let reading = headed c.requires in
    let bounds = bounded c.requires in
    let met = c.loop-later.invariant.1.1 in
    let inside = c.loop-later-test.true in
    rule-repeats reading bounds met inside (turn-key reading bounds c.loop-later.invariant.0 inside c.keyed_rule-keyed.ensures) c.loop-later.invariant.1.0
    (last-among met.entered c.keyed_rule-keyed.result.key _ refl (omega arith) ∙ not-false _ (check_failed _ _ c.fresh.ensures c.in_default.is))

pub enter-requires-clause-count_bound : goal.enter-requires-clause-count_bound
enter-requires-clause-count_bound c = omega (arith, (bounded c.requires).few)

pub loop-later-preserved : goal.loop-later-preserved
loop-later-preserved c =
    let reading = headed c.requires in
    let bounds = bounded c.requires in
    let met = c.loop-later.invariant.1.1 in
    let inside = c.loop-later-test.true in
    let own = turn-key reading bounds c.loop-later.invariant.0 inside c.keyed_rule-keyed.ensures in (
      turn-next reading bounds c.loop-later.invariant.0 inside c.keyed_rule-keyed.ensures,
      (
        rule_passes reading bounds met inside own c.loop-later.invariant.1.0
            (last-among met.entered c.keyed_rule-keyed.result.key _ refl (omega arith) ∙ not-true _ (check-passed _ _ c.fresh.ensures c.in-Passed.is)),
        met_next reading bounds met inside own c.enter.ensures.keys c.enter.ensures.lists,
      ),
    )

pub returns : goal.returns
returns c =
    let all : c.loop-later.later ≡ c.args.header.rules = omega arith in
    judged-none (headed c.requires) refl (rw all at (c.loop-later.invariant.1.0 c.args.header.names))
