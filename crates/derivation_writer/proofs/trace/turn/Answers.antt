-- `turn` meets its contract.
use Prim.Native.Nat.{◌/◌, ◌%◌}
use native.Mathlib.Omega.{arith}
use Rattle.derivation_steps.specs.StepBytes.{StepPut}
use Rattle.derivation_steps.specs.StepBytesLaws.{put_small}
use Rattle.derivation_writer.specs.TracingLaws.{First, first, first-inside, Given, given, turned-link, turned-rule}
use Rattle.derivation_writer.proofs.trace.turn.Goals as goal
use Rattle.derivation_writer.proofs.trace.turn.Goals.{After-put_step, After-rule_by-q, Start}

-- the first pending role
top-first : (c : Start) → First c.requires.pends.0.roles c.args.chain.now c.args.chart.now c.args.pending.now c.args.place
top-first c = first c.requires.top_bound.0 c.requires.pends.1

pub stands-requires : goal.stands-requires
stands-requires c = first-inside c.requires.pends.0 (top-first (goal.at.stands-requires c).Start)

pub returns-then-stands : goal.returns-then-stands
returns-then-stands c = turned-link c.requires.top_bound.0 (c.stands.ensures.holds c.if-stands.true)

pub rule_by-q-requires : goal.rule_by-q-requires
rule_by-q-requires c =
    let earlier = (goal.at.rule_by-q-requires c).Start in let inside = first-inside c.requires.pends.0 (top-first earlier) in (
      omega (arith, (top-first earlier).named, c.requires.pends.0.charted.size),
      inside.0,
      omega (arith, inside.1, c.requires.pends.0.charted.short),
    )

-- the rule that it was found by, where it is no link itself
by-rule : (c : After-rule_by-q) → Given c.requires.pends.0 (top-first (goal.at.After-rule_by-q c).Start) c.rule_by-q.result
by-rule c =
    given c.requires.pends.0 (top-first (goal.at.After-rule_by-q c).Start) c.rule_by-q.result c.rule_by-q.ensures (c.stands.ensures.fails c.if-stands.false)

pub left_of-requires : goal.left_of-requires
left_of-requires c =
    let g = by-rule (goal.at.left_of-requires c).After-rule_by-q in
    (g.small, g.tabled, g.links)

pub divide-top-requires-clause-left_len_bound : goal.divide-top-requires-clause-left_len_bound
divide-top-requires-clause-left_len_bound c =
    let g = by-rule (goal.at.divide-top-requires-clause-left_len_bound c).After-rule_by-q in rw c.left_of.ensures (g.room, omega (arith, c.requires.top_bound.0, c.requires.pends.1.size), omega (arith, (first-inside c.requires.pends.0 (top-first (goal.at.divide-top-requires-clause-left_len_bound c).Start)).1, c.requires.pends.0.charted.short))

pub divide-top-requires-clause-by_index : goal.divide-top-requires-clause-by_index
divide-top-requires-clause-by_index c =
    let g = by-rule (goal.at.divide-top-requires-clause-by_index c).After-rule_by-q in rw c.left_of.ensures (λ k h. omega (arith, g.named k h, c.requires.pends.0.charted.few))

pub divide-top-requires-clause-splits : goal.divide-top-requires-clause-splits
divide-top-requires-clause-splits c =
    let g = by-rule (goal.at.divide-top-requires-clause-splits c).After-rule_by-q in rw c.left_of.ensures g.splits

-- the step by it, in four bytes
stored : (c : After-put_step) → StepPut c.args.steps.now c.args.place.step (record { place = c.args.place.link; number = c.rule_by-q.result / 2; side = c.rule_by-q.result % 2 }) c.put_step.new.steps
stored c =
    let inside = first-inside c.requires.pends.0 (top-first (goal.at.After-put_step c).Start) in
    put_small _ _ _ _ c.put_step.ensures (omega (arith, c.requires.top_bound.1, c.requires.top_bound.2)) (omega (arith, inside.0, inside.1, c.requires.pends.0.charted.short)) (omega (arith, (by-rule (goal.at.After-put_step c).After-rule_by-q).small)) (omega arith)

pub returns : goal.returns
returns c =
    turned-rule c.requires.top_bound.0 _ c.rule_by-q.ensures (c.stands.ensures.fails c.if-stands.false)
    c.left_of.ensures (stored (goal.at.returns c).After-put_step) c.divide-top.ensures
