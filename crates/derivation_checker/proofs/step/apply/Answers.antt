-- `apply` meets its contract: each test that fails makes the step impossible, and where all pass the left side is inserted.
use mathlib.Core.Path.{refl}
use native.Mathlib.Omega.{arith}
use Rattle.derivation_checker.specs.AppliedLaws.{no_place, no_rule, no-side, no-right, no_room, taken, taken-one}
use Rattle.derivation_checker.proofs.step.apply.Goals as goal
use Rattle.derivation_checker.proofs.step.apply.Goals.{then-size-place-via-then-size-place, then-size-place-via-else-size-place+then-rules-number, then-size-place-via-else-size-place+else-rules-number+then-side-gt1}

pub returns-then-size-place : goal.returns-then-size-place
returns-then-size-place c =
    elim c.then-size-place.branch [
      | then-size-place-via-then-size-place w ↦ no_place c.requires c.args.step (omega arith)
      | then-size-place-via-else-size-place+then-rules-number w ↦ no_rule c.requires c.args.step (omega arith)
      | then-size-place-via-else-size-place+else-rules-number+then-side-gt1 w ↦ no-side c.requires c.args.step (omega arith)
    ]

pub returns-then-links-place : goal.returns-then-links-place
returns-then-links-place c =
    no-right c.requires c.args.step (omega arith) c.if-links-place.true

-- a left side of one role
pub returns-then-count-eq1 : goal.returns-then-count-eq1
returns-then-count-eq1 c =
    let right = c.if-links-place.false in
    taken-one c.requires c.args.step (omega arith) (omega arith) (omega arith) right c.if-count-eq1.true

pub returns-then-size-count-gt17 : goal.returns-then-size-count-gt17
returns-then-size-count-gt17 c =
    no_room c.requires c.args.step (omega arith) (omega arith) (omega arith)

pub returns : goal.returns
returns c =
    let right = c.if-links-place.false in
    taken c.requires c.args.step (omega arith) (omega arith) (omega arith) right (omega arith) _ _ refl c.insert.ensures
