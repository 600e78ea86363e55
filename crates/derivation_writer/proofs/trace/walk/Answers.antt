use mathlib.Core.List.{[], ◌∷◌}
use mathlib.Core.Path.{◌∙◌, ap}
use Prim.Native.Nat.{ℕ}
use native.Mathlib.Omega.{arith}
use lib.ListN.{length-set}
use Rattle.derivation_writer.specs.TracingLaws.{first, tracing-start, tracing-near, tracing-end, last-pending}
use Rattle.derivation_writer.proofs.trace.walk.Goals as goal

pub loop-place-init : goal.loop-place-init
loop-place-init c ready named =
    tracing-start ready _ _ named c.requires.found.0 (simp length-set c.requires.found.2)
    (last-pending c.args.pending.now _ c.requires.found.2 ∙ ap (λ (p : ℕ). p ∷ []) c.pair.ensures)

pub turn-place-requires-clause-pends : goal.turn-place-requires-clause-pends
turn-place-requires-clause-pends c =
    let a = c.loop-place.invariant c.requires.role_lt_roles.0 c.requires.role_lt_roles.1 in (c.requires.role_lt_roles.0, a.pends)

pub loop-place-smaller : goal.loop-place-smaller
loop-place-smaller c =
    let a = c.loop-place.invariant c.requires.role_lt_roles.0 c.requires.role_lt_roles.1 in
    omega (arith, c.turn-place.ensures.onward, tracing-near c.requires.role_lt_roles.0 _ _ (first c.loop-place-test.true a.pends) a)

pub loop-place-preserved : goal.loop-place-preserved
loop-place-preserved c ready named =
    c.turn-place.ensures.tracing ready _ _ (c.loop-place.invariant ready named)

pub returns : goal.returns
returns c ready named = tracing-end ready _ _ c.loop-place-test.false (c.loop-place.invariant ready named)
