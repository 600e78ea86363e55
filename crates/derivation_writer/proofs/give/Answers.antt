-- `give` meets its contract.
use native.Mathlib.Omega.{arith}
use Rattle.derivation_writer.specs.WritesLaws.{searched_ready, gives_buffer, gives_none, gives-steps}
use mathlib.Core.Path.{sym}
use mathlib.Core.Path.{◌∙◌}
use Rattle.derivation_writer.proofs.give.Goals as goal

pub returns-then-steps-lt16384 : goal.returns-then-steps-lt16384
returns-then-steps-lt16384 c b q = gives_buffer b _ _ c.args.steps.now (omega (arith, c.if-steps-lt16384.true))

pub returns-then-not-derives : goal.returns-then-not-derives
returns-then-not-derives c b q =
    gives_none b _ _ c.args.steps.now (omega (arith, c.if-steps-lt16384.false)) q.searched (sym c.derives.ensures ∙ c.if-not-derives.true)

pub trace-requires-clause-role_lt_roles : goal.trace-requires-clause-role_lt_roles
trace-requires-clause-role_lt_roles c =
    let found = sym c.derives.ensures ∙ c.if-not-derives.false in (searched_ready c.requires.1.searched, c.requires.1.named)

pub trace-requires-clause-found : goal.trace-requires-clause-found
trace-requires-clause-found c =
    let found = sym c.derives.ensures ∙ c.if-not-derives.false in (found, c.if-steps-lt16384.false)

pub returns : goal.returns
returns c b q =
    gives-steps b _ _ _ c.if-steps-lt16384.false q.searched
    (c.trace.ensures (searched_ready q.searched) q.named)
