-- `answer` meets its contract: `check_named` and the length judge the question, and `binds` decides one that is not refused.
use Rattle.std.proofs.Common.{arith, refl, ap}
use Rattle.query_causes.specs.ManyQueries.{cause_of}
use Rattle.query_parts.specs.AnswerBytes.{byte-refused, byte-found}
use Rattle.query_binder.specs.TrailBatchLaws.{asked-refused, asked_long, asked-ground, asked_decided}
use Rattle.query_binder.proofs.trail_batch.answer.Goals as goal

pub returns-in-Err-clause-answered_at : goal.returns-in-Err-clause-answered_at
returns-in-Err-clause-answered_at c =
    rw c.answer_byte.ensures
    (asked-refused c.requires.tabled c.args.input.now c.args.read c.requires.size_value.0 c.requires.size_value.1
    c.byte-role.ensures c.links-chain.ensures (ap cause_of c.in-Err.ensures) (byte-refused c.in-Err.refusal))

pub returns-then-chain-gt16-clause-answered_at : goal.returns-then-chain-gt16-clause-answered_at
returns-then-chain-gt16-clause-answered_at c =
    asked_long c.requires.tabled c.args.input.now c.args.read c.requires.size_value.0 c.requires.size_value.1
    c.byte-role.ensures c.links-chain.ensures (ap cause_of c.in_default.ensures) refl c.if-chain-gt16.true

pub binds-requires-clause-grounded : goal.binds-requires-clause-grounded
binds-requires-clause-grounded c =
    (asked-ground c.requires.tabled c.args.input.now c.args.read c.requires.size_value.0 c.requires.size_value.1
    c.byte-role.ensures c.links-chain.ensures (ap cause_of c.in_default.ensures) refl (omega arith) c.head.ensures).0

pub returns-clause-answered_at : goal.returns-clause-answered_at
returns-clause-answered_at c =
    rw (c.answer_byte-2.ensures, byte-found c.binds.result)
    (asked_decided c.requires.tabled c.args.input.now c.args.read c.requires.size_value.0 c.requires.size_value.1
    c.byte-role.ensures c.links-chain.ensures (ap cause_of c.in_default.ensures) refl (omega arith) c.head.ensures c.binds.ensures.reflects)
