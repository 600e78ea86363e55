-- `answer` meets its contract: `check_named` judges the question, and `run` decides one that is not refused.
use Rattle.std.proofs.Common.{refl, ap}
use Rattle.query_causes.specs.ManyQueries.{cause_of}
use Rattle.query_parts.specs.AnswerBytes.{byte-refused, byte-found}
use Rattle.query_answerer.specs.BatchLaws.{asked-refused, ready_readable, asked_decided}
use Rattle.query_answerer.proofs.batch.answer.Goals as goal

pub returns-in-Err : goal.returns-in-Err
returns-in-Err c =
    rw c.answer_byte.ensures
    (asked-refused c.requires.ready c.args.input.now c.args.read c.requires.size_value.0 c.requires.size_value.1
    c.byte-role.ensures c.links-chain.ensures (ap cause_of c.in-Err.ensures) (byte-refused c.in-Err.refusal))

pub run-requires : goal.run-requires
run-requires c =
    ready_readable c.requires.ready c.args.input.now c.args.read c.requires.size_value.0 c.requires.size_value.1
    c.byte-role.ensures c.links-chain.ensures (ap cause_of c.in_default.ensures) refl c.head.ensures c.requires.stamp_bound

pub returns : goal.returns
returns c =
    rw (c.answer_byte-2.ensures, byte-found c.run.result)
    (asked_decided c.requires.ready c.args.input.now c.args.read c.requires.size_value.0 c.requires.size_value.1
    c.byte-role.ensures c.links-chain.ensures (ap cause_of c.in_default.ensures) refl c.head.ensures c.run.ensures.prepared c.run.ensures.reflects)
