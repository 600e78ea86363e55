use Rattle.std.proofs.Common.{arith, ◌≡◌, length, refl, sym}
use Rattle.std.proofs.lemmas.List.{set-get_or}
use Rattle.query_answerer.specs.BatchLaws.{going_next, going_full, going_broken}
use Rattle.query_binder.proofs.trail_batch.answer_each.Goals as goal

pub loop-answered-preserved : goal.loop-answered-preserved
loop-answered-preserved c =
    (going_next c.loop-answered.invariant.0 c.in-Some.ensures.0 (λ z. omega (arith, c.in-Some.ensures.1, z)) c.answer.result (omega arith) c.answer.ensures.answered_at, c.answer.ensures.unused_2)

pub returns-in_default : goal.returns-in_default
returns-in_default c = rw set-get_or (going_broken c.loop-answered.invariant.0 (sym c.in_default.ensures) refl)

pub returns : goal.returns
returns c =
    let e : length c.loop-answered.answers ≡ c.loop-answered.answered = omega arith in
    rw e (going_full c.loop-answered.invariant.0 (omega arith))
