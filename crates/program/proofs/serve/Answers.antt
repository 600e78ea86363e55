-- Each turn reads behind what is kept and answers what was read, and at the end nothing is left but what is no whole question.
use Rattle.std.proofs.Common.{◌≡◌, ◌+◌, ◌-◌, ◌∙◌, refl, sym, inl, inr, arith}
use Rattle.line_writer.specs.PutsLaws.{puts-length, puts-counts}
use Rattle.program.specs.Ran.Served.{unwritten}
use Rattle.program.specs.RanLaws.{serving_none, serving_block, serving_ends, serving_exhausted}
use Rattle.program.proofs.serve.Goals as goal
use Rattle.program.proofs.serve.Goals.{else-loop-test, then-loop-test+then-number-ge18446744073709551615}

pub loop-init : goal.loop-init
loop-init g c = record {
  input = sym c.question_buffer-input.ensures;
  out = refl;
  kept = omega arith;
  serving = serving_none;
}

pub returns-then-ended : goal.returns-then-ended
returns-then-ended g c =
    serving_ends c.loop.invariant.serving (c.ended.ensures.over c.if-ended.true).0 c.finish.ensures

pub returns-then-is_err : goal.returns-then-is_err
returns-then-is_err g c = unwritten

pub loop-preserved : goal.loop-preserved
loop-preserved g c =
    let turn = c.loop.invariant in
    let read = c.read_more-end.ensures in
    let answer = c.answer_block-progress.ensures in
    let left : 18446744073709551615 - c.loop.counter - 1 ≡ 18446744073709551615 - (c.loop.counter + 1) = omega arith in
    record {
      input = puts-length answer.keeps ∙ read.same ∙ turn.input;
      out = puts-length answer.puts ∙ turn.out;
      kept = (puts-counts answer.keeps).0;
      serving =
          rw left at
          (serving_block turn.serving (omega arith) (omega arith) read (c.ended.ensures.more c.if-ended.false) answer
          (omega (arith, turn.out)));
    }

pub returns : goal.returns
returns g c =
    elim c.loop-test.branch [
      | else-loop-test w ↦ serving_exhausted c.loop.invariant.serving (inl (omega arith))
      | then-loop-test+then-number-ge18446744073709551615 w ↦ serving_exhausted c.loop.invariant.serving (inr (omega arith))
    ]
