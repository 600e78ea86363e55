-- `step_of` meets its contract: each number of the step is read from its bytes.
use Rattle.std.proofs.Common.{refl, arith}
use Rattle.derivation_steps.specs.WrittenSteps.{step_at}
use Rattle.derivation_steps.specs.StepBytesLaws.{reads_whole}
use Rattle.derivation_steps.proofs.step_of.Goals as goal

pub returns : goal.returns
unfolding step_at
returns c = reads_whole _ _ _ (omega arith) refl
