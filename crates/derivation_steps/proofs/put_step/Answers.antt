-- `put_step` meets its contract.
use Rattle.std.proofs.Common.{arith}
use Rattle.derivation_steps.specs.StepBytesLaws.{puts_whole}
use Rattle.derivation_steps.proofs.put_step.Goals as goal

pub returns : goal.returns
returns c = puts_whole _ _ _ (omega arith)
