-- `left_of` meets its contract.
use Rattle.derivation_writer.specs.DivisionLaws.{left-read}
use Rattle.derivation_writer.proofs.division.left_of.Goals as goal

pub returns : goal.returns
returns c = left-read c.args.table.now c.args.q
