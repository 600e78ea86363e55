-- `check` meets its contract: the table has room for the rules that the header declares, or for 256.
use Rattle.std.proofs.Common.{refl, arith}
use Rattle.derivation_checker.specs.CheckedLaws.{roomy_few, roomy_all}
use Rattle.derivation_checker.proofs.check.Goals as goal

pub check_in-requires-clause-room : goal.check_in-requires-clause-room
check_in-requires-clause-room c = roomy_few c.args.book.now c.args.role c.args.chain.now (omega arith) refl

pub check_in-requires-else-word-le16-clause-room : goal.check_in-requires-else-word-le16-clause-room
check_in-requires-else-word-le16-clause-room c = roomy_all c.args.book.now c.args.role c.args.chain.now refl
