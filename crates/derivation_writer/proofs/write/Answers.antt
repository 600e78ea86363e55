-- `write` meets its contract: the small arrays have room for a book of few names and rules, and the large ones for every book.
use Rattle.std.proofs.Common.{refl, arith}
use Rattle.derivation_writer.specs.WritesLaws.{roomy_few, roomy_large}
use Rattle.derivation_writer.proofs.write.Goals as goal

pub write_in-requires-clause-room : goal.write_in-requires-clause-room
write_in-requires-clause-room c = roomy_few 4 8 c.args.book.now (omega arith) (omega arith) refl refl

pub write_in-requires-then-rules-le16-clause-room : goal.write_in-requires-then-rules-le16-clause-room
write_in-requires-then-rules-le16-clause-room c = roomy_few 8 16 c.args.book.now (omega arith) (omega arith) refl refl

pub write_in-requires-else-names-le8-clause-room : goal.write_in-requires-else-names-le8-clause-room
write_in-requires-else-names-le8-clause-room c = roomy_large c.args.book.now refl refl
