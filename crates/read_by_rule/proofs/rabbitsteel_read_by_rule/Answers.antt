-- `rabbitsteel_read_by_rule` meets its contract: what is told of the verdict is told of the reading that it equals.
use Rattle.book_decoder.specs.Verdict.{header_of}
use Rattle.book_format.specs.Format.{read}
use Rattle.call_numbers.specs.Tells.{header_counts}
use Rattle.rabbitsteel.specs.CallsLaws.{told_of, two-told}
use Rattle.read_by_rule.proofs.rabbitsteel_read_by_rule.Goals as goal

pub returns : goal.returns
returns c =
    let s = c.args.book.now in
    two-told (read s) (told_of header_of (header_counts 0) (read s) c.read_by_rule.ensures c.tell-told.ensures)
