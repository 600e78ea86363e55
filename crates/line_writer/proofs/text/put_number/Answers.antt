-- `put_number` meets its contract: the fewest digits that hold the number are its decimal digits.
use borrow.Author.Rules.{rules}
use Rattle.line_writer.specs.SaidLaws.{number_digits, puts-number}
use Rattle.line_writer.proofs.text.put_number.Goals as goal

pub returns : goal.returns
returns c = puts-number (number_digits _ _ _ (c.decimal-size.ensures.in_bounds, (c.decimal-size.ensures.len, c.decimal-size.ensures.digits)) (search rules)) c.put-end.ensures c.put.ensures
