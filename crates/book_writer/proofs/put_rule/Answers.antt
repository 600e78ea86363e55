-- `put_rule` meets its contract: nothing where the rule is too long or has no room, else its bytes in a row.
use Rattle.std.proofs.Common.{arith}
use Rattle.book_writer.specs.BookStoreLaws.{put_long, put_full, put-stored}
use Rattle.book_writer.proofs.put_rule.Goals as goal
use Rattle.book_writer.proofs.put_rule.Goals.{then-size-gt255-via-then-size-gt255, then-size-gt255-via-else-size-gt255+then-book-size, then-size-gt255-via-else-size-gt255+else-book-size+then-book-size-2}

pub returns-then-size-gt255 : goal.returns-then-size-gt255
returns-then-size-gt255 c =
    elim c.then-size-gt255.branch [
      | then-size-gt255-via-then-size-gt255 w ↦ put_long _ _ _ (omega arith)
      | then-size-gt255-via-else-size-gt255+then-book-size w ↦ put_full _ _ _ (omega arith)
      | then-size-gt255-via-else-size-gt255+else-book-size+then-book-size-2 w ↦ put_full _ _ _ (omega arith)
    ]

pub returns : goal.returns
returns c = put-stored _ _ _ (omega arith) (omega arith) c.copy.ensures
