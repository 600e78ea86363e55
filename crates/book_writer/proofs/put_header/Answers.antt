-- `put_header` meets its contract: the copied array is the eight bytes in front.
use Rattle.std.proofs.Common.{sym, arith}
use Rattle.base.specs.WritingLaws.{sets_over}
use Rattle.book_format.specs.Encode.{header}
use Rattle.book_writer.specs.BookStoreLaws.{header-short, header-stored}
use Rattle.book_writer.proofs.put_header.Goals as goal

pub returns : goal.returns
unfolding header
returns c = header-stored _ _ _ (omega arith) (rw c.copy_from_slice.ensures.after (sym (sets_over (header c.args.names c.args.rules) c.args.book.now (omega arith))))

pub returns-then-book-lt8 : goal.returns-then-book-lt8
returns-then-book-lt8 c = header-short _ _ _ (omega arith)
