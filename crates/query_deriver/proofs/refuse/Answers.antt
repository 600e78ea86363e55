-- `refuse` meets its contract: what a build on tables aside says holds for those lent.
use mathlib.Core.Path.{sym}
use native.Mathlib.Omega.{arith}
use borrow.Author.Rules.{rules}
use lib.Seq.{length-take-le}
use Rattle.query_deriver.specs.RepliesLaws.{says-book, says-question}
use Rattle.query_deriver.proofs.refuse.Goals as goal

pub returns-in-Err : goal.returns-in-Err
returns-in-Err c =
    says-book (length-take-le _ _ (omega arith)) (length-take-le _ _ (omega arith)) (search rules) (search rules) c.args.refusal (rw c.in-Err.is at c.build.ensures)

pub returns-in-Ok : goal.returns-in-Ok
returns-in-Ok c =
    says-question (length-take-le _ _ (omega arith)) (length-take-le _ _ (omega arith)) (search rules) (search rules) c.args.refusal (rw c.in-Ok.is at c.build.ensures)

pub slice_bounds-build-end : goal.slice_bounds-build-end
slice_bounds-build-end c = sym (length-take-le _ _ (omega arith))

pub slice_bounds-build-end-2 : goal.slice_bounds-build-end-2
slice_bounds-build-end-2 c = sym (length-take-le _ _ (omega arith))
