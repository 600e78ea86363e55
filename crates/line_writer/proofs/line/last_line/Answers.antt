-- `last_line` meets its contract: each test settles what stands at the front of the input.
use mathlib.Core.Path.{sym, ◌∙◌}
use borrow.Author.Tests.{leb-true, leb-false}
use Rattle.std.proofs.Common.{eqb-true}
use Rattle.std.proofs.lemmas.Bool.{eqb-false}
use Rattle.line_writer.specs.SaidLaws.{ends-nothing, ends-whole, ends-part}
use Rattle.line_writer.proofs.line.last_line.Goals as goal
use Rattle.line_writer.proofs.line.last_line.Goals.{then-is_empty-via-then-is_empty, then-is_empty-via-else-is_empty+then-is_whole}

pub returns-then-is_empty : goal.returns-then-is_empty
returns-then-is_empty c =
    elim c.then-is_empty.branch [
      | then-is_empty-via-then-is_empty w ↦ ends-nothing _ _ (eqb-true _ _ (sym c.is_empty.ensures ∙ w.if-is_empty.true))
      | then-is_empty-via-else-is_empty+then-is_whole w ↦ ends-whole _ _ (leb-true _ _ (sym w.is_whole.ensures ∙ w.if-is_whole.true))
    ]

pub returns : goal.returns
returns c =
    ends-part _ _ (eqb-false _ _ (sym c.is_empty.ensures ∙ c.if-is_empty.false)) (leb-false _ _ (sym c.is_whole.ensures ∙ c.if-is_whole.false))
    c.put_number.ensures
