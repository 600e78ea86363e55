-- `keyed_rule` meets its contract: the step hands out the rule at the cursor, and its left side is a part of the book.
use Rattle.book_cursor.specs.CursorLaws.{Stepped, step-rule}
use Rattle.book_reader.specs.KeyedAtLaws.{stepped_fits, stepped_keyed}
use Rattle.book_reader.proofs.keyed_rule.keyed_rule.Goals as goal
use Rattle.book_reader.proofs.keyed_rule.keyed_rule.Goals.{In-Some}

handed : (c : In-Some) → Stepped c.args.book.now c.args.cursor.at c.in-Some.entry c.in-Some.next
handed c = step-rule _ _ _ _ _ c.step.ensures c.in-Some.is

pub slice_bounds-left-end : goal.slice_bounds-left-end
slice_bounds-left-end c = stepped_fits (handed (goal.at.slice_bounds-left-end c).In-Some)

pub returns : goal.returns
returns c = stepped_keyed (handed (goal.at.returns c).In-Some) c.requires.short c.key.ensures
