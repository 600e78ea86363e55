-- `index` meets its contract: `order` judges the book, and where it passes the three steps fill the index.
use native.Mathlib.Omega.{arith}
use Rattle.std.proofs.lemmas.Result.{err_from_is_err_and}
use Rattle.rule_index.specs.IndexesLaws.{indexes_refused, indexes_other, rules-whole, linkable, indexes_filled}
use Rattle.rule_index.proofs.index.Goals as goal

pub returns-in_err-header : goal.returns-in_err-header
returns-in_err-header c =
    let refused = err_from_is_err_and c.from_residual.result c.from_residual.ensures.1 in
    rw (refused.1, refused.2) (indexes_refused c.in_err-header.ensures)

pub enter-requires : goal.enter-requires
enter-requires c = (rules-whole c.in_ok-header.ensures, omega arith)

pub link-requires : goal.link-requires
link-requires c = linkable c.in_ok-header.ensures c.enter.ensures c.start.ensures

pub returns-then-index-eq3904 : goal.returns-then-index-eq3904
returns-then-index-eq3904 c = indexes_filled c.in_ok-header.ensures c.enter.ensures c.start.ensures (omega arith) c.link.ensures

pub returns-else-index-eq3904 : goal.returns-else-index-eq3904
returns-else-index-eq3904 c = indexes_other c.in_ok-header.ensures c.if-index-eq3904.false
