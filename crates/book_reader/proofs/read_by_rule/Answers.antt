-- `read_by_rule` meets its contract: `decode` settles causes 1 to 6, and the lowest repeat cause 7.
use mathlib.Core.Path.{sym, ap, ◌∙◌}
use Rattle.std.proofs.lemmas.Result.{err_from_is_err_and}
use Rattle.book_decoder.specs.Verdict.{says}
use Rattle.book_decoder.specs.VerdictLaws.{read-refused}
use Rattle.book_reader.proofs.read_by_rule.Goals as goal

pub returns-in_err-header : goal.returns-in_err-header
returns-in_err-header c =
    let refused = err_from_is_err_and c.from_residual.result c.from_residual.ensures.1 in
    rw (refused.1, refused.2) (read-refused _ (sym (ap says c.in_err-header.was) ∙ c.decode.ensures))

pub returns-in_err-distinct : goal.returns-in_err-distinct
returns-in_err-distinct c =
    let refused = err_from_is_err_and c.from_residual-in_err-distinct.result c.from_residual-in_err-distinct.ensures.1 in
    rw (refused.1, refused.2) c.in_err-distinct.ensures

pub returns : goal.returns
returns c = c.in_ok-distinct.ensures
