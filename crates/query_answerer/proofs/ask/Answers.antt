-- `ask` meets its contract: `check` settles causes 12 to 14, and a question that passes them is decided by `accepts`.
use Rattle.std.proofs.Common.{refl, sym}
use Rattle.std.proofs.lemmas.Result.{err_from_is_err_and}
use Rattle.base.specs.Decision.Decision.{refuses}
use Rattle.query_simulation.specs.QueryLaws.{askable, answered}
use Rattle.query_answerer.proofs.ask.Goals as goal

pub returns-in_err-check : goal.returns-in_err-check
returns-in_err-check c =
    let p = err_from_is_err_and c.from_residual.result c.from_residual.ensures.1 in
    rw (p.1, p.2) (refuses _ 0 (sym c.in_err-check.ensures))

pub accepts-accepted-requires : goal.accepts-accepted-requires
accepts-accepted-requires c = askable _ _ _ _ (sym c.in_ok-check.ensures) c.head.ensures

pub returns : goal.returns
returns c = answered _ _ _ _ (sym c.in_ok-check.ensures) c.head.ensures _ c.accepts-accepted.ensures refl
