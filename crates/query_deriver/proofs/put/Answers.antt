-- `put` meets its contract: the answer of the tables is the reply.
use Rattle.std.proofs.lemmas.Result.{err_from_is_err_and}
use Rattle.query_deriver.proofs.put.Goals as goal

pub returns-in_err-found : goal.returns-in_err-found
returns-in_err-found c =
    let refused = err_from_is_err_and c.from_residual.result c.from_residual.ensures.1 in
    rw (refused.1, refused.2) c.in_err-found.ensures

pub returns : goal.returns
returns c = c.in_ok-found.ensures
