-- `decide` meets its contract: the tables of an accepted book are built and asked, and their answer is that of derivation.
use Rattle.std.proofs.Common.{arith}
use Rattle.std.proofs.lemmas.Result.{err_from_is_err_and}
use Rattle.table_builder.specs.WrittenLaws.{few-numbers, names-lent, numbers-lent}
use Rattle.query_deriver.specs.RepliesLaws.{replies_settled, replies_refused}
use Rattle.query_deriver.proofs.decide.Goals as goal

pub overflow_mul-counts : goal.overflow_mul-counts
overflow_mul-counts c = omega (arith, few-numbers c.in_ok-counts.ensures)

pub put-requires-clause-names_in_bounds : goal.put-requires-clause-names_in_bounds
put-requires-clause-names_in_bounds c = names-lent c.in_ok-counts.ensures

pub put-requires-clause-numbers_in_bounds : goal.put-requires-clause-numbers_in_bounds
put-requires-clause-numbers_in_bounds c = numbers-lent c.in_ok-counts.ensures

pub returns-in_err-counts : goal.returns-in_err-counts
returns-in_err-counts c =
    let refused = err_from_is_err_and c.from_residual.result c.from_residual.ensures.1 in
    rw (refused.1, refused.2) (replies_refused c.requires (rw c.in_err-counts.was at c.build.ensures))

pub returns : goal.returns
returns c = replies_settled c.requires c.in_ok-counts.ensures _ c.put.ensures
