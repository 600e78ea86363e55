-- `names_in` meets its contract: tables that fit have 1 to 64 names.
use Rattle.std.proofs.Common.{arith, sym, ◌≡◌, true}
use Rattle.query_causes.specs.Query.{tables_fit}
use Rattle.query_simulation.specs.QueryLaws.{names-some}
use Rattle.query_simulation.specs.TablesLaws.{tables}
use Rattle.refusals.specs.Check.{check-passed}
use Rattle.query_checker.proofs.names_in.Goals as goal

pub overflow_cast-result : goal.overflow_cast-result
overflow_cast-result c = omega (arith, (tables _ _ (check-passed _ _ c.tables_fit.ensures c.in-Passed.is)).few_heads)

pub returns : goal.returns
returns c =
    let fit : tables_fit c.args.heads.now c.args.moves.now ≡ true = check-passed _ _ c.tables_fit.ensures c.in-Passed.is in
    (sym (names-some _ _ fit), (tables _ _ fit).some_heads)
