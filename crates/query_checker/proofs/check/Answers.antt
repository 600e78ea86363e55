-- `check` meets its contract: the tables are checked first, then the question for as many names as they have heads.
use Rattle.std.proofs.Common.{arith, List, ◌≡◌, ℕ, ◌<◌, refl, ap, ◌∙◌, lt-ltb}
use Rattle.std.proofs.lemmas.Grind.{common_steps}
use Rattle.std.proofs.lemmas.Result.{err_from_is_err_and}
use Rattle.base.specs.Result.Result.{refused}
use Rattle.query_causes.specs.Query.{query, question}
use Rattle.query_causes.specs.ManyQueries.{names_in, query_for}
use Rattle.query_simulation.specs.QueryLaws.{query-names}
use Rattle.query_checker.proofs.check.Goals as goal

module _ (heads moves : List ℕ) (r : ℕ) (w : List ℕ) where
  tables_none : names_in heads moves ≡ 0 → query heads moves r w ≡ refused 12 0
  tables_none z = query-names heads moves r w refl ∙ ap (λ (n : ℕ). query_for n r w) z

  tables_some : {n : ℕ} → n ≡ names_in heads moves → 0 < n → query heads moves r w ≡ question n r w
  tables_some {n} e l = query-names heads moves r w e ∙ rw (lt-ltb 0 n l) refl

pub returns-in_err-count : goal.returns-in_err-count
returns-in_err-count c =
    let p = err_from_is_err_and c.from_residual.result c.from_residual.ensures.1 in
    let f = tables_none c.args.heads.now c.args.moves.now c.args.role c.args.chain.now in rw (p.1, p.2) (grind (arith, common_steps, f))

pub returns : goal.returns
returns c = let f = tables_some c.args.heads.now c.args.moves.now c.args.role c.args.chain.now {n = c.in_ok-count.count} in grind (arith, common_steps, f)
