-- `tables_fit` meets its contract: the tests are the definition's, in its order.
use Rattle.std.proofs.Common.{arith, ap, ◌∙◌}
use Rattle.std.proofs.lemmas.Grind.{common_steps}
use Rattle.refusals.specs.Check.{check}
use Rattle.query_causes.specs.Query.{tables_fit}
use Rattle.query_checker.proofs.checks.tables_fit.Goals as goal
use Rattle.query_checker.proofs.checks.tables_fit.Goals.{then-contains, else-contains, then-heads_fit, else-heads_fit, then-moves-eq0, else-moves-eq0, then-moves-le15360, else-moves-le15360}

pub returns : goal.returns
unfolding tables_fit
returns c =
    c.from.ensures ∙ ap check (elim c.if-moves-le15360.branch [
      | then-moves-le15360 w ↦ elim c.if-moves-eq0.branch [
        | then-moves-eq0 x ↦ elim c.if-heads_fit.branch [
          | then-heads_fit y ↦ elim c.if-contains.branch [
            | then-contains z ↦ grind (arith, common_steps)
            | else-contains z ↦ grind (arith, common_steps)
          ]
          | else-heads_fit y ↦ grind (arith, common_steps)
        ]
        | else-moves-eq0 x ↦ grind (arith, common_steps)
      ]
      | else-moves-le15360 w ↦ elim c.if-moves-eq0.branch [
        | then-moves-eq0 x ↦ grind (arith, common_steps)
        | else-moves-eq0 x ↦ elim c.if-heads_fit.branch [
          | then-heads_fit y ↦ grind (arith, common_steps)
          | else-heads_fit y ↦ elim c.if-contains.branch [
            | then-contains z ↦ grind (arith, common_steps)
            | else-contains z ↦ grind (arith, common_steps)
          ]
        ]
      ]
    ])
