-- `roles_fit` meets its contract: `all` tests each link as the definition does.
use Rattle.std.proofs.Common.{rules, arith, nat_lt, refl, ap, ◌∙◌, ◌*◌, lt-ltb, le-ltb}
use Rattle.std.proofs.lemmas.List.Recursion.{and_is}
use Rattle.book_format.specs.Format.{named}
use Rattle.refusals.specs.Check.{check}
use Rattle.query_checker.proofs.checks.roles_fit.Goals as goal
use Rattle.query_checker.proofs.checks.roles_fit.Goals.{then-role-end, else-role-end}

pub returns : goal.returns
unfolding named
returns c =
    let names = c.args.names in
    c.from.ensures ∙ ap check (elim c.if-role-end.branch [
      | then-role-end w ↦
          w.from-is ∙ rw (lt-ltb c.args.role (2 * names) (omega (arith, w.if-role-end.true)))
          (and_is (named names) (λ r. nat_lt r (2 * names)) refl (λ _ _. refl) c.args.chain.now 0 w.all.result (search rules) (search rules))
      | else-role-end w ↦ w.from-is ∙ rw (le-ltb c.args.role (2 * names) (omega (arith, w.if-role-end.false))) refl
    ])
