-- `heads_fit` meets its contract: `all` tests each initial state as the definition does.
use Rattle.std.proofs.Common.{rules, nat_le, refl}
use Rattle.std.proofs.lemmas.List.Recursion.{and_is}
use Rattle.query_causes.specs.Query.{heads_fit}
use Rattle.query_checker.proofs.checks.heads_fit.Goals as goal

pub returns : goal.returns
unfolding heads_fit
returns c = and_is heads_fit (λ h. nat_le h 2046) refl (λ _ _. refl) c.args.heads.now 0 c.all.result (search rules) (search rules)
