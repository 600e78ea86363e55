-- A question has one answer.
use Rattle.std.specs.Prelude.{Bool, true, ◌≡◌, refl, ℕ}
use Rattle.std.proofs.Common.{sym, ap, ◌∙◌}
use Rattle.base.specs.Result.{Result, map_result}
use Rattle.base.specs.Result.Result.{refused, ok}
use Rattle.base.specs.ResultLaws.{refused-ok}
use Rattle.base.specs.Decision.{Decision}
use Rattle.base.specs.Decision.Decision.{refuses, yes, no}

-- one refusal, whatever else would have been given
pub same-refusal : {A : Type 0} (t : Result A) (c v d u : ℕ) → t ≡ refused c v → t ≡ refused d u → ◌≡◌ {A = Result Bool} (refused c v) (refused d u)
same-refusal t c v d u h g = ap (map_result (λ _. true)) (sym h ∙ g)

pub not_both : {A B : Type 0} (t : Result A) (c v : ℕ) (a : A) → t ≡ refused c v → t ≡ ok a → B
not_both t c v a h g = absurd (refused-ok c v a (sym h ∙ g))

-- there is one answer
pub decision_one : (checks : Result (Unit {0})) (Holds : Type 0) (a b : Result Bool) → Decision checks Holds a → Decision checks Holds b → a ≡ b
decision_one t P _ _ (refuses c v h) (refuses d u g) = same-refusal t c v d u h g
decision_one t P _ _ (refuses c v h) (yes g p) = not_both t c v tt h g
decision_one t P _ _ (refuses c v h) (no g n) = not_both t c v tt h g
decision_one t P _ _ (yes h p) (refuses c v g) = not_both t c v tt g h
decision_one t P _ _ (yes h p) (yes g q) = refl
decision_one t P _ _ (yes h p) (no g n) = absurd (n p)
decision_one t P _ _ (no h n) (refuses c v g) = not_both t c v tt g h
decision_one t P _ _ (no h n) (yes g p) = absurd (n p)
decision_one t P _ _ (no h n) (no g m) = refl
