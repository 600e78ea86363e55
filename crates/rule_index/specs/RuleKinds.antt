-- The kinds of rules that have no row, 0 for form 4 and 1 for form 5: whether a role's shapes have one, rule by rule.
use Rattle.std.specs.Prelude.{Bool, false, ◌||◌, List, [], ◌∷◌, ◌≡◌, refl, ℕ, zero, suc}
use Rattle.roles.specs.Rule.{Rule}
use Rattle.order.specs.Shape.{Shape, shape}
use Rattle.tables.specs.Tables.{has_symmetric, has_transitive}
use Rattle.table_laying.specs.Own.{facing, is_symmetric, is_transitive, facing-symmetric, facing-transitive}

-- whether shapes have form 4, kind 0, or form 5, kind 1
abbrev pub has : ℕ → List Shape → Bool
has zero ss = has_transitive ss
has (suc n) ss = has_symmetric ss

abbrev pub is_kind : ℕ → Shape → Bool
is_kind zero s = is_transitive s
is_kind (suc n) s = is_symmetric s

pub has-facing : (n r : ℕ) (ρ : Rule) (ss : List Shape) → has n (facing r ρ ∷ ss) ≡ (is_kind n (shape ρ) || has n ss)
has-facing zero r ρ ss = facing-transitive r ρ ss
has-facing (suc n) r ρ ss = facing-symmetric r ρ ss

pub has-none : (n : ℕ) → has n [] ≡ false
unfolding has_transitive has_symmetric
has-none zero = refl
has-none (suc n) = refl
