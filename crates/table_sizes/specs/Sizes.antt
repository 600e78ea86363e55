-- Tables of rules whose levels fit: within 2,048 states they have at most 5,120 transitions.
use mathlib.Core.List.{List, [], Memᴰ}
use Rattle.std.specs.Prelude.{◌⊎◌, ◌≡◌, ℕ, ◌≤◌, length}
use Rattle.std.proofs.Common.{inl, inr, subst, arith}
use Rattle.roles.specs.Role.{name, inv}
use Rattle.roles.specs.Rule.{Rule}
use Rattle.order.specs.Shape.{Shape, shape}
use Rattle.order.specs.Shape.Shape.{symmetric, row}
use Rattle.order.specs.Leveled.{Fits}
use Rattle.table_languages.specs.LeftSides.{completed-fits}
use Rattle.table_languages.specs.RoleShapes.{own-shape-rule, shapes_cases}
use Rattle.tables.specs.Tables.{own_shapes, shapes, states_from, transitions_from}
use Rattle.table_sizes.specs.Bound.{SomeInner, roots_few}

module _ (ρs : List Rule) (level : ℕ → ℕ) (fits : (ρ : Rule) → Memᴰ ρ ρs → Fits level (name ρ.right) (shape ρ)) where
  own-some : (r : ℕ) → SomeInner (own_shapes ρs r)
  own-some r f t w m =
      let k = own-shape-rule ρs r (row f t w) m in
      (subst (λ (s : Shape). Fits level (name k.0.right) s) k.3 (completed-fits level ρs fits k.0 k.1)).0

  shapes-some : (r : ℕ) → SomeInner (shapes ρs r)
  shapes-some r f t w m = by_part (shapes_cases ρs r (row f t w) m)
    where
      by_part : Memᴰ (row f t w) (own_shapes ρs r) ⊎ (Memᴰ symmetric (own_shapes ρs r) × Memᴰ (row f t w) (own_shapes ρs (inv r))) → w ≡ [] → ⊥
      by_part (inl k) = own-some r f t w k
      by_part (inr k) = own-some (inv r) f t w k.1

  pub few-transitions : (fuel n : ℕ) → states_from ρs fuel n 0 ≤ 2048 → length (transitions_from ρs fuel n 0 0) ≤ 5120
  few-transitions fuel n h = omega (arith, roots_few ρs shapes-some fuel n 0 0)
