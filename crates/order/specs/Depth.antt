-- Levels of names, and the depth of a book (document 02, F-1).
use Rattle.std.specs.Prelude.{cond, List, [], ◌∷◌, ◌++◌, map, ℕ, zero, suc, max, eqb}
use Rattle.roles.specs.Role.{Chain, name}
use Rattle.roles.specs.Rule.{Rule}
use Rattle.order.specs.Shape.{shape, inner_of}

-- the inner roles of all rules of a name, those whose right role is its inverse among them
unfoldable pub inner_roles : List Rule → ℕ → Chain
inner_roles [] x = []
inner_roles (ρ ∷ ρs) x = cond (eqb (name ρ.right) x) (inner_of (shape ρ) ++ inner_roles ρs x) (inner_roles ρs x)

-- the highest of some numbers; 0 where there is none
unfoldable pub highest : List ℕ → ℕ
highest [] = 0
highest (k ∷ ks) = max k (highest ks)

module _ (ρs : List Rule) where
  -- the level of a name, 1 more than the highest of its inner roles' names, where no way down has more members than the fuel. The names of a
  -- book are fuel enough where it has a regular order
  unfoldable pub level_of : (fuel x : ℕ) → ℕ
  level_of zero x = 0
  level_of (suc fuel) x = suc (highest (map (λ s. level_of fuel (name s)) (inner_roles ρs x)))

  -- the levels of the names from x on, as many as are left
  unfoldable pub levels_from : (fuel left x : ℕ) → List ℕ
  levels_from fuel zero x = []
  levels_from fuel (suc left) x = level_of fuel x ∷ levels_from fuel left (suc x)

-- the level of name x, those of all names and the highest of them, where there are n names
abbrev pub level : ℕ → List Rule → ℕ → ℕ
level n ρs x = level_of ρs n x

abbrev pub levels : ℕ → List Rule → List ℕ
levels n ρs = levels_from ρs n n 0

abbrev pub depth : ℕ → List Rule → ℕ
depth n ρs = highest (levels n ρs)
