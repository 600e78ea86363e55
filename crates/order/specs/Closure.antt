-- The order that rules force on names, gathered rule by rule: which names are lower than which after each rule, and whether the next rule
-- would put a name below itself.
use Rattle.std.specs.Prelude.{Bool, false, ◌&&◌, ◌||◌, [], ◌∷◌, ℕ, eqb}
use Rattle.roles.specs.Role.{Chain, name}
use Rattle.roles.specs.Rule.{Rule}
use Rattle.order.specs.Shape.{shape, inner_of}

-- whether y is the name of an inner role or lower than one
unfoldable pub reaches : (ℕ → ℕ → Bool) → Chain → ℕ → Bool
reaches lower [] y = false
reaches lower (s ∷ w) y = (eqb y (name s) || lower y (name s)) || reaches lower w y

-- before any rule no name is lower than another
abbrev pub no_order : ℕ → ℕ → Bool
no_order y z = false

-- with a rule whose right name is x: the inner names and all below them are lower than x and all above it
unfoldable pub with_inner : (ℕ → ℕ → Bool) → ℕ → Chain → ℕ → ℕ → Bool
with_inner lower x inner y z = lower y z || ((eqb z x || lower x z) && reaches lower inner y)

abbrev pub with_rule : (ℕ → ℕ → Bool) → Rule → ℕ → ℕ → Bool
with_rule lower ρ y z = with_inner lower (name ρ.right) (inner_of (shape ρ)) y z

-- whether the rule would put its right name below itself
abbrev pub clashes : (ℕ → ℕ → Bool) → Rule → Bool
clashes lower ρ = reaches lower (inner_of (shape ρ)) (name ρ.right)
