-- The shape of a rule, by its letters: which of the five forms of document 01 it can have, and its inner roles. The other readings of
-- the same letters would put a role below itself or below its inverse (`ShapeLaws`).
use Rattle.std.specs.Prelude.{Bool, cond, ◌&&◌, [], ◌∷◌, ℕ, ◌-◌, leb, eqb, length, get_or, take, drop}
use Rattle.roles.specs.Role.{Chain, inv, same_chain}
use Rattle.roles.specs.Rule.{Rule}

-- the two states of a fragment (document 01: I and F)
pub data End : Type 0 where
  initial final : End

pub data Shape : Type 0 where
  -- form 4, R R to R: final leads back to initial
  transitive : Shape
  -- form 5, inv(R) to R: inv(R) is a second letter
  symmetric : Shape
  -- forms 1, 2 and 3: the inner roles, in a row between two states
  row : (from to : End) → Chain → Shape

-- the inner roles of a shape
abbrev pub inner_of : Shape → Chain
inner_of transitive = []
inner_of symmetric = []
inner_of (row from to inner) = inner

-- whether a chain of two links or more begins, or ends, with a role
unfoldable pub leads : ℕ → Chain → Bool
leads r w = leb 2 (length w) && eqb (get_or w 0 0) r

unfoldable pub trails : ℕ → Chain → Bool
trails r w = leb 2 (length w) && eqb (get_or w (length w - 1) 0) r

unfoldable pub shape : Rule → Shape
shape ρ =
    cond (same_chain ρ.left (ρ.right ∷ ρ.right ∷ [])) transitive
    (cond (same_chain ρ.left (inv ρ.right ∷ [])) symmetric
    (cond (leads ρ.right ρ.left) (row final final (drop 1 ρ.left))
    (cond (trails ρ.right ρ.left) (row initial initial (take (length ρ.left - 1) ρ.left))
    (row initial final ρ.left))))
