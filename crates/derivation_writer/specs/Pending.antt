-- Roles still to derive, one after another, each with the end of its part in one number: 128 times the end plus the role.
use Rattle.std.specs.Prelude.{List, [], ◌∷◌, map, ℕ, ◌+◌, ◌-◌, ◌*◌, ◌/◌, ◌%◌, ◌<◌}
use Rattle.roles.specs.Role.{Chain}

abbrev pub end_of : ℕ → ℕ
end_of p = p / 128

abbrev pub role_of : ℕ → ℕ
role_of p = p % 128

abbrev pub roles_of : List ℕ → Chain
roles_of = map role_of

-- a property, of roles below a bound
abbrev pub Below : (roles : ℕ) (F : (i j r : ℕ) → Type 0) (i j r : ℕ) → Type 0
Below roles F i j r = (r < roles) × F i j r

-- pending roles have their parts side by side, from i to j, each with the property
pub data Tiles (F : (i j r : ℕ) → Type 0) : List ℕ → ℕ → ℕ → Type 0 where
  none : {i : ℕ} → Tiles F [] i i
  more : {p : ℕ} {ps : List ℕ} {i j : ℕ} → F i (end_of p) (role_of p) → Tiles F ps (end_of p) j → Tiles F (p ∷ ps) i j

-- over how many steps, at most, they can still take: 255 for each link of a part but the first, and the rank of its role
unfoldable pub left_over : (rank : (i j r : ℕ) → ℕ) → List ℕ → ℕ → ℕ
left_over rank [] i = 0
left_over rank (p ∷ ps) i = 255 * (end_of p - i - 1) + rank i (end_of p) (role_of p) + left_over rank ps (end_of p)
