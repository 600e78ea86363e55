-- Roles and chains. A role is a number: twice its name, plus 1 for the inverse of that name (document 01: role byte, link).
-- A chain is a list of roles.
use Rattle.std.specs.Prelude.{Bool, true, false, ◌&&◌, List, [], ◌∷◌, map, reverse, ℕ, ◌+◌, ◌-◌, ◌*◌, ◌/◌, ◌%◌, eqb}

-- the name of a role (document 01: relation)
unfoldable pub name : ℕ → ℕ
name r = r / 2

-- 1 for the inverse of a name, 0 for the name itself
unfoldable pub polarity : ℕ → ℕ
polarity r = r % 2

-- the inverse of a role: the same name, the other polarity
unfoldable pub inv : ℕ → ℕ
inv r = r + 1 - 2 * (r % 2)

abbrev pub Chain : Type 0
Chain = List ℕ

-- the inverse of a chain: each role's inverse, in reverse order
unfoldable pub inv_chain : Chain → Chain
inv_chain w = reverse (map inv w)

-- the inverse of a chain, or the chain itself
abbrev pub turn : Bool → Chain → Chain
turn true w = inv_chain w
turn false w = w

-- whether two chains are equal
unfoldable pub same_chain : Chain → Chain → Bool
same_chain [] [] = true
same_chain [] (s ∷ v) = false
same_chain (r ∷ w) [] = false
same_chain (r ∷ w) (s ∷ v) = eqb r s && same_chain w v
