-- A number for each rule, which it shares with its inverse alone. Of a rule and its inverse it codes the one with a name on the right.
use Rattle.std.specs.Prelude.{[], ◌∷◌, ℕ, ◌+◌, ◌*◌, ◌<◌, ◌≤◌, eqb, length, get_or}
use Rattle.roles.specs.Role.{Chain, name, polarity, turn}
use Rattle.roles.specs.Rule.{Rule}

-- 7 bits for each role, the first role lowest, under a leading 1
unfoldable pub code : Chain → ℕ
code [] = 1
code (r ∷ w) = 128 * code w + r

-- the left side of the rule or of its inverse, whichever has a name on the right
unfoldable pub canonical : Rule → Chain
canonical ρ = turn (eqb (polarity ρ.right) 1) ρ.left

unfoldable pub key : Rule → ℕ
key ρ = 64 * code (canonical ρ) + name ρ.right

-- each role of the chain takes 7 bits
abbrev pub Small : Chain → Type 0
Small w = (k : ℕ) → k < length w → get_or w k 0 < 128

-- a rule whose key takes 63 bits
pub record Short (ρ : Rule) : Type 0 where
  pub right : ρ.right < 128
  pub left : Small ρ.left
  pub few : length ρ.left ≤ 8
