-- Derivation over rules: zero or more replacements. It is over names and rules, not over the bytes of a book.
use mathlib.Core.List.{List, [], ◌∷◌, ◌++◌, Memᴰ}
use mathlib.Mathlib.Logic.Relation.{ReflTransGenᴰ}
use Rattle.std.specs.Prelude.{ℕ}
use Rattle.roles.specs.Role.{Chain}
use Rattle.roles.specs.Rule.{Rule, completion}

-- one replacement: a role of the chain gives way to the left side of a completed rule whose right side it is
pub data Step (ρs : List Rule) : Chain → Chain → Type 0 where
  replace : (before after : Chain) (ρ : Rule) → Memᴰ ρ (completion ρs)
      → Step ρs (before ++ ρ.right ∷ after) (before ++ (ρ.left ++ after))

-- finitely many replacements, perhaps none, lead from the role to the chain (document 01: the chain is derived from the role, and a contract prints
-- "binds" for it)
abbrev pub Derives : List Rule → ℕ → Chain → Type 0
Derives ρs r w = ReflTransGenᴰ (Step ρs) (r ∷ []) w
