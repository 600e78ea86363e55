-- Rules (role inclusion axioms), their completion, and a book of them.
use Rattle.std.specs.Prelude.{Bool, ◌&&◌, List, map, ◌++◌, ℕ, eqb}
use Rattle.roles.specs.Role.{Chain, inv, inv_chain, same_chain}

-- left is included in right: where the links of left lead from one place to another, right does too
pub record Rule : Type 0 where
  pub left : Chain
  pub right : ℕ

-- the same axiom read from the other end (document 01: mirror)
unfoldable pub inverse : Rule → Rule
inverse ρ = record { left = inv_chain ρ.left; right = inv ρ.right }

-- the rules and their inverses (document 01: the completed rules)
unfoldable pub completion : List Rule → List Rule
completion ρs = ρs ++ map inverse ρs

-- whether two rules are equal
unfoldable pub same_rule : Rule → Rule → Bool
same_rule ρ σ = eqb ρ.right σ.right && same_chain ρ.left σ.left

-- names 0 to names - 1, whether a rule uses them or not, and the rules, numbered from 0
pub record Book : Type 0 where
  pub names : ℕ
  pub rules : List Rule
