-- The row of a rule as the code takes it from the index, and what it says of the shape that the rule adds to a fragment.
use Rattle.std.specs.Prelude.{List, ◌≡◌, ℕ, zero, suc, ◌+◌, ◌<◌, ◌≤◌, length, get_or}
use Rattle.base.specs.Part.{part}
use Rattle.roles.specs.Role.{Chain, name, turn}
use Rattle.roles.specs.Rule.{Rule}
use Rattle.order.specs.Shape.{Shape}
use Rattle.order.specs.Shape.Shape.{transitive, symmetric, row}
use Rattle.tables.specs.Tables.{state}
use Rattle.table_laying.specs.Own.{facing}
use Rattle.rule_index.specs.RuleLinks.{rule}
use Rattle.rule_index.specs.RuleIndex.{Indexed, level_in}
use Rattle.table_builder.specs.declared.lay.InnerRow.{InnerRow}

-- how many inner roles a rule of some kind has in its row
abbrev pub count_by : (kind size : ℕ) → ℕ
count_by zero size = 0
count_by (suc zero) size = 0
count_by (suc (suc n)) size = size

-- the inner roles of a row
abbrev pub chain_in : List ℕ → InnerRow → Chain
chain_in ix ρ = turn ρ.mirrored (part ix ρ.start ρ.size)

-- they stand in the index, are of declared names and of levels below a number
pub record Inner (ix : List ℕ) (ρ : InnerRow) (level : ℕ) : Type 0 where
  pub fits : ρ.start + ρ.size ≤ length ix
  pub roles : (x : ℕ) → x < ρ.size → (get_or ix (ρ.start + x) 0 < 128) × (level_in ix (name (get_or ix (ρ.start + x) 0)) < level)

-- inner role j
pub record InnerRole (ix : List ℕ) (ρ : InnerRow) (j s : ℕ) : Type 0 where
  pub same : s ≡ get_or (chain_in ix ρ) j 0
  pub small : s < 128
  pub lower : (level : ℕ) → Inner ix ρ level → level_in ix (name s) < level

-- a shape without a row has no inner roles here; a row has some, and its states for the fragment at i
abbrev pub Shown : (ix : List ℕ) (i : ℕ) → Shape → InnerRow → Type 0
Shown ix i transitive ρ = ρ.size ≡ 0
Shown ix i symmetric ρ = ρ.size ≡ 0
Shown ix i (row f t w) ρ = (chain_in ix ρ ≡ w) × (0 < ρ.size) × (ρ.from ≡ state f i) × (ρ.to ≡ state t i)

-- the row of rule k for a fragment of a role at i
pub record Found (ix : List ℕ) (k role i : ℕ) (ρ : InnerRow) : Type 0 where
  pub near : (ρ.from ≤ 2047) × (ρ.to ≤ 2047)
  pub inner : Inner ix ρ (level_in ix (name role))
  pub shown : (ρs : List Rule) → Indexed ρs ix → Shown ix i (facing role (rule ρs k)) ρ
