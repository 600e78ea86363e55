-- An index of rules by their right name, 3,904 numbers. Rule k has 14 of them from 14 k on: its right role; its kind, 0 for form 4, 1 for form 5
-- and 2 for a row; whether the row begins, and whether it ends, at the final state; how many inner roles it has; the next rule of the same right
-- name; the inner roles. At 3584 + x stands the first rule of right name x, at 3648 + x the level of x, counted from 0, at 3712 + 64 κ + x whether x
-- has a rule of kind κ, 1 or 0. 256 stands for no rule.
use mathlib.Core.List.{List, Memᴰ}
use Rattle.std.specs.Prelude.{◌≡◌, ℕ, zero, suc, ◌+◌, ◌*◌, ◌<◌, ◌≤◌, length, get_or}
use mir.Val.{bool_byte}
use Rattle.base.specs.Part.{part}
use Rattle.roles.specs.Role.{Chain, name}
use Rattle.roles.specs.Rule.{Rule}
use Rattle.roles.specs.Named.{Named}
use Rattle.order.specs.Shape.{End, Shape, shape}
use Rattle.order.specs.Shape.End.{initial, final}
use Rattle.order.specs.Shape.Shape.{transitive, symmetric, row}
use Rattle.order.specs.Leveled.{Fits}
use Rattle.tables.specs.Tables.{own_shapes}
use Rattle.rule_index.specs.RuleLinks.{rule, Link}
use Rattle.rule_index.specs.RuleKinds.{has}

-- the numbers of rule k
abbrev pub right_in : List ℕ → ℕ → ℕ
right_in ix k = get_or ix (14 * k) 0

abbrev pub kind_in : List ℕ → ℕ → ℕ
kind_in ix k = get_or ix (14 * k + 1) 0

abbrev pub from_in : List ℕ → ℕ → ℕ
from_in ix k = get_or ix (14 * k + 2) 0

abbrev pub to_in : List ℕ → ℕ → ℕ
to_in ix k = get_or ix (14 * k + 3) 0

abbrev pub size_in : List ℕ → ℕ → ℕ
size_in ix k = get_or ix (14 * k + 4) 0

abbrev pub next_in : List ℕ → ℕ → ℕ
next_in ix k = get_or ix (14 * k + 5) 0

abbrev pub inner_in : List ℕ → ℕ → Chain
inner_in ix k = part ix (14 * k + 6) (size_in ix k)

-- the numbers of name x
abbrev pub first_in : List ℕ → ℕ → ℕ
first_in ix x = get_or ix (3584 + x) 0

abbrev pub level_in : List ℕ → ℕ → ℕ
level_in ix x = get_or ix (3648 + x) 0

abbrev pub flag_in : List ℕ → (kind x : ℕ) → ℕ
flag_in ix kind x = get_or ix (3712 + (64 * kind + x)) 0

-- the state that 0 or 1 stands for
abbrev pub end_at : ℕ → End
end_at zero = initial
end_at (suc n) = final

-- the shape that a kind, two ends and inner roles say
abbrev pub shape_by : (kind from to : ℕ) → Chain → Shape
shape_by zero from to inner = transitive
shape_by (suc zero) from to inner = symmetric
shape_by (suc (suc n)) from to inner = row (end_at from) (end_at to) inner

-- the numbers of rule k say its right role and its shape
pub record Recorded (ρ : Rule) (ix : List ℕ) (k : ℕ) : Type 0 where
  pub right : right_in ix k ≡ ρ.right
  pub shaped : shape_by (kind_in ix k) (from_in ix k) (to_in ix k) (inner_in ix k) ≡ shape ρ
  pub kind : kind_in ix k ≤ 2
  pub from : from_in ix k ≤ 1
  pub to : to_in ix k ≤ 1
  pub size : size_in ix k ≤ 8

-- the numbers are an index of the rules, and their levels are such that the inner names of each rule are lower than its right name
pub record Indexed (ρs : List Rule) (ix : List ℕ) : Type 0 where
  pub size : length ix ≡ 3904
  pub few : length ρs ≤ 256
  pub named : Named 64 ρs
  pub entry : (k : ℕ) → k < length ρs → Recorded (rule ρs k) ix k
  pub next : (k : ℕ) → k < length ρs → Link ρs (name (rule ρs k).right) (suc k) (next_in ix k)
  pub first : (x : ℕ) → x < 64 → Link ρs x 0 (first_in ix x)
  pub kinds : (kind r : ℕ) → kind ≤ 1 → r < 128 → flag_in ix kind (name r) ≡ bool_byte (has kind (own_shapes ρs r))
  pub fits : (ρ : Rule) → Memᴰ ρ ρs → Fits (level_in ix) (name ρ.right) (shape ρ)
