-- Orders on names, and levels: a number for each name such that the inner names of each rule are lower than the rule's right name.
use mathlib.Core.List.{List, [], Memᴰ}
use Rattle.std.specs.Prelude.{◌≡◌, ℕ, ◌<◌}
use Rattle.roles.specs.Role.{name}
use Rattle.roles.specs.Rule.{Rule}
use Rattle.order.specs.Shape.{Shape, shape}
use Rattle.order.specs.Shape.Shape.{transitive, symmetric, row}

-- the inner roles of a row are some, and each is as P says
abbrev pub AllInner {ℓ} : (ℕ → Type ℓ) → Shape → Type ℓ
AllInner P transitive = Unit
AllInner P symmetric = Unit
AllInner P (row from to inner) = (inner ≡ [] → ⊥) × ((s : ℕ) → Memᴰ s inner → P s)

-- their names are lower than x
abbrev pub Lower {ℓ} : (ℕ → ℕ → Type ℓ) → ℕ → Shape → Type ℓ
Lower lower x sh = AllInner (λ (s : ℕ). lower (name s) x) sh

-- an irreflexive, transitive relation on names, under which the inner names of each rule are lower than its right name
pub record NameOrder {ℓ} (lower : ℕ → ℕ → Type ℓ) (ρs : List Rule) : Type ℓ where
  pub irreflexive : (x : ℕ) → lower x x → ⊥
  pub transitive : (x y z : ℕ) → lower x y → lower y z → lower x z
  pub inner : (ρ : Rule) → Memᴰ ρ ρs → Lower lower (name ρ.right) (shape ρ)

-- the same by levels
abbrev pub Fits : (ℕ → ℕ) → ℕ → Shape → Type 0
Fits level x s = Lower (λ (y z : ℕ). level y < level z) x s

-- levels below n that fit every rule
pub record Leveled (n : ℕ) (ρs : List Rule) : Type 0 where
  pub level : ℕ → ℕ
  pub small : (x : ℕ) → x < n → level x < n
  pub fits : (ρ : Rule) → Memᴰ ρ ρs → Fits level (name ρ.right) (shape ρ)
