-- Document 01's sentences on sizes ("Tables"), as statements about the tables' own definition of sizes; `RoleSizeLaws` proves them for the
-- rules of an ordered book.
use Rattle.std.specs.Prelude.{cond, ◌⊎◌, ◌↔◌, ◌≡◌, ℕ, zero, suc, ◌+◌, ◌*◌, ◌<◌}
use mathlib.Core.List.{List, [], ◌∷◌, flat_map, Memᴰ}
use Rattle.roles.specs.Role.{Chain, inv}
use Rattle.roles.specs.Rule.{Rule}
use Rattle.order.specs.Shape.{shape, inner_of}
use Rattle.tables.specs.Tables.{rules_of, own_shapes, has_symmetric, row_size, size_of, state_count}

-- size(r) in a book of n names
abbrev pub size : ℕ → List Rule → ℕ → ℕ
size n ρs r = size_of ρs n r

-- the inner roles in r's completed rules, and their sizes, summed
unfoldable pub inner_roles : List Rule → ℕ → Chain
inner_roles ρs r = flat_map (λ ρ. inner_of (shape ρ)) (rules_of ρs r)

abbrev pub inner_sizes : ℕ → List Rule → ℕ → ℕ
inner_sizes n ρs r = row_size (size n ρs) (inner_roles ρs r)

-- form 5 for r: the rule inv(r) to r
abbrev pub form_5 : ℕ → Rule
form_5 r = record { left = inv r ∷ []; right = r }

-- r is symmetric: the book has form 5 for r or inv(r)
abbrev pub Symmetric : List Rule → ℕ → Type 0
Symmetric ρs r = Memᴰ (form_5 r) ρs ⊎ Memᴰ (form_5 (inv r)) ρs

-- how often the rows of r's completed rules count (document 01: m), by the test that the tables use
unfoldable pub multiplicity : List Rule → ℕ → ℕ
multiplicity ρs r = cond (has_symmetric (own_shapes ρs r)) 2 1

-- f(0) + .. + f(n - 1)
unfoldable pub sum_below : ℕ → (ℕ → ℕ) → ℕ
sum_below zero f = 0
sum_below (suc n) f = sum_below n f + f n

-- the sentences, for rules over n names
pub record Sized (n : ℕ) (ρs : List Rule) : Type 0 where
  -- r is symmetric: then m = 2, else m = 1
  pub twice : (r : ℕ) → (multiplicity ρs r ≡ 2) ↔ Symmetric ρs r
  pub once : (r : ℕ) → (multiplicity ρs r ≡ 1) ↔ (Symmetric ρs r → ⊥)
  -- size(r) = 2 + m × (the sizes of all inner roles in r's completed rules, summed)
  pub inner : (r : ℕ) → r < 2 * n → size n ρs r ≡ 2 + multiplicity ρs r * inner_sizes n ρs r
  -- size(r) = size(inv(r))
  pub inverse : (r : ℕ) → size n ρs r ≡ size n ρs (inv r)
  -- the state count is the sum of size over the n names
  pub count : state_count n ρs ≡ sum_below n (λ x. size n ρs (2 * x))
