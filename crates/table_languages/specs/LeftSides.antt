-- What the shape of a rule says of its left side, and levels that fit a rule fit its inverse.
use mathlib.Core.List.Memᴰ
use mathlib.Core.List.{List, [], ◌∷◌, ◌++◌, map, Memᴰ}
use Rattle.std.specs.Prelude.{◌⊎◌, ◌≡◌, refl, ℕ, ◌<◌}
use Rattle.std.proofs.Common.{inl, inr, arith}
use Rattle.std.proofs.Math.Path.{subst}
use Rattle.roles.specs.Role.{Chain, name, inv}
use Rattle.roles.specs.RoleLaws.{name-inv}
use Rattle.roles.specs.Rule.{Rule, inverse, completion}
use Rattle.order.specs.Shape.{Shape, shape}
use Rattle.order.specs.Shape.End.{initial, final}
use Rattle.order.specs.Shape.Shape.{transitive, symmetric, row}
use Rattle.order.specs.ShapeLaws.{View, view}
use Rattle.order.specs.ShapeLaws.View.{is_transitive, is_symmetric, is_led, is_trailed, is_plain}
use Rattle.order.specs.ShapeForms.{AllApart, turned, inv_chain-member, inv_chain-some, shape-inverse}
use Rattle.order.specs.Leveled.{Fits}

-- the left side that a shape gives to a rule with right role r has a property. No row leads from final to initial
abbrev pub Left : (Chain → Type 0) → ℕ → Shape → Type 0
Left P r transitive = P (r ∷ r ∷ [])
Left P r symmetric = P (inv r ∷ [])
Left P r (row initial initial inner) = P (inner ++ (r ∷ []))
Left P r (row initial final inner) = P inner
Left P r (row final initial inner) = ⊥
Left P r (row final final inner) = P (r ∷ inner)

pub left_map : (P Q : Chain → Type 0) (r : ℕ) → ((v : Chain) → P v → Q v) → (s : Shape) → Left P r s → Left Q r s
left_map P Q r f transitive h = f (r ∷ r ∷ []) h
left_map P Q r f symmetric h = f (inv r ∷ []) h
left_map P Q r f (row initial initial inner) h = f (inner ++ (r ∷ [])) h
left_map P Q r f (row initial final inner) h = f inner h
left_map P Q r f (row final initial inner) h = h
left_map P Q r f (row final final inner) h = f (r ∷ inner) h

-- what a shape says of a rule's left side
abbrev pub Shaped : Rule → Shape → Type 0
Shaped ρ s = Left (λ v. ρ.left ≡ v) ρ.right s

pub shape-shaped : (ρ : Rule) → Shaped ρ (shape ρ)
shape-shaped ρ = by_view (view ρ)
  where
    by_view : {s : Shape} → View ρ s → Shaped ρ s
    by_view (is_transitive e) = e
    by_view (is_symmetric e) = e
    by_view (is_led inner e some x) = e
    by_view (is_trailed inner e some x y) = e
    by_view (is_plain x y z w) = refl

module _ (level : ℕ → ℕ) where
  -- lower inner roles have other names
  pub fits-apart : (r : ℕ) (s : Shape) → Fits level (name r) s → AllApart r s
  fits-apart r transitive l = tt
  fits-apart r symmetric l = tt
  fits-apart r (row from to inner) l = (l.0, λ s m e. let k : level (name r) < level (name r) = rw e at (l.1 s m) in omega arith)

  fits-turned : (r : ℕ) (s : Shape) → Fits level (name r) s → Fits level (name (inv r)) (turned s)
  fits-turned r transitive l = tt
  fits-turned r symmetric l = tt
  fits-turned r (row from to inner) l =
      (inv_chain-some inner l.0, λ s m. rw (name-inv r, ← (name-inv s)) (l.1 (inv s) (inv_chain-member s inner m)))

  -- levels that fit a rule fit its inverse
  pub fits-inverse : (ρ : Rule) → Fits level (name ρ.right) (shape ρ) → Fits level (name (inverse ρ).right) (shape (inverse ρ))
  unfolding inverse
  fits-inverse ρ l = rw (shape-inverse ρ (fits-apart ρ.right (shape ρ) l)) (fits-turned ρ.right (shape ρ) l)

  -- levels that fit rules fit the completed ones
  pub completed-fits : (ρs : List Rule) → ((ρ : Rule) → Memᴰ ρ ρs → Fits level (name ρ.right) (shape ρ))
      → (ρ : Rule) → Memᴰ ρ (completion ρs) → Fits level (name ρ.right) (shape ρ)
  unfolding completion
  completed-fits ρs fits ρ m = by_part (Memᴰ.append_cases ρs m)
    where
      mirrored : (σ : Rule) × Memᴰ σ ρs × (inverse σ ≡ ρ) → Fits level (name ρ.right) (shape ρ)
      mirrored t = subst (λ x. Fits level (name x.right) (shape x)) t.2 (fits-inverse t.0 (fits t.0 t.1))

      by_part : Memᴰ ρ ρs ⊎ Memᴰ ρ (map inverse ρs) → Fits level (name ρ.right) (shape ρ)
      by_part (inl k) = fits ρ k
      by_part (inr k) = mirrored (Memᴰ.of_map inverse ρs k)
