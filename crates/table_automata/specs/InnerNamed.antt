-- Where every role of the rules has a name below n, so has every inner role of a fragment.
use mathlib.Core.List.Memᴰ
use mathlib.Core.List.{List, [], ◌∷◌, map}
use Rattle.std.specs.Prelude.{refl, ℕ, zero, suc, ◌-◌, ◌*◌, ◌<◌, ◌≤◌, eqb, length, take, drop}
use Rattle.std.proofs.Common.{arith}
use Rattle.roles.specs.Role.{Chain, inv, inv_chain, same_chain}
use Rattle.roles.specs.RoleLaws.{inv-below, inv_chain_nil, inv_chain-cons}
use Rattle.roles.specs.Rule.{Rule, inverse}
use Rattle.order.specs.Shape.{Shape, shape, leads, trails}
use Rattle.order.specs.Shape.Shape.{transitive, symmetric, row}
use Rattle.tables.specs.Tables.{epsilon, rules_of, own_shapes, shapes, has_symmetric}
use Rattle.base.specs.Every.{cond_both, Every, every_nil, every_cons, every_tail, every_append}
use Rattle.roles.specs.Named.{Named}

module _ (n : ℕ) where
  -- a role's name is below n
  abbrev pub RoleBelow : ℕ → Type 0
  RoleBelow s = s < 2 * n

  abbrev pub Below : Chain → Type 0
  Below = Every RoleBelow

  -- every inner role of a shape has a name below n
  abbrev pub InnerBelow : Shape → Type 0
  InnerBelow transitive = Unit
  InnerBelow symmetric = Unit
  InnerBelow (row f t w) = Below w

  below-inv_chain : (w : Chain) → Below w → Below (inv_chain w)
  below-inv_chain [] b = rw inv_chain_nil (every_nil RoleBelow)
  below-inv_chain (r ∷ w) b =
      rw (inv_chain-cons r w)
      (every_append RoleBelow (inv_chain w)
      (below-inv_chain w (every_tail RoleBelow b))
      (every_cons RoleBelow (inv-below r n (b r (Memᴰ.head refl))) (every_nil RoleBelow)))

  below-take : (k : ℕ) (w : Chain) → Below w → Below (take k w)
  below-take zero w b = every_nil RoleBelow
  below-take (suc k) [] b = every_nil RoleBelow
  below-take (suc k) (r ∷ w) b = every_cons RoleBelow (b r (Memᴰ.head refl)) (below-take k w (every_tail RoleBelow b))

  below-drop : (k : ℕ) (w : Chain) → Below w → Below (drop k w)
  below-drop zero w b = b
  below-drop (suc k) [] b = every_nil RoleBelow
  below-drop (suc k) (r ∷ w) b = below-drop k w (every_tail RoleBelow b)

  below-shape : (ρ : Rule) → Below ρ.left → InnerBelow (shape ρ)
  unfolding shape
  below-shape ρ b =
      cond_both InnerBelow (same_chain ρ.left (ρ.right ∷ ρ.right ∷ [])) tt
      (cond_both InnerBelow (same_chain ρ.left (inv ρ.right ∷ [])) tt
      (cond_both InnerBelow (leads ρ.right ρ.left) (below-drop 1 ρ.left b)
      (cond_both InnerBelow (trails ρ.right ρ.left) (below-take (length ρ.left - 1) ρ.left b) b)))

  below-own : (ρs : List Rule) → Named n ρs → (r : ℕ) → Every InnerBelow (own_shapes ρs r)
  unfolding rules_of
  below-own [] named r = every_nil InnerBelow
  below-own (ρ ∷ ρs) named r = by_test (below-own ρs (λ σ m. named σ (Memᴰ.tail m)) r)
    where
      left_below : Below ρ.left
      left_below = (named ρ (Memᴰ.head refl)).1

      mirror-below : Below (inverse ρ).left
      mirror-below = unfold inverse in below-inv_chain ρ.left left_below

      by_test : Every InnerBelow (own_shapes ρs r) → Every InnerBelow (own_shapes (ρ ∷ ρs) r)
      by_test rest =
          cond_both (λ (σs : List Rule). Every InnerBelow (map shape σs)) (eqb ρ.right r)
          (every_cons InnerBelow (below-shape ρ left_below) rest)
          (cond_both (λ (σs : List Rule). Every InnerBelow (map shape σs)) (eqb (inv ρ.right) r)
          (every_cons InnerBelow (below-shape (inverse ρ) mirror-below) rest)
          rest)

  pub below-shapes : (ρs : List Rule) → Named n ρs → (r : ℕ) → Every InnerBelow (shapes ρs r)
  unfolding shapes
  below-shapes ρs named r =
      cond_both (Every InnerBelow) (has_symmetric (own_shapes ρs r))
      (every_append InnerBelow (own_shapes ρs r) (below-own ρs named r) (below-own ρs named (inv r)))
      (below-own ρs named r)

  -- no role is the label of a silent transition
  module _ (small : n ≤ 64) (r : ℕ) (r-below : r < 2 * n) where
    pub role-letter : r < epsilon
    role-letter = omega arith

    pub inv-letter : inv r < epsilon
    inv-letter = omega (arith, inv-below r n r-below)
