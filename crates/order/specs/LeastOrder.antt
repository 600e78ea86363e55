-- The depth is document 000's: how many members the longest sequence of roles has, each below the next in the intersection of all regular orders.
use Rattle.std.specs.Prelude.{Bool, ◌⊎◌, ◌≡◌, refl, ℕ, suc, ◌*◌, ◌<◌, ◌≤◌}
use mathlib.Core.List.{List, Memᴰ}
use Rattle.std.proofs.Common.{inl, inr, ap, ◌∙◌}
use Rattle.std.proofs.Math.Path.{sym, subst}
use native.Mathlib.Omega.{arith}
use Rattle.roles.specs.Role.{name, inv}
use Rattle.roles.specs.RoleLaws.{inv-inv, name_below, name-inv, same_name}
use Rattle.roles.specs.Rule.{Rule}
use Rattle.roles.specs.Named.{Named}
use Rattle.order.specs.Shape.{shape, inner_of}
use Rattle.order.specs.ShapeLaws.{view}
use Rattle.order.specs.Regular.{holds, Regular, Least}
use Rattle.order.specs.RoleOrder.{turning, form_inner, role-order, role-forms}
use Rattle.order.specs.ClosureLaws.{Closed, Forced, inner-each}
use Rattle.order.specs.Regularity.{regular_closed}
use Rattle.order.specs.Depth.{inner_roles, level, depth}
use Rattle.order.specs.DepthLaws.{member-inner, forced-low, forced_high, level-step, levels-longest, level_deep, depth-met, depth-some}
use Rattle.order.specs.Longest.{Way, Longest, longest_way, way_short}
use Rattle.order.specs.Longest.Way.{alone, down}

-- an inner role is below its rule's right role in every regular order
inner-least : (ρs : List Rule) (ρ : Rule) → Memᴰ ρ ρs → (s : ℕ) → Memᴰ s (inner_of (shape ρ)) → Least ρs s ρ.right
inner-least ρs ρ m s i below o f = inner-each (λ t. holds below t ρ.right) (shape ρ) (form_inner (holds below) (turning (holds below) o) ρ (view ρ) (f ρ m)) s i

module _ (n : ℕ) (ρs : List Rule) (named : Named n ρs) {lower : ℕ → ℕ → Bool} (c : Closed ρs lower) where
  -- what is below in all regular orders is forced below
  least-forced : (s r : ℕ) → Least ρs s r → Forced ρs (name s) (name r)
  least-forced s r l = c.forced (name s) (name r) (l (λ s r. lower (name s) (name r)) (role-order (holds lower) ρs c.order) (role-forms (holds lower) ρs c.order))

  of_name : (r : ℕ) → name r < n → r < 2 * n
  unfolding name
  of_name r h = omega arith

  -- a rule of r's name puts its inner roles, or their inverses, below r
  below-role : (r s : ℕ) → Memᴰ s (inner_roles ρs (name r)) → (t : ℕ) × (name t ≡ name s) × Least ρs t r
  below-role r s m = by-polarity (same_name ρ.right r rule.2)
    where
      rule : (ρ : Rule) × Memᴰ ρ ρs × (name ρ.right ≡ name r) × Memᴰ s (inner_of (shape ρ))
      rule = member-inner ρs (name r) s m

      ρ : Rule
      ρ = rule.0

      by-polarity : (ρ.right ≡ r) ⊎ (ρ.right ≡ inv r) → (t : ℕ) × (name t ≡ name s) × Least ρs t r
      by-polarity (inl e) = (s, refl, subst (Least ρs s) e (inner-least ρs ρ rule.1 s rule.3))
      by-polarity (inr e) = (
        inv s,
        name-inv s,
        λ below o f.
            subst (λ (x : ℕ). holds below (inv s) x) (ap inv e ∙ inv-inv r)
            ((o.inverse s ρ.right).0 (inner-least ρs ρ rule.1 s rule.3 below o f)),
      )

  roles-longest : Longest (2 * n) (Least ρs) (λ r. level n ρs (name r))
  roles-longest =
      record {
        rises = λ s r l. (levels-longest n ρs named c).rises (name s) (name r) (least-forced s r l);
        reached = λ r p. by-step r (level-step n ρs named c (name r) (name_below r n p));
      }
    where
      by-step : (r : ℕ) → (level n ρs (name r) ≡ 1) ⊎ ((s : ℕ) × Memᴰ s (inner_roles ρs (name r)) × (level n ρs (name r) ≡ suc (level n ρs (name s))))
          → (level n ρs (name r) ≡ 1) ⊎ ((t : ℕ) × (t < 2 * n) × Least ρs t r × (level n ρs (name r) ≡ suc (level n ρs (name t))))
      by-step r (inl e) = inl e
      by-step r (inr (s, m, e)) =
          let b = below-role r s m in
          inr (
            b.0,
            of_name b.0 (forced-low n ρs named (least-forced b.0 r b.2)),
            b.2,
            e ∙ ap (λ (x : ℕ). suc (level n ρs x)) (sym b.1),
          )

  module _ (some : 1 ≤ n) where
    longest-sequence : (r : ℕ) × (r < 2 * n) × Way (Least ρs) r (depth n ρs)
    unfolding name
    longest-sequence =
        let m = depth-met n ρs named c some in
        let x = m.0 in
        let p : 2 * x < 2 * n = omega (arith, m.1) in
        let e : name (2 * x) ≡ x = omega arith in
        (2 * x, p, subst (Way (Least ρs) (2 * x)) (ap (level n ρs) e ∙ sym m.2) (longest_way roles-longest (2 * x) p))

    no_longer : {r k : ℕ} → Way (Least ρs) r k → k ≤ depth n ρs
    no_longer (alone r) = depth-some n ρs named c some
    no_longer (down r s k l w) =
        let p : name r < n = forced_high n ρs named (least-forced s r l) in
        omega (
          arith,
          way_short roles-longest (λ t q h. of_name t (forced-low n ρs named (least-forced t q h))) (of_name r p) (down r s k l w),
          level_deep n ρs named c (name r) p,
        )

-- of rules over one name or more that have a regular order
pub record Deepest (ρs : List Rule) (k : ℕ) : Type 0 where
  pub sequence : (r : ℕ) × Way (Least ρs) r k
  pub longest : (r j : ℕ) → Way (Least ρs) r j → j ≤ k

pub depth_deepest : (n : ℕ) (ρs : List Rule) → Named n ρs → Regular ρs → 1 ≤ n → Deepest ρs (depth n ρs)
depth_deepest n ρs named r some =
    let c = (regular_closed ρs r).1 in
    let l = longest-sequence n ρs named c some in
    record { sequence = (l.0, l.2); longest = λ r j w. no_longer n ρs named c some w }
