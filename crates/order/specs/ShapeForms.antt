-- The shape of a rule by its form, where no inner role has the right role's name; and the shape of the inverse of a rule: the same row,
-- inverted, between the states turned round.
use Rattle.std.specs.Prelude.{false, cond, ◌⊎◌, ◌≡◌, refl, ℕ, suc, ◌-◌, length, take, drop}
use mathlib.Core.List.{[], ◌∷◌, ◌++◌, head-eq_of_cons-eq, Memᴰ}
use mathlib.Core.List.Memᴰ
use Rattle.std.proofs.Common.{inl, inr, sym, ap, ◌∙◌, arith, length-append}
use Rattle.std.proofs.Math.Seq.{take-append_seam}
use Rattle.base.specs.Truth.{not_true_false}
use Rattle.roles.specs.Role.{Chain, name, inv, inv_chain}
use Rattle.roles.specs.RoleLaws.{inv-inv, name-inv, inv_chain_nil, inv_chain-one, inv_chain-cons, inv_chain_append, inv_chain-inv_chain}
use Rattle.roles.specs.RoleLaws.{same_chain-complete, same_chain_differ}
use Rattle.roles.specs.Rule.{Rule, inverse}
use Rattle.order.specs.Shape.{End, Shape, leads, trails, shape}
use Rattle.order.specs.Shape.End.{initial, final}
use Rattle.order.specs.Shape.Shape.{transitive, symmetric, row}
use Rattle.order.specs.ShapeLaws.{leads-split, leads_join, trails-split, trails_join, View, view}
use Rattle.order.specs.ShapeLaws.View.{is_transitive, is_symmetric, is_led, is_trailed, is_plain}

leads-apart : (r s : ℕ) (w : Chain) → (s ≡ r → ⊥) → leads r (s ∷ w) ≡ false
leads-apart r s w a = not_true_false (leads r (s ∷ w)) (λ h. a (head-eq_of_cons-eq (leads-split r (s ∷ w) h).0))

trails-apart : (r : ℕ) (w : Chain) → (Memᴰ r w → ⊥) → trails r w ≡ false
trails-apart r w a =
    not_true_false (trails r w)
    (λ h. a (rw (trails-split r w h).0 (Memᴰ.append_right (take (length w - 1) w) (Memᴰ.head refl))))

-- inner roles: some, and none of the name of r
abbrev pub Apart : ℕ → Chain → Type 0
Apart r inner = (inner ≡ [] → ⊥) × ((s : ℕ) → Memᴰ s inner → name s ≡ name r → ⊥)

shape-twice : (ρ : Rule) → ρ.left ≡ ρ.right ∷ ρ.right ∷ [] → shape ρ ≡ transitive
unfolding shape
shape-twice ρ h = rw (same_chain-complete ρ.left (ρ.right ∷ ρ.right ∷ []) h) refl

shape-turned : (ρ : Rule) → ρ.left ≡ inv ρ.right ∷ [] → shape ρ ≡ symmetric
unfolding shape
shape-turned ρ h =
    rw (same_chain_differ ρ.left (ρ.right ∷ ρ.right ∷ []) longer, same_chain-complete ρ.left (inv ρ.right ∷ []) h) refl
  where
    longer : ρ.left ≡ ρ.right ∷ ρ.right ∷ [] → ⊥
    longer k = let z : ◌≡◌ {A = ℕ} 0 1 = cc in omega arith

-- the shape of a rule where it is neither form 4 nor form 5
abbrev row_shape : Rule → Shape
row_shape ρ =
    cond (leads ρ.right ρ.left) (row final final (drop 1 ρ.left))
    (cond (trails ρ.right ρ.left) (row initial initial (take (length ρ.left - 1) ρ.left))
    (row initial final ρ.left))

-- a rule with a left role of another name than the right role's is neither
shape_row : (ρ : Rule) (s : ℕ) → Memᴰ s ρ.left → (name s ≡ name ρ.right → ⊥) → shape ρ ≡ row_shape ρ
unfolding shape
shape_row ρ s m a =
    rw (same_chain_differ ρ.left (ρ.right ∷ ρ.right ∷ []) twice, same_chain_differ ρ.left (inv ρ.right ∷ []) turned) refl
  where
    of_two : Memᴰ s (ρ.right ∷ ρ.right ∷ []) → ⊥
    of_two (Memᴰ.head e) = a (ap name e)
    of_two (Memᴰ.tail k) = a (ap name (Memᴰ.eq_of_singleton k))

    twice : ρ.left ≡ ρ.right ∷ ρ.right ∷ [] → ⊥
    twice h = of_two (rw h at m)

    turned : ρ.left ≡ inv ρ.right ∷ [] → ⊥
    turned h = a (ap name (Memᴰ.eq_of_singleton (rw h at m)) ∙ name-inv ρ.right)

-- a left side with the right role before or after inner roles that are apart, or without it
shape-led : (ρ : Rule) (inner : Chain) → ρ.left ≡ ρ.right ∷ inner → Apart ρ.right inner → shape ρ ≡ row final final inner
shape-led ρ [] h a = absurd (a.0 refl)
shape-led ρ (s ∷ w) h a =
    rw (shape_row ρ s (rw h (Memᴰ.tail (Memᴰ.head refl))) (a.1 s (Memᴰ.head refl)))
    (rw h (rw (leads_join ρ.right (s ∷ w) a.0) refl))

shape_trailed : (ρ : Rule) (inner : Chain) → ρ.left ≡ inner ++ (ρ.right ∷ []) → Apart ρ.right inner → shape ρ ≡ row initial initial inner
shape_trailed ρ [] h a = absurd (a.0 refl)
shape_trailed ρ (s ∷ w) h a =
    let e : suc (length (w ++ (ρ.right ∷ []))) - 1 ≡ suc (length w) = omega (arith, length-append w (ρ.right ∷ [])) in
    rw (shape_row ρ s (rw h (Memᴰ.head refl)) (a.1 s (Memᴰ.head refl)))
    (rw h (rw (leads-apart ρ.right s (w ++ (ρ.right ∷ [])) (λ k. a.1 s (Memᴰ.head refl) (ap name k)))
    (rw (trails_join ρ.right (s ∷ w) a.0, e, take-append_seam w (ρ.right ∷ [])) refl)))

shape-plain : (ρ : Rule) (inner : Chain) → ρ.left ≡ inner → Apart ρ.right inner → shape ρ ≡ row initial final inner
shape-plain ρ [] h a = absurd (a.0 refl)
shape-plain ρ (s ∷ w) h a =
    rw (shape_row ρ s (rw h (Memᴰ.head refl)) (a.1 s (Memᴰ.head refl)))
    (rw h (rw (leads-apart ρ.right s w (λ k. a.1 s (Memᴰ.head refl) (ap name k)))
    (rw (trails-apart ρ.right (s ∷ w) (λ m. a.1 ρ.right m refl)) refl)))

-- the inner roles of an inverted chain
pub inv_chain-member : (s : ℕ) (w : Chain) → Memᴰ s (inv_chain w) → Memᴰ (inv s) w
inv_chain-member s [] m = absurd (Memᴰ.not-nil (rw inv_chain_nil at m))
inv_chain-member s (r ∷ w) m =
    by_part (inv_chain-member s w) (Memᴰ.append_cases (inv_chain w) (rw inv_chain-cons at m))
  where
    by_part : (Memᴰ s (inv_chain w) → Memᴰ (inv s) w) → Memᴰ s (inv_chain w) ⊎ Memᴰ s (inv r ∷ []) → Memᴰ (inv s) (r ∷ w)
    by_part before (inl k) = Memᴰ.tail (before k)
    by_part before (inr k) = Memᴰ.head (ap inv (Memᴰ.eq_of_singleton k) ∙ inv-inv r)

pub inv_chain-some : (w : Chain) → (w ≡ [] → ⊥) → inv_chain w ≡ [] → ⊥
inv_chain-some w a h = a (sym (inv_chain-inv_chain w) ∙ (ap inv_chain h ∙ inv_chain_nil))

-- the other state
abbrev pub other : End → End
other initial = final
other final = initial

-- a shape read from the other end
abbrev pub turned : Shape → Shape
turned transitive = transitive
turned symmetric = symmetric
turned (row from to inner) = row (other to) (other from) (inv_chain inner)

-- no inner role of a shape has the name of r
abbrev pub AllApart : ℕ → Shape → Type 0
AllApart r transitive = Unit
AllApart r symmetric = Unit
AllApart r (row from to inner) = Apart r inner

pub apart-inverse : (r : ℕ) (inner : Chain) → Apart r inner → Apart (inv r) (inv_chain inner)
apart-inverse r inner a = (
  inv_chain-some inner a.0,
  λ s m e. a.1 (inv s) (inv_chain-member s inner m) (name-inv s ∙ (e ∙ name-inv r)),
)

pub shape-inverse : (ρ : Rule) → AllApart ρ.right (shape ρ) → shape (inverse ρ) ≡ turned (shape ρ)
unfolding inverse
shape-inverse ρ = by_view (view ρ)
  where
    by_view : {sh : Shape} → View ρ sh → AllApart ρ.right sh → shape (inverse ρ) ≡ turned sh
    by_view (is_transitive e) a = shape-twice (inverse ρ) (rw (e, inv_chain-cons, inv_chain-one) refl)
    by_view (is_symmetric e) a = shape-turned (inverse ρ) (rw (e, inv_chain-one) refl)
    by_view (is_led inner e some x) a =
        shape_trailed (inverse ρ) (inv_chain inner) (ap inv_chain e ∙ inv_chain-cons ρ.right inner) (apart-inverse ρ.right inner a)
    by_view (is_trailed inner e some x y) a =
        shape-led (inverse ρ) (inv_chain inner) (rw (e, inv_chain_append inner (ρ.right ∷ []), inv_chain-one) refl) (apart-inverse ρ.right inner a)
    by_view (is_plain x y z w) a = shape-plain (inverse ρ) (inv_chain ρ.left) refl (apart-inverse ρ.right ρ.left a)
