-- The shapes of a role's own rules, rule by rule: a rule of another right name adds none; one of the same name adds its shape, turned round
-- where its right role is the inverse.
use Rattle.std.specs.Prelude.{Bool, true, false, cond, ◌||◌, ◌⊎◌, ◌≡◌, refl, ℕ, eqb}
use Rattle.std.proofs.Math.Bool.{or_self}
use mathlib.Core.List.{List, [], ◌∷◌, ◌++◌, Memᴰ}
use Rattle.std.proofs.Common.{inl, inr, sym, ap, ◌∙◌, arith, eq-eqb, ne_eqb}
use Rattle.base.specs.Truth.{eq_or_ne}
use Rattle.roles.specs.Role.{name, inv}
use Rattle.roles.specs.RoleLaws.{name-inv, same_name, inv-inv}
use Rattle.roles.specs.Rule.{Rule}
use Rattle.order.specs.Shape.{Shape, shape}
use Rattle.order.specs.Shape.Shape.{transitive, symmetric, row}
use Rattle.order.specs.ShapeForms.{turned, AllApart, shape-inverse}
use Rattle.tables.specs.Tables.{rules_of, own_shapes, shapes, has_symmetric, has_transitive}

-- the shape that a rule of r's name adds to a fragment of r
abbrev pub facing : ℕ → Rule → Shape
facing r ρ = cond (eqb ρ.right r) (shape ρ) (turned (shape ρ))

pub own-other : (ρ : Rule) (ρs : List Rule) (r : ℕ) → (name ρ.right ≡ name r → ⊥) → own_shapes (ρ ∷ ρs) r ≡ own_shapes ρs r
unfolding rules_of
own-other ρ ρs r h =
    rw (ne_eqb ρ.right r (λ e. h (ap name e)), ne_eqb (inv ρ.right) r (λ e. h (sym (name-inv ρ.right) ∙ ap name e))) refl

inv-apart : (r : ℕ) → inv r ≡ r → ⊥
unfolding inv
inv-apart r h = omega arith

pub own_same : (ρ : Rule) (ρs : List Rule) (r : ℕ) → name ρ.right ≡ name r → AllApart ρ.right (shape ρ) → own_shapes (ρ ∷ ρs) r ≡ facing r ρ ∷ own_shapes ρs r
unfolding rules_of
own_same ρ ρs r h a = by-role (same_name ρ.right r h)
  where
    by-role : (ρ.right ≡ r) ⊎ (ρ.right ≡ inv r) → own_shapes (ρ ∷ ρs) r ≡ facing r ρ ∷ own_shapes ρs r
    by-role (inl e) = rw (eq-eqb ρ.right r e) refl
    by-role (inr e) =
        let i : inv ρ.right ≡ r = ap inv e ∙ inv-inv r in
        let d : ρ.right ≡ r → ⊥ = λ q. inv-apart r (sym e ∙ q) in
        rw (ne_eqb ρ.right r d, eq-eqb (inv ρ.right) r i, shape-inverse ρ a) refl

-- whether a shape is form 5, or form 4
abbrev pub is_symmetric : Shape → Bool
is_symmetric transitive = false
is_symmetric symmetric = true
is_symmetric (row f t w) = false

abbrev pub is_transitive : Shape → Bool
is_transitive transitive = true
is_transitive symmetric = false
is_transitive (row f t w) = false

has_symmetric-cons : (s : Shape) (ss : List Shape) → has_symmetric (s ∷ ss) ≡ (is_symmetric s || has_symmetric ss)
unfolding has_symmetric
has_symmetric-cons transitive ss = refl
has_symmetric-cons symmetric ss = refl
has_symmetric-cons (row f t w) ss = refl

has_transitive-cons : (s : Shape) (ss : List Shape) → has_transitive (s ∷ ss) ≡ (is_transitive s || has_transitive ss)
unfolding has_transitive
has_transitive-cons transitive ss = refl
has_transitive-cons symmetric ss = refl
has_transitive-cons (row f t w) ss = refl

-- these forms are their own inverses
symmetric-turned : (s : Shape) → is_symmetric (turned s) ≡ is_symmetric s
symmetric-turned transitive = refl
symmetric-turned symmetric = refl
symmetric-turned (row f t w) = refl

transitive-turned : (s : Shape) → is_transitive (turned s) ≡ is_transitive s
transitive-turned transitive = refl
transitive-turned symmetric = refl
transitive-turned (row f t w) = refl

symmetric-facing : (r : ℕ) (ρ : Rule) → is_symmetric (facing r ρ) ≡ is_symmetric (shape ρ)
symmetric-facing r ρ = by_test (eqb ρ.right r)
  where
    by_test : (t : Bool) → is_symmetric (cond t (shape ρ) (turned (shape ρ))) ≡ is_symmetric (shape ρ)
    by_test true = refl
    by_test false = symmetric-turned (shape ρ)

transitive-facing : (r : ℕ) (ρ : Rule) → is_transitive (facing r ρ) ≡ is_transitive (shape ρ)
transitive-facing r ρ = by_test (eqb ρ.right r)
  where
    by_test : (t : Bool) → is_transitive (cond t (shape ρ) (turned (shape ρ))) ≡ is_transitive (shape ρ)
    by_test true = refl
    by_test false = transitive-turned (shape ρ)

pub facing-symmetric : (r : ℕ) (ρ : Rule) (ss : List Shape) → has_symmetric (facing r ρ ∷ ss) ≡ (is_symmetric (shape ρ) || has_symmetric ss)
facing-symmetric r ρ ss = has_symmetric-cons (facing r ρ) ss ∙ ap (λ (t : Bool). t || has_symmetric ss) (symmetric-facing r ρ)

pub facing-transitive : (r : ℕ) (ρ : Rule) (ss : List Shape) → has_transitive (facing r ρ ∷ ss) ≡ (is_transitive (shape ρ) || has_transitive ss)
facing-transitive r ρ ss = has_transitive-cons (facing r ρ) ss ∙ ap (λ (t : Bool). t || has_transitive ss) (transitive-facing r ρ)

-- no inner role of a rule has its right role's name
abbrev pub ApartRules : List Rule → Type 0
ApartRules ρs = (ρ : Rule) → Memᴰ ρ ρs → AllApart ρ.right (shape ρ)

-- what rules add to a list of shapes alike for a role and for its inverse comes out alike for both
pub own-inverse : {A : Type 0} (f : List Shape → A) (added : Shape → A → A)
    → ((r : ℕ) (ρ : Rule) (ss : List Shape) → f (facing r ρ ∷ ss) ≡ added (shape ρ) (f ss))
    → (ρs : List Rule) (r : ℕ) → ApartRules ρs → f (own_shapes ρs (inv r)) ≡ f (own_shapes ρs r)
unfolding rules_of
own-inverse f added faces [] r a = refl
own-inverse f added faces (ρ ∷ ρs) r a = by_name (eq_or_ne (name ρ.right) (name r)) (own-inverse f added faces ρs r (λ σ m. a σ (Memᴰ.tail m)))
  where
    Same : List Rule → Type 0
    Same σs = f (own_shapes σs (inv r)) ≡ f (own_shapes σs r)

    by_name : (name ρ.right ≡ name r) ⊎ (name ρ.right ≡ name r → ⊥) → Same ρs → Same (ρ ∷ ρs)
    by_name (inl e) h =
        rw (
          own_same ρ ρs (inv r) (e ∙ sym (name-inv r)) (a ρ (Memᴰ.head refl)),
          own_same ρ ρs r e (a ρ (Memᴰ.head refl)),
          faces (inv r) ρ (own_shapes ρs (inv r)),
          faces r ρ (own_shapes ρs r),
          h,
        )
        refl
    by_name (inr e) h = rw (own-other ρ ρs (inv r) (λ q. e (q ∙ name-inv r)), own-other ρ ρs r e) h

-- form 4 is there for a role and for its inverse alike
transitive-inverse : (ρs : List Rule) (r : ℕ) → ApartRules ρs → has_transitive (own_shapes ρs (inv r)) ≡ has_transitive (own_shapes ρs r)
transitive-inverse = own-inverse has_transitive (λ s t. is_transitive s || t) facing-transitive

has_transitive_append : (ss ts : List Shape) → has_transitive (ss ++ ts) ≡ (has_transitive ss || has_transitive ts)
unfolding has_transitive
has_transitive_append [] ts = refl
has_transitive_append (transitive ∷ ss) ts = refl
has_transitive_append (symmetric ∷ ss) ts = has_transitive_append ss ts
has_transitive_append (row f t w ∷ ss) ts = has_transitive_append ss ts

pub has_transitive-shapes : (ρs : List Rule) (r : ℕ) → ApartRules ρs → has_transitive (shapes ρs r) ≡ has_transitive (own_shapes ρs r)
unfolding shapes
has_transitive-shapes ρs r a = by_test (has_symmetric (own_shapes ρs r))
  where
    by_test : (t : Bool) → has_transitive (cond t (own_shapes ρs r ++ own_shapes ρs (inv r)) (own_shapes ρs r)) ≡ has_transitive (own_shapes ρs r)
    by_test true =
        has_transitive_append (own_shapes ρs r) (own_shapes ρs (inv r))
        ∙ (ap (λ (t : Bool). has_transitive (own_shapes ρs r) || t) (transitive-inverse ρs r a) ∙ or_self (has_transitive (own_shapes ρs r)))
    by_test false = refl
