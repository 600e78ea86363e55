-- When rules have a regular order: exactly where the order gathered rule by rule meets no clash. Where there is none that gives truth values
-- there is none of any other kind, and document 001's variant exists for the same rules.
use Rattle.std.specs.Prelude.{Bool, true, false, List, [], ◌∷◌, ◌++◌, ◌⊎◌, ◌↔◌, ◌≡◌, refl, ℕ}
use mathlib.Core.List.Memᴰ
use Rattle.std.proofs.Common.{append-nil, append_assoc, inl, inr, sym, ◌∙◌, subst, arith}
use Rattle.base.specs.Truth.{true_or_false}
use Rattle.roles.specs.Role.{Chain, name}
use Rattle.roles.specs.Rule.{Rule}
use Rattle.order.specs.Shape.{Shape}
use Rattle.order.specs.ShapeLaws.{View, view}
use Rattle.order.specs.ShapeLaws.View.{is_transitive, is_symmetric, is_led, is_trailed, is_plain}
use Rattle.order.specs.Regular.{RegularOrder, RegularOrder001, Forms, holds, Regular, Regular001}
use Rattle.order.specs.Leveled.{Lower, NameOrder}
use Rattle.order.specs.RoleOrder.{lower_of, turning, turning001, name-order, role-order, role_order001, role-forms}
use Rattle.order.specs.Closure.{no_order, with_rule, clashes}
use Rattle.order.specs.ClosureLaws.{Closed, closed_none, closed_with, clash_forced, forced-lower}

-- the gathered order, as a regular one of either kind
pub closed_regular : (ρs : List Rule) (lower : ℕ → ℕ → Bool) → Closed ρs lower → Regular ρs
closed_regular ρs lower c =
    record {
      below = λ s r. lower (name s) (name r);
      order = role-order (holds lower) ρs c.order;
      forms = role-forms (holds lower) ρs c.order;
    }

pub closed_regular001 : (ρs : List Rule) (lower : ℕ → ℕ → Bool) → Closed ρs lower → Regular001 ρs
closed_regular001 ρs lower c =
    record {
      below = λ s r. lower (name s) (name r);
      order = role_order001 (holds lower) ρs c.order;
      forms = role-forms (holds lower) ρs c.order;
    }

-- an order on names for more rules is one for fewer
order-front {ℓ} : (lower : ℕ → ℕ → Type ℓ) (ρs τs : List Rule) → NameOrder lower (ρs ++ τs) → NameOrder lower ρs
order-front lower ρs τs o =
    record { irreflexive = o.irreflexive; transitive = o.transitive; inner = λ ρ m. o.inner ρ (Memᴰ.append_left τs m) }

-- where a rule clashes there is no order on names
clash-order {ℓ} : (lower : ℕ → ℕ → Type ℓ) (ρs : List Rule) (gathered : ℕ → ℕ → Bool) → Closed ρs gathered → (ρ : Rule) → clashes gathered ρ ≡ true
    → NameOrder lower (ρs ++ (ρ ∷ [])) → ⊥
clash-order lower ρs gathered c ρ h o = o.irreflexive (name ρ.right) (forced-lower lower (ρs ++ (ρ ∷ [])) o (clash_forced ρs gathered c ρ h))

-- a rule with inner names lower than its right name has a left side
some_left {ℓ} : (lower : ℕ → ℕ → Type ℓ) (ρ : Rule) {sh : Shape} → View ρ sh → Lower lower (name ρ.right) sh → ρ.left ≡ [] → ⊥
some_left lower ρ (is_transitive e) l q = let z : ◌≡◌ {A = ℕ} 0 1 = cc in omega arith
some_left lower ρ (is_symmetric e) l q = let z : ◌≡◌ {A = ℕ} 0 1 = cc in omega arith
some_left lower ρ (is_led w e n a) l q = let z : ◌≡◌ {A = ℕ} 0 1 = cc in omega arith
some_left lower ρ (is_trailed w e n a b) l q = append_some w (sym e ∙ q)
  where
    append_some : (v : Chain) → v ++ (ρ.right ∷ []) ≡ [] → ⊥
    append_some [] f = let z : ◌≡◌ {A = ℕ} 0 1 = cc in omega arith
    append_some (t ∷ v) f = let z : ◌≡◌ {A = ℕ} 0 1 = cc in omega arith
some_left lower ρ (is_plain a b d e) l q = l.0 q

-- with an order on names of any kind the gathering meets no clash
gather {ℓ} : (lower : ℕ → ℕ → Type ℓ) (done rest : List Rule) (gathered : ℕ → ℕ → Bool) → Closed done gathered → NameOrder lower (done ++ rest)
    → (final : ℕ → ℕ → Bool) × Closed (done ++ rest) final
gather lower done [] gathered c o = (gathered, subst (λ (l : List Rule). Closed l gathered) (sym (append-nil done)) c)
gather lower done (ρ ∷ rest) gathered c o =
    by_test (λ (c' : Closed (done ++ (ρ ∷ [])) (with_rule gathered ρ)). gather lower (done ++ (ρ ∷ [])) rest (with_rule gathered ρ) c' whole)
    (true_or_false (clashes gathered ρ))
  where
    whole : NameOrder lower ((done ++ (ρ ∷ [])) ++ rest)
    whole = subst (λ (l : List Rule). NameOrder lower l) (sym (append_assoc done (ρ ∷ []) rest)) o

    some : ρ.left ≡ [] → ⊥
    some = some_left lower ρ (view ρ) (o.inner ρ (Memᴰ.append_right done (Memᴰ.head refl)))

    by_test : (Closed (done ++ (ρ ∷ [])) (with_rule gathered ρ) → (final : ℕ → ℕ → Bool) × Closed ((done ++ (ρ ∷ [])) ++ rest) final)
        → (clashes gathered ρ ≡ true) ⊎ (clashes gathered ρ ≡ false) → (final : ℕ → ℕ → Bool) × Closed (done ++ (ρ ∷ rest)) final
    by_test next (inl h) = absurd (clash-order lower done gathered c ρ h (order-front lower (done ++ (ρ ∷ [])) rest whole))
    by_test next (inr h) =
        let r = next (closed_with done gathered c ρ some h) in
        (r.0, subst (λ (l : List Rule). Closed l r.0) (append_assoc done (ρ ∷ []) rest) r.1)

pub order-closed {ℓ} : (lower : ℕ → ℕ → Type ℓ) (ρs : List Rule) → NameOrder lower ρs → (gathered : ℕ → ℕ → Bool) × Closed ρs gathered
order-closed lower ρs o = gather lower [] ρs no_order closed_none o

pub regular_closed : (ρs : List Rule) → Regular ρs → (gathered : ℕ → ℕ → Bool) × Closed ρs gathered
regular_closed ρs r = order-closed (lower_of (holds r.below)) ρs (name-order (holds r.below) (turning (holds r.below) r.order) ρs r.forms)

-- an order of any kind, and document 001's variant
pub regular-any {ℓ} : (below : ℕ → ℕ → Type ℓ) (ρs : List Rule) → RegularOrder below → Forms below ρs → Regular ρs
regular-any below ρs o f =
    let c = order-closed (lower_of below) ρs (name-order below (turning below o) ρs f) in
    closed_regular ρs c.0 c.1

pub regular001-any {ℓ} : (below : ℕ → ℕ → Type ℓ) (ρs : List Rule) → RegularOrder001 below → Forms below ρs → Regular001 ρs
regular001-any below ρs o f =
    let c = order-closed (lower_of below) ρs (name-order below (turning001 below o) ρs f) in
    closed_regular001 ρs c.0 c.1

pub same_books : (ρs : List Rule) → Regular ρs ↔ Regular001 ρs
same_books ρs = (
  λ r. let c = regular_closed ρs r in closed_regular001 ρs c.0 c.1,
  λ r.
      let c = order-closed (lower_of (holds r.below)) ρs (name-order (holds r.below) (turning001 (holds r.below) r.order) ρs r.forms) in
      closed_regular ρs c.0 c.1,
)

-- for the order check: a clash leaves no regular order, and a front part of ordered rules is ordered
pub clash_irregular : (ρs : List Rule) (gathered : ℕ → ℕ → Bool) → Closed ρs gathered → (ρ : Rule) → clashes gathered ρ ≡ true → Regular (ρs ++ (ρ ∷ [])) → ⊥
clash_irregular ρs gathered c ρ h r =
    clash-order (lower_of (holds r.below)) ρs gathered c ρ h
    (name-order (holds r.below) (turning (holds r.below) r.order) (ρs ++ (ρ ∷ [])) r.forms)

pub regular_front : (ρs τs : List Rule) → Regular (ρs ++ τs) → Regular ρs
regular_front ρs τs r = record { below = r.below; order = r.order; forms = λ ρ m. r.forms ρ (Memᴰ.append_left τs m) }
