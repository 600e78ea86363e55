-- Between orders on roles and orders on names: both papers' regular orders give an order on names, and an order on names gives both.
use mathlib.Core.List.Memᴰ
use mathlib.Core.List.{List, [], ◌∷◌, ◌++◌, Memᴰ, append_cancel_right, head-eq_of_cons-eq, tail-eq_of_cons-eq, concat-ne-nil}
use Rattle.std.specs.Prelude.{◌⊎◌, ◌≡◌, refl, ℕ}
use Rattle.std.proofs.Common.{inl, inr, sym, ◌∙◌, subst, subst₂}
use Rattle.roles.specs.Role.{Chain, name, inv}
use Rattle.roles.specs.RoleLaws.{inv-inv, name-inv, same_name}
use Rattle.roles.specs.Rule.{Rule}
use Rattle.order.specs.Shape.{Shape, shape}
use Rattle.order.specs.Shape.Shape.{transitive, symmetric, row}
use Rattle.order.specs.ShapeLaws.{View, view}
use Rattle.order.specs.ShapeLaws.View.{is_transitive, is_symmetric, is_led, is_trailed, is_plain}
use Rattle.order.specs.Regular.{RegularOrder, RegularOrder001, Inner, Form, Forms}
use Rattle.order.specs.Regular.Form.{form1, form2, form3, form4, form5}
use Rattle.order.specs.Leveled.{AllInner, Lower, NameOrder}

-- a name is lower than another where a role of the one is below a role of the other
abbrev pub lower_of {ℓ} : (ℕ → ℕ → Type ℓ) → ℕ → ℕ → Type ℓ
lower_of below y x = (s : ℕ) × (r : ℕ) × (name s ≡ y) × (name r ≡ x) × below s r

all-inner {ℓ ℓ'} : {P : ℕ → Type ℓ} {Q : ℕ → Type ℓ'} → ((s : ℕ) → P s → Q s) → (sh : Shape) → AllInner P sh → AllInner Q sh
all-inner f transitive a = tt
all-inner f symmetric a = tt
all-inner f (row from to inner) a = (a.0, λ s m. f s (a.1 s m))

-- what both papers' orders have in common
pub record Turning {ℓ} (below : ℕ → ℕ → Type ℓ) : Type ℓ where
  pub apart : (s r : ℕ) → name s ≡ name r → below s r → ⊥
  pub joined : (s r r' t : ℕ) → name r ≡ name r' → below s r → below r' t → (t' : ℕ) × (name t' ≡ name t) × below s t'

module _ {ℓ} (below : ℕ → ℕ → Type ℓ) where
  pub turning : RegularOrder below → Turning below
  turning o = record { apart = λ s r e b. apart s r b (same_name s r e); joined = λ s r r' t e b c. joined s r r' t b c (same_name r r' e) }
    where
      apart : (s r : ℕ) → below s r → (s ≡ r) ⊎ (s ≡ inv r) → ⊥
      apart s r b (inl e) = o.irreflexive r (subst (λ (x : ℕ). below x r) e b)
      apart s r b (inr e) =
          let b' : below (inv r) r = subst (λ (x : ℕ). below x r) e b in
          let c : below r (inv r) = subst (λ (x : ℕ). below x (inv r)) (inv-inv r) ((o.inverse (inv r) r).0 b') in
          o.irreflexive r (o.transitive r (inv r) r c b')

      joined : (s r r' t : ℕ) → below s r → below r' t → (r ≡ r') ⊎ (r ≡ inv r') → (t' : ℕ) × (name t' ≡ name t) × below s t'
      joined s r r' t b c (inl e) = (t, refl, o.transitive s r' t (subst (λ (x : ℕ). below s x) e b) c)
      joined s r r' t b c (inr e) = (inv t, name-inv t, o.transitive s (inv r') (inv t) (subst (λ (x : ℕ). below s x) e b) ((o.inverse r' t).0 c))

  pub turning001 : RegularOrder001 below → Turning below
  turning001 o = record { apart = λ s r e b. apart s r b (same_name s r e); joined = λ s r r' t e b c. joined s r r' t b c (same_name r r' e) }
    where
      apart : (s r : ℕ) → below s r → (s ≡ r) ⊎ (s ≡ inv r) → ⊥
      apart s r b (inl e) = o.irreflexive r (subst (λ (x : ℕ). below x r) e b)
      apart s r b (inr e) = o.irreflexive r ((o.inverse r r).1 (subst (λ (x : ℕ). below x r) e b))

      joined : (s r r' t : ℕ) → below s r → below r' t → (r ≡ r') ⊎ (r ≡ inv r') → (t' : ℕ) × (name t' ≡ name t) × below s t'
      joined s r r' t b c (inl e) = (t, refl, o.transitive s r' t (subst (λ (x : ℕ). below s x) e b) c)
      joined s r r' t b c (inr e) = (t, refl, o.transitive s (inv r') t (subst (λ (x : ℕ). below s x) e b) ((o.inverse r' t).0 c))

  -- under such an order the inner roles of a form are those of the shape
  module _ (o : Turning below) where
    own : (r : ℕ) (w : Chain) → Inner below r w → Memᴰ r w → ⊥
    own r w i m = o.apart r r refl (i.lower r m)

    lift : (r : ℕ) (w v : Chain) → v ≡ w → Inner below r w → (v ≡ [] → ⊥) × ((s : ℕ) → Memᴰ s v → below s r)
    lift r w v e i = (λ q. i.some (sym e ∙ q), λ s m. i.lower s (subst (λ (l : Chain). Memᴰ s l) e m))

    first : (r : ℕ) (inner w : Chain) → Inner below r inner → inner ++ (r ∷ []) ≡ r ∷ w → ⊥
    first r [] w i e = i.some refl
    first r (x ∷ v) w i e = own r (x ∷ v) i (Memᴰ.head (sym (head-eq_of_cons-eq e)))

    one : (r t : ℕ) (inner : Chain) → (inner ≡ [] → ⊥) → inner ++ (r ∷ []) ≡ t ∷ [] → ⊥
    one r t [] h e = h refl
    one r t (x ∷ v) h e = concat-ne-nil r v (tail-eq_of_cons-eq e)

    pub form_inner : (ρ : Rule) {sh : Shape} → View ρ sh → Form below ρ → AllInner (λ (s : ℕ). below s ρ.right) sh
    form_inner ρ (is_transitive e) f = tt
    form_inner ρ (is_symmetric e) f = tt
    form_inner ρ (is_led inner e some a) (form1 i) = absurd (own ρ.right ρ.left i (subst (λ (l : Chain). Memᴰ ρ.right l) (sym e) (Memᴰ.head refl)))
    form_inner ρ (is_led inner e some a) (form2 w q i) = lift ρ.right w inner (tail-eq_of_cons-eq (sym e ∙ q)) i
    form_inner ρ (is_led inner e some a) (form3 w q i) = absurd (first ρ.right w inner i (sym q ∙ e))
    form_inner ρ (is_led inner e some a) (form4 q) = absurd (a q)
    form_inner ρ (is_led inner e some a) (form5 q) = absurd (some (tail-eq_of_cons-eq (sym e ∙ q)))
    form_inner ρ (is_trailed inner e some a c) (form1 i) =
        absurd (own ρ.right ρ.left i (subst (λ (l : Chain). Memᴰ ρ.right l) (sym e) (Memᴰ.append_right inner (Memᴰ.head refl))))
    form_inner ρ (is_trailed inner e some a c) (form2 w q i) = absurd (c w i.some q)
    form_inner ρ (is_trailed inner e some a c) (form3 w q i) = lift ρ.right w inner (append_cancel_right inner w (ρ.right ∷ []) (sym e ∙ q)) i
    form_inner ρ (is_trailed inner e some a c) (form4 q) = absurd (a q)
    form_inner ρ (is_trailed inner e some a c) (form5 q) = absurd (one ρ.right (inv ρ.right) inner some (sym e ∙ q))
    form_inner ρ (is_plain a b c d) (form1 i) = lift ρ.right ρ.left ρ.left refl i
    form_inner ρ (is_plain a b c d) (form2 w q i) = absurd (c w i.some q)
    form_inner ρ (is_plain a b c d) (form3 w q i) = absurd (d w i.some q)
    form_inner ρ (is_plain a b c d) (form4 q) = absurd (a q)
    form_inner ρ (is_plain a b c d) (form5 q) = absurd (b q)

    pub name-order : (ρs : List Rule) → Forms below ρs → NameOrder (lower_of below) ρs
    name-order ρs f =
        record {
          irreflexive = λ x l. o.apart l.0 l.1 (l.2 ∙ sym l.3) l.4;
          transitive = λ x y z l m.
              let j = o.joined l.0 l.1 m.0 m.1 (l.3 ∙ sym m.2) l.4 m.4 in
              (l.0, j.0, l.2, j.1 ∙ m.3, j.2);
          inner = λ ρ m. all-inner (λ (s : ℕ) (b : below s ρ.right). (s, ρ.right, refl, refl, b)) (shape ρ) (form_inner ρ (view ρ) (f ρ m));
        }

-- an order on names, as one on roles: it is regular in both senses
module _ {ℓ} (lower : ℕ → ℕ → Type ℓ) (ρs : List Rule) (o : NameOrder lower ρs) where
  pub role-order : RegularOrder (λ (s r : ℕ). lower (name s) (name r))
  role-order =
      record {
        irreflexive = λ r b. o.irreflexive (name r) b;
        transitive = λ r s t b c. o.transitive (name r) (name s) (name t) b c;
        inverse = λ s r.
            (λ b. subst₂ lower (sym (name-inv s)) (sym (name-inv r)) b, λ b. subst₂ lower (name-inv s) (name-inv r) b);
      }

  pub role_order001 : RegularOrder001 (λ (s r : ℕ). lower (name s) (name r))
  role_order001 =
      record {
        irreflexive = λ r b. o.irreflexive (name r) b;
        transitive = λ r s t b c. o.transitive (name r) (name s) (name t) b c;
        inverse = λ s r.
            (λ b. subst (λ (x : ℕ). lower x (name r)) (sym (name-inv s)) b, λ b. subst (λ (x : ℕ). lower x (name r)) (name-inv s) b);
      }

  lower_form : (ρ : Rule) {sh : Shape} → View ρ sh → Lower lower (name ρ.right) sh → Form (λ (s r : ℕ). lower (name s) (name r)) ρ
  lower_form ρ (is_transitive e) l = form4 e
  lower_form ρ (is_symmetric e) l = form5 e
  lower_form ρ (is_led inner e some a) l = form2 inner e (record { some = l.0; lower = l.1 })
  lower_form ρ (is_trailed inner e some a c) l = form3 inner e (record { some = l.0; lower = l.1 })
  lower_form ρ (is_plain a b c d) l = form1 (record { some = l.0; lower = l.1 })

  pub role-forms : Forms (λ (s r : ℕ). lower (name s) (name r)) ρs
  role-forms ρ m = lower_form ρ (view ρ) (o.inner ρ m)
