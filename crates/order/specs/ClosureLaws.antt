-- The gathered order is an order on names and holds nothing that the rules do not force; where a rule clashes, no order exists.
use Rattle.std.specs.Prelude.{Bool, false, ◌&&◌, ◌||◌, ◌⊎◌, ◌≡◌, refl, ℕ, eqb}
use Rattle.std.proofs.Math.Bool.{true}
use Rattle.std.proofs.Common.{true≢false, sym, ◌∙◌, subst, eqb-true, eq-eqb}
use mathlib.Core.List.Memᴰ
use mathlib.Core.List.{List, [], ◌∷◌, ◌++◌, Memᴰ}
use Rattle.std.proofs.Math.Logic.{inl, inr}
use Rattle.base.specs.Truth.{and_left, and_right, and_intro, or_cases, or_left, or_right}
use Rattle.roles.specs.Role.{Chain, name}
use Rattle.roles.specs.Rule.{Rule}
use Rattle.order.specs.Shape.{Shape, shape, inner_of}
use Rattle.order.specs.Shape.Shape.{transitive, symmetric, row}
use Rattle.order.specs.ShapeLaws.{View, view}
use Rattle.order.specs.ShapeLaws.View.{is_transitive, is_symmetric, is_led, is_trailed, is_plain}
use Rattle.order.specs.Regular.{holds}
use Rattle.order.specs.Leveled.{AllInner, Lower, NameOrder}
use Rattle.order.specs.Closure.{reaches, no_order, with_inner, with_rule, clashes}

-- what the rules force: an inner name is lower than the right name, and so on along
pub data Forced (ρs : List Rule) : ℕ → ℕ → Type 0 where
  edge : (ρ : Rule) → Memᴰ ρ ρs → (s : ℕ) → Memᴰ s (inner_of (shape ρ)) → Forced ρs (name s) (name ρ.right)
  along : (x y z : ℕ) → Forced ρs x y → Forced ρs y z → Forced ρs x z

-- the inner roles of a rule are among its left roles
pub inner-left : (ρ : Rule) (s : ℕ) → Memᴰ s (inner_of (shape ρ)) → Memᴰ s ρ.left
inner-left ρ s = by_view (view ρ)
  where
    by_view : {sh : Shape} → View ρ sh → Memᴰ s (inner_of sh) → Memᴰ s ρ.left
    by_view (is_transitive e) m = absurd (Memᴰ.not-nil m)
    by_view (is_symmetric e) m = absurd (Memᴰ.not-nil m)
    by_view (is_led inner e some x) m = rw e (Memᴰ.tail m)
    by_view (is_trailed inner e some x y) m = rw e (Memᴰ.append_left (ρ.right ∷ []) m)
    by_view (is_plain x y z w) m = m

-- and each is as all of them are
pub inner-each {ℓ} : (P : ℕ → Type ℓ) (sh : Shape) → AllInner P sh → (s : ℕ) → Memᴰ s (inner_of sh) → P s
inner-each P transitive a s m = absurd (Memᴰ.not-nil m)
inner-each P symmetric a s m = absurd (Memᴰ.not-nil m)
inner-each P (row from to inner) a s m = a.1 s m

-- what is forced holds in every order
pub forced-lower {ℓ} : (lower : ℕ → ℕ → Type ℓ) (ρs : List Rule) → NameOrder lower ρs → {y z : ℕ} → Forced ρs y z → lower y z
forced-lower lower ρs o (edge ρ m s i) = inner-each (λ t. lower (name t) (name ρ.right)) (shape ρ) (o.inner ρ m) s i
forced-lower lower ρs o (along x y z p q) = o.transitive x y z (forced-lower lower ρs o p) (forced-lower lower ρs o q)

forced-more : (ρs τs : List Rule) {y z : ℕ} → Forced ρs y z → Forced (ρs ++ τs) y z
forced-more ρs τs (edge ρ m s i) = edge ρ (Memᴰ.append_left τs m) s i
forced-more ρs τs (along x y z p q) = along x y z (forced-more ρs τs p) (forced-more ρs τs q)

-- the gathered order of the rules
pub record Closed (ρs : List Rule) (lower : ℕ → ℕ → Bool) : Type 0 where
  pub order : NameOrder (holds lower) ρs
  pub forced : (y z : ℕ) → holds lower y z → Forced ρs y z

pub closed_none : Closed [] no_order
closed_none =
    record {
      order = record { irreflexive = λ x h. true≢false (sym h); transitive = λ x y z h k. h; inner = λ ρ m. absurd (Memᴰ.not-nil m) };
      forced = λ y z h. absurd (true≢false (sym h));
    }

-- what reaching says
module _ (lower : ℕ → ℕ → Bool) where
  pub reach : (w : Chain) (y : ℕ) → reaches lower w y ≡ true → (s : ℕ) × Memᴰ s w × ((y ≡ name s) ⊎ holds lower y (name s))
  unfolding reaches
  reach [] y h = absurd (true≢false (sym h))
  reach (s ∷ w) y h = by_case (or_cases (eqb y (name s) || lower y (name s)) (reaches lower w y) h) (reach w y)
    where
      here : (eqb y (name s) ≡ true) ⊎ (lower y (name s) ≡ true) → (y ≡ name s) ⊎ holds lower y (name s)
      here (inl e) = inl (eqb-true y (name s) e)
      here (inr e) = inr e

      by_case : ((eqb y (name s) || lower y (name s)) ≡ true) ⊎ (reaches lower w y ≡ true)
          → (reaches lower w y ≡ true → (t : ℕ) × Memᴰ t w × ((y ≡ name t) ⊎ holds lower y (name t)))
          → (t : ℕ) × Memᴰ t (s ∷ w) × ((y ≡ name t) ⊎ holds lower y (name t))
      by_case (inl e) rest = (s, Memᴰ.head refl, here (or_cases (eqb y (name s)) (lower y (name s)) e))
      by_case (inr e) rest = let r = rest e in (r.0, Memᴰ.tail r.1, r.2)

  reached_test : (s y : ℕ) → (y ≡ name s) ⊎ holds lower y (name s) → (eqb y (name s) || lower y (name s)) ≡ true
  reached_test s y (inl e) = or_left (eqb y (name s)) (lower y (name s)) (eq-eqb y (name s) e)
  reached_test s y (inr e) = or_right (eqb y (name s)) (lower y (name s)) e

  pub reached : (w : Chain) (y s : ℕ) → Memᴰ s w → (y ≡ name s) ⊎ holds lower y (name s) → reaches lower w y ≡ true
  unfolding reaches
  reached [] y s m c = absurd (Memᴰ.not-nil m)
  reached (t ∷ w) y s m c = by_place (Memᴰ.cases_cons m) (λ (k : Memᴰ s w). reached w y s k c)
    where
      by_place : (s ≡ t) ⊎ Memᴰ s w → (Memᴰ s w → reaches lower w y ≡ true) → ((eqb y (name t) || lower y (name t)) || reaches lower w y) ≡ true
      by_place (inl e) rest = or_left (eqb y (name t) || lower y (name t)) (reaches lower w y) (subst (λ (x : ℕ). (eqb y (name x) || lower y (name x)) ≡ true) e (reached_test s y c))
      by_place (inr k) rest = or_right (eqb y (name t) || lower y (name t)) (reaches lower w y) (rest k)

  -- what an order with a rule more says
  pub gathered : (x : ℕ) (inner : Chain) (y z : ℕ) → with_inner lower x inner y z ≡ true
      → holds lower y z ⊎ (((z ≡ x) ⊎ holds lower x z) × (reaches lower inner y ≡ true))
  unfolding with_inner
  gathered x inner y z h = by_case (or_cases (lower y z) ((eqb z x || lower x z) && reaches lower inner y) h)
    where
      above : (eqb z x ≡ true) ⊎ (lower x z ≡ true) → (z ≡ x) ⊎ holds lower x z
      above (inl e) = inl (eqb-true z x e)
      above (inr e) = inr e

      by_case : (lower y z ≡ true) ⊎ (((eqb z x || lower x z) && reaches lower inner y) ≡ true)
          → holds lower y z ⊎ (((z ≡ x) ⊎ holds lower x z) × (reaches lower inner y ≡ true))
      by_case (inl e) = inl e
      by_case (inr e) =
          inr (
            above (or_cases (eqb z x) (lower x z) (and_left (eqb z x || lower x z) (reaches lower inner y) e)),
            and_right (eqb z x || lower x z) (reaches lower inner y) e,
          )

  pub kept : (x : ℕ) (inner : Chain) (y z : ℕ) → holds lower y z → with_inner lower x inner y z ≡ true
  unfolding with_inner
  kept x inner y z h = or_left (lower y z) ((eqb z x || lower x z) && reaches lower inner y) h

  above_test : (x z : ℕ) → (z ≡ x) ⊎ holds lower x z → (eqb z x || lower x z) ≡ true
  above_test x z (inl e) = or_left (eqb z x) (lower x z) (eq-eqb z x e)
  above_test x z (inr e) = or_right (eqb z x) (lower x z) e

  pub gained : (x : ℕ) (inner : Chain) (y z : ℕ) → (z ≡ x) ⊎ holds lower x z → reaches lower inner y ≡ true → with_inner lower x inner y z ≡ true
  unfolding with_inner
  gained x inner y z a r =
      or_right (lower y z) ((eqb z x || lower x z) && reaches lower inner y)
      (and_intro (eqb z x || lower x z) (reaches lower inner y) (above_test x z a) r)

-- one rule more
module _ (ρs : List Rule) (lower : ℕ → ℕ → Bool) (c : Closed ρs lower) (ρ : Rule) where
  -- what is reached is forced below the right name
  reach-forced : (y : ℕ) → reaches lower (inner_of (shape ρ)) y ≡ true → Forced (ρs ++ (ρ ∷ [])) y (name ρ.right)
  reach-forced y r = by_case (reach lower (inner_of (shape ρ)) y r).2
    where
      s : ℕ
      s = (reach lower (inner_of (shape ρ)) y r).0

      step : Forced (ρs ++ (ρ ∷ [])) (name s) (name ρ.right)
      step = edge ρ (Memᴰ.append_right ρs (Memᴰ.head refl)) s (reach lower (inner_of (shape ρ)) y r).1

      by_case : (y ≡ name s) ⊎ holds lower y (name s) → Forced (ρs ++ (ρ ∷ [])) y (name ρ.right)
      by_case (inl e) = subst (λ (z : ℕ). Forced (ρs ++ (ρ ∷ [])) z (name ρ.right)) (sym e) step
      by_case (inr h) = along y (name s) (name ρ.right) (forced-more ρs (ρ ∷ []) (c.forced y (name s) h)) step

  pub clash_forced : clashes lower ρ ≡ true → Forced (ρs ++ (ρ ∷ [])) (name ρ.right) (name ρ.right)
  clash_forced h = reach-forced (name ρ.right) h

  module _ (some : ρ.left ≡ [] → ⊥) (extends : clashes lower ρ ≡ false) where
    -- what is lower than something reached is reached
    reach-down : (y z : ℕ) → holds lower y z → reaches lower (inner_of (shape ρ)) z ≡ true → reaches lower (inner_of (shape ρ)) y ≡ true
    reach-down y z h r = reached lower (inner_of (shape ρ)) y s (reach lower (inner_of (shape ρ)) z r).1 (by_case (reach lower (inner_of (shape ρ)) z r).2)
      where
        s : ℕ
        s = (reach lower (inner_of (shape ρ)) z r).0

        by_case : (z ≡ name s) ⊎ holds lower z (name s) → (y ≡ name s) ⊎ holds lower y (name s)
        by_case (inl e) = inr (subst (λ (t : ℕ). holds lower y t) e h)
        by_case (inr k) = inr (c.order.transitive y z (name s) h k)

    irreflexive : (z : ℕ) → holds (with_rule lower ρ) z z → ⊥
    irreflexive z h = by_case (gathered lower (name ρ.right) (inner_of (shape ρ)) z z h)
      where
        own : (z ≡ name ρ.right) ⊎ holds lower (name ρ.right) z → reaches lower (inner_of (shape ρ)) z ≡ true → ⊥
        own (inl e) r = true≢false (sym (subst (λ (t : ℕ). reaches lower (inner_of (shape ρ)) t ≡ true) e r) ∙ extends)
        own (inr k) r = true≢false (sym (reach-down (name ρ.right) z k r) ∙ extends)

        by_case : holds lower z z ⊎ (((z ≡ name ρ.right) ⊎ holds lower (name ρ.right) z) × (reaches lower (inner_of (shape ρ)) z ≡ true)) → ⊥
        by_case (inl k) = c.order.irreflexive z k
        by_case (inr k) = own k.0 k.1

    rise : (y z : ℕ) → (y ≡ name ρ.right) ⊎ holds lower (name ρ.right) y → holds lower y z → (z ≡ name ρ.right) ⊎ holds lower (name ρ.right) z
    rise y z (inl e) h = inr (subst (λ (t : ℕ). holds lower t z) e h)
    rise y z (inr k) h = inr (c.order.transitive (name ρ.right) y z k h)

    transitive_with : (u y z : ℕ) → holds (with_rule lower ρ) u y → holds (with_rule lower ρ) y z → holds (with_rule lower ρ) u z
    transitive_with u y z h k =
        by_case (gathered lower (name ρ.right) (inner_of (shape ρ)) u y h) (gathered lower (name ρ.right) (inner_of (shape ρ)) y z k)
      where
        Way : ℕ → ℕ → Type 0
        Way a b = holds lower a b ⊎ (((b ≡ name ρ.right) ⊎ holds lower (name ρ.right) b) × (reaches lower (inner_of (shape ρ)) a ≡ true))

        by_case : Way u y → Way y z → holds (with_rule lower ρ) u z
        by_case (inl p) (inl q) = kept lower (name ρ.right) (inner_of (shape ρ)) u z (c.order.transitive u y z p q)
        by_case (inl p) (inr q) = gained lower (name ρ.right) (inner_of (shape ρ)) u z q.0 (reach-down u y p q.1)
        by_case (inr p) (inl q) = gained lower (name ρ.right) (inner_of (shape ρ)) u z (rise y z p.0 q) p.1
        by_case (inr p) (inr q) = gained lower (name ρ.right) (inner_of (shape ρ)) u z q.0 p.1

    -- the inner names of the rules before stay lower, and those of the rule become lower
    lower-kept : (y : ℕ) (sh : Shape) → Lower (holds lower) y sh → Lower (holds (with_rule lower ρ)) y sh
    lower-kept y transitive l = tt
    lower-kept y symmetric l = tt
    lower-kept y (row f t w) l = (l.0, λ s m. kept lower (name ρ.right) (inner_of (shape ρ)) (name s) y (l.1 s m))

    lower-new : {sh : Shape} → View ρ sh → ((s : ℕ) → Memᴰ s (inner_of sh) → holds (with_rule lower ρ) (name s) (name ρ.right))
        → Lower (holds (with_rule lower ρ)) (name ρ.right) sh
    lower-new (is_transitive e) h = tt
    lower-new (is_symmetric e) h = tt
    lower-new (is_led w e n a) h = (n, h)
    lower-new (is_trailed w e n a b) h = (n, h)
    lower-new (is_plain a b d e) h = (some, h)

    inner_with : (σ : Rule) → Memᴰ σ ρs ⊎ Memᴰ σ (ρ ∷ []) → Lower (holds (with_rule lower ρ)) (name σ.right) (shape σ)
    inner_with σ (inl m) = lower-kept (name σ.right) (shape σ) (c.order.inner σ m)
    inner_with σ (inr m) =
        subst (λ (τ : Rule). Lower (holds (with_rule lower ρ)) (name τ.right) (shape τ)) (sym (Memᴰ.eq_of_singleton m))
        (lower-new (view ρ)
        (λ s k.
        gained lower (name ρ.right) (inner_of (shape ρ)) (name s) (name ρ.right) (inl refl)
        (reached lower (inner_of (shape ρ)) (name s) s k (inl refl))))

    forced_with : (y z : ℕ) → holds lower y z ⊎ (((z ≡ name ρ.right) ⊎ holds lower (name ρ.right) z) × (reaches lower (inner_of (shape ρ)) y ≡ true))
        → Forced (ρs ++ (ρ ∷ [])) y z
    forced_with y z (inl h) = forced-more ρs (ρ ∷ []) (c.forced y z h)
    forced_with y z (inr h) = up h.0 (reach-forced y h.1)
      where
        up : (z ≡ name ρ.right) ⊎ holds lower (name ρ.right) z → Forced (ρs ++ (ρ ∷ [])) y (name ρ.right) → Forced (ρs ++ (ρ ∷ [])) y z
        up (inl e) f = subst (λ (t : ℕ). Forced (ρs ++ (ρ ∷ [])) y t) (sym e) f
        up (inr k) f = along y (name ρ.right) z f (forced-more ρs (ρ ∷ []) (c.forced (name ρ.right) z k))

    pub closed_with : Closed (ρs ++ (ρ ∷ [])) (with_rule lower ρ)
    closed_with =
        record {
          order = record {
            irreflexive = irreflexive;
            transitive = transitive_with;
            inner = λ σ m. inner_with σ (Memᴰ.append_cases ρs m);
          };
          forced = λ y z h. forced_with y z (gathered lower (name ρ.right) (inner_of (shape ρ)) y z h);
        }
