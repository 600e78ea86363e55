-- What the shape of a rule says of its left side.
use Rattle.std.specs.Prelude.{Bool, true, false, cond, [], ◌∷◌, ◌++◌, ◌≡◌, refl, ℕ, suc, ◌+◌, ◌-◌, ◌≤◌, leb, eqb, length, get_or, take, drop}
use Rattle.std.proofs.Common.{true≢false, sym, ap, ◌∙◌, arith, leb-true, le-leb, eqb-true, eq-eqb, length-append, length-take, take-suc}
use Rattle.std.proofs.Math.Seq.{take-length, get_or-append_seam}
use Rattle.base.specs.Truth.{and_left, and_right, and_intro}
use Rattle.roles.specs.Role.{Chain, inv, same_chain}
use Rattle.roles.specs.RoleLaws.{same_chain-sound, same_chain-complete}
use Rattle.roles.specs.Rule.{Rule}
use Rattle.order.specs.Shape.{Shape, shape, leads, trails}
use Rattle.order.specs.Shape.End.{initial, final}
use Rattle.order.specs.Shape.Shape.{transitive, symmetric, row}

-- a chain that leads, or trails, with r is r and a chain of one link or more
pub leads-split : (r : ℕ) (w : Chain) → leads r w ≡ true → (w ≡ r ∷ drop 1 w) × (drop 1 w ≡ [] → ⊥)
unfolding leads
leads-split r [] h = absurd (let f : ⊥ = omega (arith, leb-true 2 0 (and_left (leb 2 0) (eqb 0 r) h)) in f)
leads-split r (s ∷ []) h = absurd (let f : ⊥ = omega (arith, leb-true 2 1 (and_left (leb 2 1) (eqb s r) h)) in f)
leads-split r (s ∷ t ∷ w) h = (
  ap (λ (x : ℕ). x ∷ t ∷ w) (eqb-true s r (and_right (leb 2 (length (s ∷ t ∷ w))) (eqb s r) h)),
  λ e. let z : ◌≡◌ {A = ℕ} 0 1 = cc in omega arith,
)

pub leads_join : (r : ℕ) (v : Chain) → (v ≡ [] → ⊥) → leads r (r ∷ v) ≡ true
unfolding leads
leads_join r [] h = absurd (h refl)
leads_join r (t ∷ v) h = and_intro _ _ (le-leb 2 (length (r ∷ t ∷ v)) (omega arith)) (eq-eqb r r refl)

nonempty : (w : Chain) → (w ≡ [] → ⊥) → 1 ≤ length w
nonempty [] h = absurd (h refl)
nonempty (s ∷ w) h = omega arith

-- the last link
last-split : (w : Chain) → 1 ≤ length w → w ≡ take (length w - 1) w ++ (get_or w (length w - 1) 0 ∷ [])
last-split w h =
    let e : suc (length w - 1) ≡ length w = omega arith in
    sym (take-length w) ∙ ap (λ (k : ℕ). take k w) (sym e) ∙ take-suc w (length w - 1) 0 (omega arith)

pub trails-split : (r : ℕ) (w : Chain) → trails r w ≡ true → (w ≡ take (length w - 1) w ++ (r ∷ [])) × (take (length w - 1) w ≡ [] → ⊥)
unfolding trails
trails-split r w h =
    let two : 2 ≤ length w = leb-true 2 (length w) (and_left (leb 2 (length w)) (eqb (get_or w (length w - 1) 0) r) h) in
    let last : get_or w (length w - 1) 0 ≡ r = eqb-true _ _ (and_right (leb 2 (length w)) (eqb (get_or w (length w - 1) 0) r) h) in (
      last-split w (omega arith) ∙ ap (λ (x : ℕ). take (length w - 1) w ++ (x ∷ [])) last,
      λ e. let f : length (take (length w - 1) w) ≡ 0 = ap length e in omega (arith, length-take (length w - 1) w),
    )

pub trails_join : (r : ℕ) (v : Chain) → (v ≡ [] → ⊥) → trails r (v ++ (r ∷ [])) ≡ true
unfolding trails
trails_join r v h =
    let size : length (v ++ (r ∷ [])) ≡ length v + 1 = length-append v (r ∷ []) in
    let some : 1 ≤ length v = nonempty v h in
    let place : length v + 1 - 1 ≡ length v = omega arith in
    let last : get_or (v ++ (r ∷ [])) (length (v ++ (r ∷ [])) - 1) 0 ≡ r = rw (size, place) (get_or-append_seam v r [] 0) in
    and_intro _ _ (le-leb 2 (length (v ++ (r ∷ []))) (omega arith)) (eq-eqb _ r last)

-- what each shape says, and that no earlier one fits
pub data View (ρ : Rule) : Shape → Type 0 where
  is_transitive : ρ.left ≡ ρ.right ∷ ρ.right ∷ [] → View ρ transitive
  is_symmetric : ρ.left ≡ inv ρ.right ∷ [] → View ρ symmetric
  is_led : (inner : Chain) → ρ.left ≡ ρ.right ∷ inner → (inner ≡ [] → ⊥) → (ρ.left ≡ ρ.right ∷ ρ.right ∷ [] → ⊥)
      → View ρ (row final final inner)
  is_trailed : (inner : Chain) → ρ.left ≡ inner ++ (ρ.right ∷ []) → (inner ≡ [] → ⊥) → (ρ.left ≡ ρ.right ∷ ρ.right ∷ [] → ⊥)
      → ((v : Chain) → (v ≡ [] → ⊥) → ρ.left ≡ ρ.right ∷ v → ⊥) → View ρ (row initial initial inner)
  is_plain : (ρ.left ≡ ρ.right ∷ ρ.right ∷ [] → ⊥) → (ρ.left ≡ inv ρ.right ∷ [] → ⊥) → ((v : Chain) → (v ≡ [] → ⊥) → ρ.left ≡ ρ.right ∷ v → ⊥)
      → ((v : Chain) → (v ≡ [] → ⊥) → ρ.left ≡ v ++ (ρ.right ∷ []) → ⊥) → View ρ (row initial final ρ.left)

pub view : (ρ : Rule) → View ρ (shape ρ)
unfolding shape
view ρ = by-transitive (same_chain w (r ∷ r ∷ [])) refl
  where
    w : Chain
    w = ρ.left

    r : ℕ
    r = ρ.right

    plain : Shape
    plain = row initial final w

    trailed : Bool → Shape
    trailed t = cond t (row initial initial (take (length w - 1) w)) plain

    led : Bool → Shape
    led t = cond t (row final final (drop 1 w)) (trailed (trails r w))

    other : Bool → Shape
    other t = cond t symmetric (led (leads r w))

    not_led : leads r w ≡ false → (v : Chain) → (v ≡ [] → ⊥) → w ≡ r ∷ v → ⊥
    not_led f v some e = true≢false (sym (leads_join r v some) ∙ rw e at f)

    by-trails : (w ≡ r ∷ r ∷ [] → ⊥) → (w ≡ inv r ∷ [] → ⊥) → ((v : Chain) → (v ≡ [] → ⊥) → w ≡ r ∷ v → ⊥)
        → (t : Bool) → trails r w ≡ t → View ρ (trailed t)
    by-trails a b c true e = let s = trails-split r w e in is_trailed (take (length w - 1) w) s.0 s.1 a c
    by-trails a b c false e = is_plain a b c (λ v some q. true≢false (sym (trails_join r v some) ∙ rw q at e))

    by-leads : (w ≡ r ∷ r ∷ [] → ⊥) → (w ≡ inv r ∷ [] → ⊥) → (t : Bool) → leads r w ≡ t → View ρ (led t)
    by-leads a b true e = let s = leads-split r w e in is_led (drop 1 w) s.0 s.1 a
    by-leads a b false e = by-trails a b (not_led e) (trails r w) refl

    by-symmetric : (w ≡ r ∷ r ∷ [] → ⊥) → (t : Bool) → same_chain w (inv r ∷ []) ≡ t → View ρ (other t)
    by-symmetric a true e = is_symmetric (same_chain-sound w (inv r ∷ []) e)
    by-symmetric a false e = by-leads a (λ q. true≢false (sym (same_chain-complete w (inv r ∷ []) q) ∙ e)) (leads r w) refl

    by-transitive : (t : Bool) → same_chain w (r ∷ r ∷ []) ≡ t → View ρ (cond t transitive (other (same_chain w (inv r ∷ []))))
    by-transitive true e = is_transitive (same_chain-sound w (r ∷ r ∷ []) e)
    by-transitive false e = by-symmetric (λ q. true≢false (sym (same_chain-complete w (r ∷ r ∷ []) q) ∙ e)) (same_chain w (inv r ∷ [])) refl
