-- The shape of a rule, found from the length of its left side and the first and the last letter.
use Rattle.std.specs.Prelude.{false, [], ◌∷◌, ◌≡◌, ℕ, ◌-◌, ◌<◌, ◌≤◌, take, drop}
use Rattle.std.proofs.Math.Path.{refl, ap, ap₂}
use Rattle.std.proofs.Common.{◌∙◌}
use native.Mathlib.Omega.{arith}
use borrow.Author.Tests.{le-leb, lt-leb, eq-eqb, ne_eqb}
use Rattle.std.proofs.Math.ListN.{length, get_or}
use Rattle.roles.specs.Role.{Chain, inv, same_chain}
use Rattle.roles.specs.RoleLaws.{same_chain-complete, same_chain_differ}
use Rattle.roles.specs.ChainParts.{link_differs}
use Rattle.order.specs.Shape.{shape, leads, trails}
use Rattle.order.specs.Shape.End.{initial, final}
use Rattle.order.specs.Shape.Shape.{transitive, symmetric, row}

-- chains of two lengths differ; chains of one and of two links
length_differs : (w v : Chain) → (length w ≡ length v → ⊥) → same_chain w v ≡ false
length_differs w v h = same_chain_differ w v (λ e. h (ap length e))

one_link : (w : Chain) → length w ≡ 1 → w ≡ get_or w 0 0 ∷ []
one_link [] h = absurd (let f : ⊥ = omega arith in f)
one_link (a ∷ []) h = refl
one_link (a ∷ b ∷ w) h = absurd (let f : ⊥ = omega arith in f)

two-links : (w : Chain) → length w ≡ 2 → w ≡ get_or w 0 0 ∷ get_or w 1 0 ∷ []
two-links [] h = absurd (let f : ⊥ = omega arith in f)
two-links (a ∷ []) h = absurd (let f : ⊥ = omega arith in f)
two-links (a ∷ b ∷ []) h = refl
two-links (a ∷ b ∷ d ∷ w) h = absurd (let f : ⊥ = omega arith in f)

abbrev first : Chain → ℕ
first w = get_or w 0 0

abbrev last : Chain → ℕ
last w = get_or w (length w - 1) 0

module _ (w : Chain) (r : ℕ) where
  pub shape-short : length w < 2 → (length w ≡ 1 → first w ≡ inv r → ⊥) → shape (record { left = w; right = r }) ≡ row initial final w
  unfolding shape leads trails
  shape-short short h =
      rw (length_differs w (r ∷ r ∷ []) (omega arith), same_chain_differ w (inv r ∷ []) (λ e. h (ap length e) (ap first e)), lt-leb 2 (length w) short)
      refl

  pub shape-symmetric : length w ≡ 1 → first w ≡ inv r → shape (record { left = w; right = r }) ≡ symmetric
  unfolding shape
  shape-symmetric h e =
      rw (length_differs w (r ∷ r ∷ []) (omega arith), same_chain-complete w (inv r ∷ []) (one_link w h ∙ ap (λ (k : ℕ). k ∷ []) e)) refl

  module _ (long : 2 ≤ length w) where
    not_symmetric : same_chain w (inv r ∷ []) ≡ false
    not_symmetric = length_differs w (inv r ∷ []) (omega arith)

    pub shape-transitive : length w ≡ 2 → first w ≡ r → last w ≡ r → shape (record { left = w; right = r }) ≡ transitive
    unfolding shape
    shape-transitive h e f =
        rw
        (same_chain-complete w (r ∷ r ∷ [])
        (two-links w h ∙ ap₂ (λ (a b : ℕ). a ∷ b ∷ []) e (let k : 1 ≡ length w - 1 = omega arith in ap (λ (i : ℕ). get_or w i 0) k ∙ f)))
        refl

    pub shape-led : first w ≡ r → (length w ≡ 2 → last w ≡ r → ⊥)
        → shape (record { left = w; right = r }) ≡ row final final (drop 1 w)
    unfolding shape leads
    shape-led e h =
        rw
        (same_chain_differ w (r ∷ r ∷ []) (λ q. h (ap length q) (ap last q)), not_symmetric, le-leb 2 (length w) long, eq-eqb (first w) r e)
        refl

    pub shape_trailed : (first w ≡ r → ⊥) → last w ≡ r
        → shape (record { left = w; right = r }) ≡ row initial initial (take (length w - 1) w)
    unfolding shape leads trails
    shape_trailed e h =
        rw
        (link_differs w (r ∷ r ∷ []) 0 e, not_symmetric, le-leb 2 (length w) long, ne_eqb (first w) r e, eq-eqb (last w) r h)
        refl

    pub shape_long : (first w ≡ r → ⊥) → (last w ≡ r → ⊥)
        → shape (record { left = w; right = r }) ≡ row initial final w
    unfolding shape leads trails
    shape_long e h =
        rw
        (link_differs w (r ∷ r ∷ []) 0 e, not_symmetric, le-leb 2 (length w) long, ne_eqb (first w) r e, ne_eqb (last w) r h)
        refl
