-- The shapes of a role's machine: they are those of the completed rules with that right role and, where the role is symmetric, those of
-- its inverse too.
use Rattle.std.specs.Prelude.{Bool, cond, ◌⊎◌, ◌≡◌, ℕ, eqb}
use Rattle.std.proofs.Math.Bool.{true, false}
use Rattle.std.proofs.lemmas.Bool.{false≢true}
use mathlib.Core.List.Memᴰ
use mathlib.Core.List.{List, [], ◌∷◌, ◌++◌, map, Memᴰ}
use Rattle.std.proofs.Math.Logic.{inl, ⊎_map}
use Rattle.std.proofs.Common.{inr, sym, ap, ◌∙◌, arith, eqb-true, eq-eqb, ne_eqb}
use Rattle.std.proofs.Math.Path.{refl}
use Rattle.roles.specs.Role.{inv}
use Rattle.roles.specs.RoleLaws.{inv-inv}
use Rattle.roles.specs.Rule.{Rule, inverse, completion}
use Rattle.order.specs.Shape.{Shape, shape}
use Rattle.order.specs.Shape.Shape.{transitive, symmetric, row}
use Rattle.tables.specs.Tables.{rules_of, own_shapes, has_symmetric, has_transitive, shapes}

pub has_symmetric-member : (ss : List Shape) → has_symmetric ss ≡ true → Memᴰ symmetric ss
unfolding has_symmetric
has_symmetric-member [] h = absurd (false≢true h)
has_symmetric-member (transitive ∷ ss) h = Memᴰ.tail (has_symmetric-member ss h)
has_symmetric-member (symmetric ∷ ss) h = Memᴰ.head refl
has_symmetric-member (row f t w ∷ ss) h = Memᴰ.tail (has_symmetric-member ss h)

pub member-has_symmetric : (ss : List Shape) → Memᴰ symmetric ss → has_symmetric ss ≡ true
unfolding has_symmetric
member-has_symmetric [] m = absurd (Memᴰ.not-nil m)
member-has_symmetric (transitive ∷ ss) (Memᴰ.head e) = cc
member-has_symmetric (transitive ∷ ss) (Memᴰ.tail m) = member-has_symmetric ss m
member-has_symmetric (symmetric ∷ ss) m = refl
member-has_symmetric (row f t w ∷ ss) (Memᴰ.head e) = cc
member-has_symmetric (row f t w ∷ ss) (Memᴰ.tail m) = member-has_symmetric ss m

pub has_transitive-member : (ss : List Shape) → has_transitive ss ≡ true → Memᴰ transitive ss
unfolding has_transitive
has_transitive-member [] h = absurd (false≢true h)
has_transitive-member (transitive ∷ ss) h = Memᴰ.head refl
has_transitive-member (symmetric ∷ ss) h = Memᴰ.tail (has_transitive-member ss h)
has_transitive-member (row f t w ∷ ss) h = Memᴰ.tail (has_transitive-member ss h)

pub member-has_transitive : (ss : List Shape) → Memᴰ transitive ss → has_transitive ss ≡ true
unfolding has_transitive
member-has_transitive [] m = absurd (Memᴰ.not-nil m)
member-has_transitive (transitive ∷ ss) m = refl
member-has_transitive (symmetric ∷ ss) (Memᴰ.head e) = cc
member-has_transitive (symmetric ∷ ss) (Memᴰ.tail m) = member-has_transitive ss m
member-has_transitive (row f t w ∷ ss) (Memᴰ.head e) = cc
member-has_transitive (row f t w ∷ ss) (Memᴰ.tail m) = member-has_transitive ss m

-- a rule of the list, or the inverse of one
abbrev Among : List Rule → Rule → Type 0
Among ρs ρ = Memᴰ ρ ρs ⊎ Memᴰ ρ (map inverse ρs)

-- the rules of r: those of σ before those of the rest
abbrev taken : (own mirrored : Bool) → Rule → List Rule → List Rule
taken own mirrored σ rest = cond own (σ ∷ rest) (cond mirrored (inverse σ ∷ rest) rest)

taken-later : (a b : Bool) (σ ρ : Rule) {rest : List Rule} → Memᴰ ρ rest → Memᴰ ρ (taken a b σ rest)
taken-later true b σ ρ m = Memᴰ.tail m
taken-later false true σ ρ m = Memᴰ.tail m
taken-later false false σ ρ m = m

rules_of-sound : (ρs : List Rule) (r : ℕ) (ρ : Rule) → Memᴰ ρ (rules_of ρs r) → Among ρs ρ × (ρ.right ≡ r)
unfolding rules_of inverse
rules_of-sound [] r ρ m = absurd (Memᴰ.not-nil m)
rules_of-sound (σ ∷ ρs) r ρ m =
    by_test (rules_of-sound ρs r ρ) (eqb σ.right r) (eqb (inv σ.right) r) refl refl m
  where
    later : Among ρs ρ × (ρ.right ≡ r) → Among (σ ∷ ρs) ρ × (ρ.right ≡ r)
    later t = (elim t.0 [ inl k ↦ inl (Memᴰ.tail k) | inr k ↦ inr (Memᴰ.tail k) ], t.1)

    by_test : (Memᴰ ρ (rules_of ρs r) → Among ρs ρ × (ρ.right ≡ r)) → (a b : Bool) → eqb σ.right r ≡ a → eqb (inv σ.right) r ≡ b
        → Memᴰ ρ (taken a b σ (rules_of ρs r)) → Among (σ ∷ ρs) ρ × (ρ.right ≡ r)
    by_test rest true b h k (Memᴰ.head e) = (inl (Memᴰ.head e), ap (λ (x : Rule). x.right) e ∙ eqb-true σ.right r h)
    by_test rest true b h k (Memᴰ.tail n) = later (rest n)
    by_test rest false true h k (Memᴰ.head e) = (inr (Memᴰ.head e), ap (λ (x : Rule). x.right) e ∙ eqb-true (inv σ.right) r k)
    by_test rest false true h k (Memᴰ.tail n) = later (rest n)
    by_test rest false false h k n = later (rest n)

rules_of-own : (ρs : List Rule) (r : ℕ) (ρ : Rule) → ρ.right ≡ r → Memᴰ ρ ρs → Memᴰ ρ (rules_of ρs r)
unfolding rules_of
rules_of-own [] r ρ h m = m
rules_of-own (σ ∷ ρs) r ρ h (Memᴰ.head e) = rw (eq-eqb σ.right r (sym (ap (λ (x : Rule). x.right) e) ∙ h)) (Memᴰ.head e)
rules_of-own (σ ∷ ρs) r ρ h (Memᴰ.tail m) = taken-later (eqb σ.right r) (eqb (inv σ.right) r) σ ρ (rules_of-own ρs r ρ h m)

inv_differs : (r : ℕ) → inv r ≡ r → ⊥
unfolding inv
inv_differs r h = omega arith

rules_of-mirrored : (ρs : List Rule) (r : ℕ) (ρ : Rule) → ρ.right ≡ r → Memᴰ ρ (map inverse ρs) → Memᴰ ρ (rules_of ρs r)
unfolding rules_of inverse
rules_of-mirrored [] r ρ h m = m
rules_of-mirrored (σ ∷ ρs) r ρ h (Memᴰ.head e) =
    rw (ne_eqb σ.right r (λ k. inv_differs σ.right (mirrored ∙ sym k)), eq-eqb (inv σ.right) r mirrored) (Memᴰ.head e)
  where
    mirrored : inv σ.right ≡ r
    mirrored = sym (ap (λ (x : Rule). x.right) e) ∙ h
rules_of-mirrored (σ ∷ ρs) r ρ h (Memᴰ.tail m) = taken-later (eqb σ.right r) (eqb (inv σ.right) r) σ ρ (rules_of-mirrored ρs r ρ h m)

module _ (ρs : List Rule) where
  -- a shape of r's own is that of a completed rule with right role r
  pub own-shape-rule : (r : ℕ) (s : Shape) → Memᴰ s (own_shapes ρs r)
      → (ρ : Rule) × Memᴰ ρ (completion ρs) × (ρ.right ≡ r) × (shape ρ ≡ s)
  unfolding completion
  own-shape-rule r s m = with_rule (Memᴰ.of_map shape (rules_of ρs r) m)
    where
      completed : (ρ : Rule) → Among ρs ρ → Memᴰ ρ (ρs ++ map inverse ρs)
      completed ρ (inl k) = Memᴰ.append_left (map inverse ρs) k
      completed ρ (inr k) = Memᴰ.append_right ρs k

      with_rule : (ρ : Rule) × Memᴰ ρ (rules_of ρs r) × (shape ρ ≡ s)
          → (ρ : Rule) × Memᴰ ρ (ρs ++ map inverse ρs) × (ρ.right ≡ r) × (shape ρ ≡ s)
      with_rule t =
          let k : Among ρs t.0 × (t.0.right ≡ r) = rules_of-sound ρs r t.0 t.1 in
          (t.0, completed t.0 k.0, k.1, t.2)

  pub rule-own-shape : (ρ : Rule) → Memᴰ ρ (completion ρs) → Memᴰ (shape ρ) (own_shapes ρs ρ.right)
  unfolding completion
  rule-own-shape ρ m = Memᴰ.map shape (by_part (Memᴰ.append_cases ρs m))
    where
      by_part : Among ρs ρ → Memᴰ ρ (rules_of ρs ρ.right)
      by_part (inl k) = rules_of-own ρs ρ.right ρ refl k
      by_part (inr k) = rules_of-mirrored ρs ρ.right ρ refl k

  -- the shapes of r, apart
  pub shapes_cases : (r : ℕ) (s : Shape) → Memᴰ s (shapes ρs r)
      → Memᴰ s (own_shapes ρs r) ⊎ (Memᴰ symmetric (own_shapes ρs r) × Memᴰ s (own_shapes ρs (inv r)))
  unfolding shapes
  shapes_cases r s m = by_test (has_symmetric (own_shapes ρs r)) refl m
    where
      by_test : (t : Bool) → has_symmetric (own_shapes ρs r) ≡ t
          → Memᴰ s (cond t (own_shapes ρs r ++ own_shapes ρs (inv r)) (own_shapes ρs r))
          → Memᴰ s (own_shapes ρs r) ⊎ (Memᴰ symmetric (own_shapes ρs r) × Memᴰ s (own_shapes ρs (inv r)))
      by_test true h k =
          ⊎_map (λ n. n) (λ n. (has_symmetric-member (own_shapes ρs r) h, n)) (Memᴰ.append_cases (own_shapes ρs r) k)
      by_test false h k = inl k

  pub shapes-own : (r : ℕ) (s : Shape) → Memᴰ s (own_shapes ρs r) → Memᴰ s (shapes ρs r)
  unfolding shapes
  shapes-own r s m = by_test (has_symmetric (own_shapes ρs r))
    where
      by_test : (t : Bool) → Memᴰ s (cond t (own_shapes ρs r ++ own_shapes ρs (inv r)) (own_shapes ρs r))
      by_test true = Memᴰ.append_left (own_shapes ρs (inv r)) m
      by_test false = m

  -- where r is symmetric, the shapes of its inverse are shapes of r
  pub shapes-turned : (r : ℕ) (s : Shape) → Memᴰ symmetric (own_shapes ρs r) → Memᴰ s (shapes ρs (inv r)) → Memᴰ s (shapes ρs r)
  unfolding shapes
  shapes-turned r s h m = rw (member-has_symmetric (own_shapes ρs r) h) (by_part (shapes_cases (inv r) s m))
    where
      by_part : Memᴰ s (own_shapes ρs (inv r)) ⊎ (Memᴰ symmetric (own_shapes ρs (inv r)) × Memᴰ s (own_shapes ρs (inv (inv r))))
          → Memᴰ s (own_shapes ρs r ++ own_shapes ρs (inv r))
      by_part (inl k) = Memᴰ.append_right (own_shapes ρs r) k
      by_part (inr k) = Memᴰ.append_left (own_shapes ρs (inv r)) (rw inv-inv at k.1)
