-- A fragment from its pieces: two states, letters and the transition back, the rows of its own rules and, if it is symmetric, of its inverse's.
use Rattle.std.specs.Prelude.{Bool, true, false, cond, ◌≡◌, ℕ, zero, suc, ◌+◌, ◌<◌, ◌≤◌}
use mathlib.Core.List.{List, [], ◌∷◌, ◌++◌, append_assoc}
use Rattle.std.proofs.Math.Path.{refl, sym, ap}
use Rattle.std.proofs.Common.{◌∙◌, zero-add, not-suc-le-zero, le_of_suc-le-suc, arith}
use Rattle.roles.specs.Role.{inv}
use Rattle.roles.specs.Rule.{Rule}
use Rattle.tables.specs.Tables.{Transition, silent, own_shapes, shapes, has_symmetric, has_transitive, letters, back, rows_size, rows_transitions, size_of, transitions_of}
use Rattle.table_laying.specs.Pieces.{rows_size_append, rows_transitions_append, has_symmetric-shapes}
use Rattle.table_laying.specs.Own.{ApartRules, has_transitive-shapes}
use Rattle.table_laying.specs.Laid.{Laid, laid_both}

-- the letters and the transition back, by what the rules ask
abbrev pub second_letter : Bool → (r i : ℕ) → List Transition
second_letter symmetric r i = cond symmetric (record { from = i; label = inv r; to = i + 1 } ∷ []) []

abbrev pub back_of : Bool → ℕ → List Transition
back_of transitive i = cond transitive (silent (i + 1) i ∷ []) []

abbrev pub own_letters : (symmetric transitive : Bool) → (r i : ℕ) → List Transition
own_letters symmetric transitive r i = record { from = i; label = r; to = i + 1 } ∷ (second_letter symmetric r i ++ back_of transitive i)

-- two states in front
pub laid-states : (z : ℕ) (ts : List Transition) (p k : ℕ) (m : List ℕ) (r j : ℕ) (o : List ℕ) → Laid z ts (p + 2) k m r j o → Laid (2 + z) ts p k m r j o
laid-states z ts p k m r j o a =
    record {
      within = λ h. let e : r ≡ p + 2 + z = a.within (omega arith) in omega arith;
      over = λ h. a.over (omega arith);
      count = λ h g. a.count (omega arith) g;
      full = λ h g. a.full (omega arith) g;
      exact = λ h g f. a.exact (omega arith) g f;
    }

-- past the limit
pub laid-over : (z : ℕ) (ts : List Transition) (p k : ℕ) (m : List ℕ) (r j : ℕ) (o : List ℕ) → 2048 < p + z → 2048 < r → Laid z ts p k m r j o
laid-over z ts p k m r j o h g =
    record {
      within = λ l. absurd (let f : ⊥ = omega arith in f);
      over = λ l. g;
      count = λ l i. absurd (let f : ⊥ = omega arith in f);
      full = λ l i. absurd (let f : ⊥ = omega arith in f);
      exact = λ l i j. absurd (let f : ⊥ = omega arith in f);
    }

module _ (ρs : List Rule) (apart : ApartRules ρs) (fuel r : ℕ) where
  abbrev rows_at : (i at r' : ℕ) → List Transition
  rows_at i at r' = rows_transitions (size_of ρs fuel) (transitions_of ρs fuel) i at (own_shapes ρs r')

  abbrev size_at : ℕ → ℕ
  size_at r' = rows_size (size_of ρs fuel) (own_shapes ρs r')

  -- what a fragment's size and transitions are, by whether it is symmetric
  size-plain : has_symmetric (own_shapes ρs r) ≡ false → size_of ρs (suc fuel) r ≡ 2 + size_at r
  unfolding size_of shapes
  size-plain h = rw h refl

  size-symmetric : has_symmetric (own_shapes ρs r) ≡ true → size_of ρs (suc fuel) r ≡ 2 + (size_at r + size_at (inv r))
  unfolding size_of shapes
  size-symmetric h = rw (h, rows_size_append (size_of ρs fuel) (own_shapes ρs r) (own_shapes ρs (inv r))) refl

  first_part : (i : ℕ) → letters r i (shapes ρs r) ++ back i (shapes ρs r) ≡ own_letters (has_symmetric (own_shapes ρs r)) (has_transitive (own_shapes ρs r)) r i
  unfolding letters back
  first_part i = rw (has_symmetric-shapes ρs r, has_transitive-shapes ρs r apart) refl

  shapes-plain : has_symmetric (own_shapes ρs r) ≡ false → shapes ρs r ≡ own_shapes ρs r
  unfolding shapes
  shapes-plain h = rw h refl

  shapes-symmetric : has_symmetric (own_shapes ρs r) ≡ true → shapes ρs r ≡ own_shapes ρs r ++ own_shapes ρs (inv r)
  unfolding shapes
  shapes-symmetric h = rw h refl

  in_pieces : (i : ℕ) → transitions_of ρs (suc fuel) r i
      ≡ own_letters (has_symmetric (own_shapes ρs r)) (has_transitive (own_shapes ρs r)) r i
      ++ rows_transitions (size_of ρs fuel) (transitions_of ρs fuel) i (i + 2) (shapes ρs r)
  unfolding transitions_of
  in_pieces i =
      sym (append_assoc (letters r i (shapes ρs r)) (back i (shapes ρs r)) (rows_transitions (size_of ρs fuel) (transitions_of ρs fuel) i (i + 2) (shapes ρs r)))
      ∙ ap (λ (l : List Transition). l ++ rows_transitions (size_of ρs fuel) (transitions_of ρs fuel) i (i + 2) (shapes ρs r)) (first_part i)

  transitions-plain : (i : ℕ) → has_symmetric (own_shapes ρs r) ≡ false
      → transitions_of ρs (suc fuel) r i ≡ own_letters false (has_transitive (own_shapes ρs r)) r i ++ rows_at i (i + 2) r
  transitions-plain i h = in_pieces i ∙ rw (shapes-plain h, h) refl

  transitions-symmetric : (i : ℕ) → has_symmetric (own_shapes ρs r) ≡ true
      → transitions_of ρs (suc fuel) r i ≡ own_letters true (has_transitive (own_shapes ρs r)) r i ++ (rows_at i (i + 2) r ++ rows_at i (i + 2 + size_at r) (inv r))
  transitions-symmetric i h =
      in_pieces i
      ∙ rw (shapes-symmetric h, h, rows_transitions_append (size_of ρs fuel) (transitions_of ρs fuel) i (i + 2) (own_shapes ρs r) (own_shapes ρs (inv r))) refl

  module _ (p k : ℕ) (m : List ℕ) (k₁ : ℕ) (m₁ : List ℕ) (q k₂ : ℕ) (m₂ : List ℕ)
      (rows : Laid (rows_size (size_of ρs fuel) (own_shapes ρs r)) (rows_transitions (size_of ρs fuel) (transitions_of ρs fuel) p (p + 2) (own_shapes ρs r)) (p + 2) k₁ m₁ q k₂ m₂) where
    pub laid-plain : has_symmetric (own_shapes ρs r) ≡ false → Laid 0 (own_letters false (has_transitive (own_shapes ρs r)) r p) (p + 2) k m (p + 2) k₁ m₁
        → Laid (size_of ρs (suc fuel) r) (transitions_of ρs (suc fuel) r p) p k m q k₂ m₂
    laid-plain h a =
        rw (size-plain h, transitions-plain p h)
        (laid-states (size_at r) (own_letters false (has_transitive (own_shapes ρs r)) r p ++ rows_at p (p + 2) r) p k m q k₂ m₂
        (rw zero-add at
        (laid_both 0 (size_at r) (own_letters false (has_transitive (own_shapes ρs r)) r p) (rows_at p (p + 2) r) (rows_at p (p + 2) r) (p + 2) k m (p + 2) k₁ m₁ q k₂ m₂ a rows
        (λ e. refl))))

    pub laid-symmetric : has_symmetric (own_shapes ρs r) ≡ true → Laid 0 (own_letters true (has_transitive (own_shapes ρs r)) r p) (p + 2) k m (p + 2) k₁ m₁
        → (v j : ℕ) (o : List ℕ)
        → Laid (rows_size (size_of ρs fuel) (own_shapes ρs (inv r))) (rows_transitions (size_of ρs fuel) (transitions_of ρs fuel) p q (own_shapes ρs (inv r))) q k₂ m₂ v j o
        → Laid (size_of ρs (suc fuel) r) (transitions_of ρs (suc fuel) r p) p k m v j o
    laid-symmetric h a v j o b =
        rw (size-symmetric h, transitions-symmetric p h)
        (laid-states (size_at r + size_at (inv r))
        (own_letters true (has_transitive (own_shapes ρs r)) r p ++ (rows_at p (p + 2) r ++ rows_at p (p + 2 + size_at r) (inv r))) p k m v j o
        (rw zero-add at
        (laid_both 0 (size_at r + size_at (inv r)) (own_letters true (has_transitive (own_shapes ρs r)) r p)
        (rows_at p (p + 2) r ++ rows_at p (p + 2 + size_at r) (inv r)) (rows_at p (p + 2) r ++ rows_at p (p + 2 + size_at r) (inv r)) (p + 2) k m (p + 2) k₁ m₁ v j o a
        (laid_both (size_at r) (size_at (inv r)) (rows_at p (p + 2) r) (rows_at p q (inv r)) (rows_at p (p + 2 + size_at r) (inv r)) (p + 2) k₁ m₁ q k₂ m₂ v j o rows b
        (λ e. ap (λ (i : ℕ). rows_at p i (inv r)) e))
        (λ e. refl))))

-- three pieces that take no state
pub laid-three : (ts us vs : List Transition) (p k : ℕ) (m : List ℕ) (q l : ℕ) (n : List ℕ) (v j : ℕ) (o : List ℕ) (r i : ℕ) (w : List ℕ)
    → Laid 0 ts p k m q l n → Laid 0 us q l n v j o → Laid 0 vs v j o r i w → Laid 0 (ts ++ (us ++ vs)) p k m r i w
laid-three ts us vs p k m q l n v j o r i w a b c =
    laid_both 0 0 ts (us ++ vs) (us ++ vs) p k m q l n r i w a (laid_both 0 0 us vs vs q l n v j o r i w b c (λ e. refl)) (λ e. refl)

-- a fragment has two states or more
pub size-least : (ρs : List Rule) (fuel r : ℕ) → 2 ≤ size_of ρs fuel r
unfolding size_of
size-least ρs zero r = omega arith
size-least ρs (suc fuel) r = omega arith

pub fragment_over : (ρs : List Rule) (fuel r : ℕ) (ts : List Transition) (p k : ℕ) (m : List ℕ) → 2046 < p → Laid (size_of ρs fuel r) ts p k m 2049 k m
fragment_over ρs fuel r ts p k m h = laid-over (size_of ρs fuel r) ts p k m 2049 k m (omega (arith, size-least ρs fuel r)) (omega arith)

-- fuel above a level
pub by_fuel : (P : ℕ → Type 0) (level fuel : ℕ) → level < fuel → ((f : ℕ) → level ≤ f → P (suc f)) → P fuel
by_fuel P level zero h g = absurd (not-suc-le-zero h)
by_fuel P level (suc f) h g = g f (le_of_suc-le-suc h)
