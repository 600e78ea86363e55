-- What laying transitions does to the next free state, to the number of transitions so far and to the table of numbers: all is exact while
-- the states stay within 2,048 and the transitions below 60,000, and a state above 2,048 or a count of 60,000 says that they do not. The
-- numbers are those of the transitions where the table has room for all of them; the count asks for no room.
use Rattle.std.specs.Prelude.{List, [], ◌∷◌, ◌++◌, ◌⊎◌, ◌≡◌, refl, ℕ, ◌+◌, ◌*◌, ◌<◌, ◌≤◌, length, set}
use Rattle.std.proofs.Common.{inl, inr, sym, ◌∙◌, zero-add, add-one, arith, length-append}
use Rattle.std.proofs.Math.Path.{ap}
use Rattle.std.proofs.Math.Numerals.{add-two}
use Rattle.std.proofs.lemmas.List.Edits.{sets}
use Rattle.std.proofs.Math.Seq.{length-sets}
use Rattle.base.specs.WritingLaws.{sets_append}
use Rattle.base.specs.Truth.{lt_or_le}
use Rattle.roles.specs.Role.{Chain}
use Rattle.order.specs.Shape.{End, Shape}
use Rattle.order.specs.Shape.Shape.{row}
use Rattle.tables.specs.Tables.{Transition, silent, state, row_size, rows_size, row_transitions, rows_transitions, numbers}
use Rattle.table_laying.specs.Pieces.{numbers_append, length-numbers}

-- z states and the transitions ts are laid from state p and count k on, in a table m; what is next and the table afterwards
pub record Laid (z : ℕ) (ts : List Transition) (p k : ℕ) (m : List ℕ) (p' k' : ℕ) (m' : List ℕ) : Type 0 where
  pub within : p + z ≤ 2048 → p' ≡ p + z
  pub over : 2048 < p + z → 2048 < p'
  pub count : p + z ≤ 2048 → k + length ts < 60000 → k' ≡ k + length ts
  pub full : p + z ≤ 2048 → 60000 ≤ k + length ts → 60000 ≤ k'
  pub exact : p + z ≤ 2048 → k + length ts < 60000 → 3 * (k + length ts) ≤ length m → m' ≡ sets m (3 * k) (numbers ts)

pub laid_none : (p k : ℕ) (m : List ℕ) → Laid 0 [] p k m p k m
unfolding numbers
laid_none p k m =
    record { within = λ h. omega arith; over = λ h. omega arith; count = λ h l. omega arith; full = λ h l. omega arith; exact = λ h l f. refl }

-- one after another; the second's transitions are those at the state where the first ends
pub laid_both : (z y : ℕ) (ts us vs : List Transition) (p k : ℕ) (m : List ℕ) (q l : ℕ) (n : List ℕ) (r j : ℕ) (o : List ℕ)
    → Laid z ts p k m q l n → Laid y us q l n r j o → (q ≡ p + z → us ≡ vs) → Laid (z + y) (ts ++ vs) p k m r j o
laid_both z y ts us vs p k m q l n r j o a b same =
    record { within = within; over = λ h. over h (lt_or_le 2048 (p + z)); count = count; full = λ h g. full h g (lt_or_le (k + length ts) 60000); exact = exact }
  where
    first : p + (z + y) ≤ 2048 → q ≡ p + z
    first h = a.within (omega arith)

    within : p + (z + y) ≤ 2048 → r ≡ p + (z + y)
    within h = let e : q ≡ p + z = first h in let f : r ≡ q + y = b.within (omega arith) in omega arith

    over : 2048 < p + (z + y) → (2048 < p + z) ⊎ (p + z ≤ 2048) → 2048 < r
    over h (inl g) = let f : 2048 < q = a.over g in b.over (omega arith)
    over h (inr g) = let e : q ≡ p + z = a.within g in b.over (omega arith)

    together : p + (z + y) ≤ 2048 → length (ts ++ vs) ≡ length ts + length us
    together h = length-append ts vs ∙ ap (λ (w : List Transition). length ts + length w) (sym (same (first h)))

    count : p + (z + y) ≤ 2048 → k + length (ts ++ vs) < 60000 → j ≡ k + length (ts ++ vs)
    count h g =
        let e : q ≡ p + z = first h in
        let s : length (ts ++ vs) ≡ length ts + length us = together h in
        let c : l ≡ k + length ts = a.count (omega arith) (omega arith) in
        let d : j ≡ l + length us = b.count (omega arith) (omega arith) in
        omega arith

    full : p + (z + y) ≤ 2048 → 60000 ≤ k + length (ts ++ vs) → (k + length ts < 60000) ⊎ (60000 ≤ k + length ts) → 60000 ≤ j
    full h g (inl f) =
        let e : q ≡ p + z = first h in
        let s : length (ts ++ vs) ≡ length ts + length us = together h in
        let c : l ≡ k + length ts = a.count (omega arith) f in
        b.full (omega arith) (omega arith)
    full h g (inr f) =
        let e : q ≡ p + z = first h in
        let c : 60000 ≤ l = a.full (omega arith) f in
        b.full (omega arith) (omega arith)

    exact : p + (z + y) ≤ 2048 → k + length (ts ++ vs) < 60000 → 3 * (k + length (ts ++ vs)) ≤ length m → o ≡ sets m (3 * k) (numbers (ts ++ vs))
    exact h g f =
        let e : q ≡ p + z = first h in
        let u : us ≡ vs = same e in
        let s : length (ts ++ vs) ≡ length ts + length us = together h in
        let c : l ≡ k + length ts = a.count (omega arith) (omega arith) in
        let c' : n ≡ sets m (3 * k) (numbers ts) = a.exact (omega arith) (omega arith) (omega (arith, f)) in
        let x : length n ≡ length m = ap length c' ∙ length-sets m (3 * k) (numbers ts) in
        let d : o ≡ sets n (3 * l) (numbers us) = b.exact (omega arith) (omega arith) (omega (arith, f)) in
        let w : 3 * l ≡ 3 * k + length (numbers ts) = omega (arith, length-numbers ts) in
        d ∙ (rw (c', w, u) (sets_append m (3 * k) (numbers ts) (numbers vs)) ∙ ap (sets m (3 * k)) (sym (numbers_append ts vs)))

-- the same with one transition in front that takes no state
pub laid-first : (t : Transition) (y : ℕ) (us : List Transition) (p k : ℕ) (m : List ℕ) (l : ℕ) (n : List ℕ) (r j : ℕ) (o : List ℕ)
    → Laid 0 (t ∷ []) p k m p l n → Laid y us p l n r j o → Laid y (t ∷ us) p k m r j o
laid-first t y us p k m l n r j o a b = rw zero-add at (laid_both 0 y (t ∷ []) us us p k m p l n r j o a b (λ e. refl))

module _ (size : ℕ → ℕ) (inside : ℕ → ℕ → List Transition) where
  -- a row: into the next inner fragment and through it, then the rest of the row; and the end of a row
  pub laid-row : (s : ℕ) (w : Chain) (from to at k : ℕ) (m : List ℕ) (k₁ : ℕ) (m₁ : List ℕ) (q k₂ : ℕ) (m₂ : List ℕ) (r j : ℕ) (o : List ℕ)
      → Laid 0 (silent from at ∷ []) at k m at k₁ m₁ → Laid (size s) (inside s at) at k₁ m₁ q k₂ m₂
      → Laid (row_size size w) (row_transitions size inside (at + 1) to q w) q k₂ m₂ r j o
      → Laid (row_size size (s ∷ w)) (row_transitions size inside from to at (s ∷ w)) at k m r j o
  unfolding row_size row_transitions
  laid-row s w from to at k m k₁ m₁ q k₂ m₂ r j o a b c =
      laid-first (silent from at) (size s + row_size size w) (inside s at ++ row_transitions size inside (at + 1) to (at + size s) w) at k m k₁ m₁ r j o a
      (laid_both (size s) (row_size size w) (inside s at) (row_transitions size inside (at + 1) to q w)
      (row_transitions size inside (at + 1) to (at + size s) w) at k₁ m₁ q k₂ m₂ r j o b c
      (λ e. ap (λ (i : ℕ). row_transitions size inside (at + 1) to i w) e))

  pub laid-row-end : (from to at k : ℕ) (m : List ℕ) (k₁ : ℕ) (m₁ : List ℕ) → Laid 0 (silent from to ∷ []) at k m at k₁ m₁
      → Laid (row_size size []) (row_transitions size inside from to at []) at k m at k₁ m₁
  unfolding row_size row_transitions
  laid-row-end from to at k m k₁ m₁ a = a

  -- rows: one, then the rest; shapes without a row lay nothing
  pub laid-rows : (f t : End) (w : Chain) (ss : List Shape) (i at k : ℕ) (m : List ℕ) (q k₁ : ℕ) (m₁ : List ℕ) (r j : ℕ) (o : List ℕ)
      → Laid (row_size size w) (row_transitions size inside (state f i) (state t i) at w) at k m q k₁ m₁
      → Laid (rows_size size ss) (rows_transitions size inside i q ss) q k₁ m₁ r j o
      → Laid (rows_size size (row f t w ∷ ss)) (rows_transitions size inside i at (row f t w ∷ ss)) at k m r j o
  unfolding rows_size rows_transitions
  laid-rows f t w ss i at k m q k₁ m₁ r j o a b =
      laid_both (row_size size w) (rows_size size ss) (row_transitions size inside (state f i) (state t i) at w) (rows_transitions size inside i q ss)
      (rows_transitions size inside i (at + row_size size w) ss) at k m q k₁ m₁ r j o a b
      (λ e. ap (λ (p : ℕ). rows_transitions size inside i p ss) e)

  pub laid-rows-end : (i at k : ℕ) (m : List ℕ) → Laid (rows_size size []) (rows_transitions size inside i at []) at k m at k m
  unfolding rows_size rows_transitions
  laid-rows-end i at k m = laid_none at k m

-- one transition, written as three numbers; counted alone where the table has no room; nothing where the count or the tables are too large
pub laid_one : (t : Transition) (p k : ℕ) (m : List ℕ) → Laid 0 (t ∷ []) p k m p (k + 1) (set (set (set m (3 * k) t.from) (3 * k + 1) t.label) (3 * k + 2) t.to)
unfolding numbers
laid_one t p k m =
    record {
      within = λ h. omega arith;
      over = λ h. omega arith;
      count = λ h l. refl;
      full = λ h l. omega arith;
      exact = λ h l f. rw (add-one, add-two) refl;
    }

pub laid-short : (t : Transition) (p k : ℕ) (m : List ℕ) → length m < 3 * k + 3 → Laid 0 (t ∷ []) p k m p (k + 1) m
laid-short t p k m g =
    record {
      within = λ h. omega arith;
      over = λ h. omega arith;
      count = λ h l. refl;
      full = λ h l. omega arith;
      exact = λ h l f. absurd (let e : ⊥ = omega (arith, f, g) in e);
    }

pub laid-full : (t : Transition) (p k : ℕ) (m : List ℕ) → 60000 ≤ k → Laid 0 (t ∷ []) p k m p k m
laid-full t p k m g =
    record {
      within = λ h. omega arith;
      over = λ h. omega arith;
      count = λ h l. absurd (let e : ⊥ = omega arith in e);
      full = λ h l. g;
      exact = λ h l f. absurd (let e : ⊥ = omega arith in e);
    }

pub laid-past : (t : Transition) (p k : ℕ) (m : List ℕ) → 2048 < p → Laid 0 (t ∷ []) p k m p k m
laid-past t p k m g =
    record {
      within = λ h. omega arith;
      over = λ h. omega arith;
      count = λ h l. absurd (let e : ⊥ = omega arith in e);
      full = λ h l. absurd (let e : ⊥ = omega arith in e);
      exact = λ h l f. absurd (let e : ⊥ = omega arith in e);
    }
