-- The pigeonhole on native numbers: a function that tells the numbers below n apart, with values below m, has n at most m.
use Rattle.std.specs.Prelude.{cond, ◌⊎◌, ◌≡◌, ℕ, zero, suc, ◌<◌, ◌≤◌, eqb}
use Rattle.std.proofs.Common.{inl, inr, sym, ◌∙◌, zero-le, suc-le-suc, not-suc-le-zero, arith, eq-eqb, ne_eqb}
use Rattle.base.specs.Truth.{eq_or_ne}

-- the value m is given up for another one
without : (f : ℕ → ℕ) (m other : ℕ) → ℕ → ℕ
without f m other i = cond (eqb (f i) m) other (f i)

without_same : (f : ℕ → ℕ) (m other i : ℕ) → f i ≡ m → without f m other i ≡ other
unfolding without
without_same f m other i h = rw (eq-eqb (f i) m h)

without_other : (f : ℕ → ℕ) (m other i : ℕ) → (f i ≡ m → ⊥) → without f m other i ≡ f i
unfolding without
without_other f m other i h = rw (ne_eqb (f i) m h)

pub pigeonhole : (n m : ℕ) (f : ℕ → ℕ) → ((i : ℕ) → i < n → f i < m) → ((i j : ℕ) → i < n → j < n → f i ≡ f j → i ≡ j) → n ≤ m
pigeonhole zero m f below apart = zero-le
pigeonhole (suc n) zero f below apart = absurd (not-suc-le-zero (below 0 (omega arith)))
pigeonhole (suc n) (suc m) f below apart = suc-le-suc (pigeonhole n m (without f m (f n)) less still)
  where
    -- the last number's value is no other number's
    last : (i : ℕ) → i < n → f i ≡ f n → ⊥
    last i l e = let k : i ≡ n = apart i n (omega arith) (omega arith) e in omega arith

    less : (i : ℕ) → i < n → without f m (f n) i < m
    less i l = by_value (eq_or_ne (f i) m)
      where
        by_value : (f i ≡ m) ⊎ (f i ≡ m → ⊥) → without f m (f n) i < m
        by_value (inl e) =
            let other : f n ≡ m → ⊥ = λ k. last i l (e ∙ sym k) in
            rw (without_same f m (f n) i e) (omega (arith, below n (omega arith)))
        by_value (inr e) = rw (without_other f m (f n) i e) (omega (arith, below i (omega arith)))

    still : (i j : ℕ) → i < n → j < n → without f m (f n) i ≡ without f m (f n) j → i ≡ j
    still i j l k h = by_values (eq_or_ne (f i) m) (eq_or_ne (f j) m)
      where
        by_values : (f i ≡ m) ⊎ (f i ≡ m → ⊥) → (f j ≡ m) ⊎ (f j ≡ m → ⊥) → i ≡ j
        by_values (inl p) (inl q) = apart i j (omega arith) (omega arith) (p ∙ sym q)
        by_values (inl p) (inr q) = absurd (last j k (sym (sym (without_same f m (f n) i p) ∙ h ∙ without_other f m (f n) j q)))
        by_values (inr p) (inl q) = absurd (last i l (sym (without_other f m (f n) i p) ∙ h ∙ without_same f m (f n) j q))
        by_values (inr p) (inr q) =
            apart i j (omega arith) (omega arith) (sym (without_other f m (f n) i p) ∙ h ∙ without_other f m (f n) j q)
