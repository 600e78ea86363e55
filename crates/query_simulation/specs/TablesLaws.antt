-- Laws of cause 12: its tests taken number by number, test by test, and what tables that fit say of their numbers.
use Rattle.std.specs.Prelude.{Bool, true, false, ◌&&◌, ◌≡◌, ℕ, zero, suc, ◌+◌, ◌*◌, ◌%◌, ◌<◌, ◌≤◌, leb, eqb, length, get_or, drop}
use Rattle.std.proofs.Math.Bool.{and-false}
use mathlib.Core.List.{List, [], ◌∷◌}
use Rattle.std.proofs.Math.Path.{refl, ap}
use Rattle.std.proofs.Common.{◌∙◌, not-suc-le-zero, add-one, drop_of_length-le, length-drop}
use native.Mathlib.Omega.{arith}
use borrow.Author.Tests.{le-leb, lt-leb, leb-true, eq-eqb, ne_eqb}
use Rattle.std.proofs.Math.Seq.{drop-cons}
use Rattle.base.specs.Truth.{and_left, and_right}
use Rattle.query_causes.specs.Query.{transitions_in, heads_fit, transitions_fit, tables_fit}
use Rattle.query_simulation.specs.Transitions.{transition_count, Fits, Fit}

-- the initial states from number i on
module _ (s : List ℕ) (i : ℕ) where
  pub heads-next : i < length s → get_or s i 0 ≤ 2046 → heads_fit (drop i s) ≡ heads_fit (drop (i + 1) s)
  unfolding heads_fit
  heads-next l h = rw (add-one i, drop-cons s i 0 l, le-leb (get_or s i 0) 2046 h) refl

  pub heads_not : i < length s → 2046 < get_or s i 0 → heads_fit (drop i s) ≡ false
  unfolding heads_fit
  heads_not l h = rw (drop-cons s i 0 l, lt-leb (get_or s i 0) 2046 h) refl

  pub heads-end : length s ≤ i → heads_fit (drop i s) ≡ true
  unfolding heads_fit
  heads-end l = rw (drop_of_length-le s l) refl

-- an initial state
head-fits : (s : List ℕ) → heads_fit s ≡ true → (i : ℕ) → i < length s → get_or s i 0 ≤ 2046
unfolding heads_fit
head-fits [] h i l = absurd (not-suc-le-zero l)
head-fits (x ∷ s) h zero l = leb-true x 2046 (and_left (leb x 2046) (heads_fit s) h)
head-fits (x ∷ s) h (suc i) l = head-fits s (and_right (leb x 2046) (heads_fit s) h) i (omega arith)

-- the transitions that numbers spell from place i on
abbrev pub fit_from : List ℕ → ℕ → Bool
fit_from s i = transitions_fit (transitions_in (drop i s))

module _ (s : List ℕ) (i : ℕ) where
  pub moves-end : length s ≤ i + 2 → fit_from s i ≡ true
  moves-end l = short (drop i s) (simp length-drop (omega arith))
    where
      short : (r : List ℕ) → length r ≤ 2 → transitions_fit (transitions_in r) ≡ true
      short [] h = unfold transitions_fit transitions_in in refl
      short (p ∷ []) h = unfold transitions_fit transitions_in in refl
      short (p ∷ a ∷ []) h = unfold transitions_fit transitions_in in refl
      short (p ∷ a ∷ q ∷ r) h = absurd (let f : ⊥ = omega arith in f)

  module _ (l : i + 2 < length s) where
    three : drop i s ≡ get_or s i 0 ∷ get_or s (i + 1) 0 ∷ get_or s (i + 2) 0 ∷ drop (i + 3) s
    three =
        let e : i + 1 ≡ suc i = omega arith in
        let f : i + 2 ≡ suc (suc i) = omega arith in
        let g : i + 3 ≡ suc (suc (suc i)) = omega arith in
        rw (e, f, g)
        (drop-cons s i 0 (omega arith)
        ∙ ap (λ (r : List ℕ). get_or s i 0 ∷ r)
        (drop-cons s (suc i) 0 (omega arith)
        ∙ ap (λ (r : List ℕ). get_or s (suc i) 0 ∷ r) (drop-cons s (suc (suc i)) 0 (omega arith))))

    pub spelled : fit_from s i ≡ (leb (get_or s i 0) 2047 && leb (get_or s (i + 1) 0) 128 && leb (get_or s (i + 2) 0) 2047 && fit_from s (i + 3))
    unfolding transitions_fit transitions_in
    spelled = ap (λ (r : List ℕ). transitions_fit (transitions_in r)) three

    pub moves_next : get_or s i 0 ≤ 2047 → get_or s (i + 1) 0 ≤ 128 → get_or s (i + 2) 0 ≤ 2047 → fit_from s i ≡ fit_from s (i + 3)
    moves_next p a q = spelled ∙ rw (le-leb _ _ p, le-leb _ _ a, le-leb _ _ q) refl

    pub from_not : 2047 < get_or s i 0 → fit_from s i ≡ false
    from_not h = spelled ∙ rw (lt-leb _ _ h) refl

    pub label_not : 128 < get_or s (i + 1) 0 → fit_from s i ≡ false
    label_not h = spelled ∙ rw (lt-leb _ _ h, and-false (leb (get_or s i 0) 2047)) refl

    pub to_not : 2047 < get_or s (i + 2) 0 → fit_from s i ≡ false
    to_not h = spelled ∙ rw (lt-leb _ _ h, and-false (leb (get_or s i 0) 2047 && leb (get_or s (i + 1) 0) 128)) refl

-- a transition, by its number
small_at : (moves : List ℕ) → transitions_fit (transitions_in moves) ≡ true → (k : ℕ) → k < transition_count moves → Fits 2048 moves k
unfolding transitions_fit transitions_in
small_at [] h k l = absurd (omega arith)
small_at (p ∷ []) h k l = absurd (omega arith)
small_at (p ∷ a ∷ []) h k l = absurd (omega arith)
small_at (p ∷ a ∷ q ∷ ms) h zero l =
    let rest = transitions_fit (transitions_in ms) in
    let e = and_left (leb p 2047 && leb a 128 && leb q 2047) rest h in
    let f = and_left (leb p 2047 && leb a 128) (leb q 2047) e in
    let x : p ≤ 2047 = leb-true p 2047 (and_left (leb p 2047) (leb a 128) f) in
    let y : q ≤ 2047 = leb-true q 2047 (and_right (leb p 2047 && leb a 128) (leb q 2047) e) in
    record { from_fits = omega arith; label_fits = leb-true a 128 (and_right (leb p 2047) (leb a 128) f); to_fits = omega arith }
small_at (p ∷ a ∷ q ∷ ms) h (suc k) l =
    let r : Fits 2048 ms k = small_at ms (and_right (leb p 2047 && leb a 128 && leb q 2047) (transitions_fit (transitions_in ms)) h) k (omega arith) in
    let d : 3 * suc k ≡ suc (suc (suc (3 * k))) = omega arith in
    let g : 3 * suc k + 1 ≡ suc (suc (suc (3 * k + 1))) = omega arith in
    let e : 3 * suc k + 2 ≡ suc (suc (suc (3 * k + 2))) = omega arith in
    record { from_fits = rw d r.from_fits; label_fits = rw g r.label_fits; to_fits = rw e r.to_fits }

-- cause 12, test by test
module _ (heads moves : List ℕ) where
  pub heads-none : length heads < 1 → tables_fit heads moves ≡ false
  unfolding tables_fit
  heads-none h = rw (lt-leb 1 (length heads) h) refl

  module _ (some : 1 ≤ length heads) where
    pub heads-many : 64 < length heads → tables_fit heads moves ≡ false
    unfolding tables_fit
    heads-many h = rw (le-leb 1 (length heads) some, lt-leb (length heads) 64 h) refl

    module _ (few : length heads ≤ 64) where
      pub heads_wrong : heads_fit heads ≡ false → tables_fit heads moves ≡ false
      unfolding tables_fit
      heads_wrong h = rw (le-leb 1 (length heads) some, le-leb (length heads) 64 few, h) refl

      module _ (fit : heads_fit heads ≡ true) where
        pub moves-cut : (length moves % 3 ≡ 0 → ⊥) → tables_fit heads moves ≡ false
        unfolding tables_fit
        moves-cut h = rw (le-leb 1 (length heads) some, le-leb (length heads) 64 few, fit, ne_eqb (length moves % 3) 0 h) refl

        module _ (whole : length moves % 3 ≡ 0) where
          pub moves-many : 15360 < length moves → tables_fit heads moves ≡ false
          unfolding tables_fit
          moves-many h = rw (le-leb 1 (length heads) some, le-leb (length heads) 64 few, fit, eq-eqb (length moves % 3) 0 whole, lt-leb (length moves) 15360 h) refl

          pub moves-left : length moves ≤ 15360 → tables_fit heads moves ≡ transitions_fit (transitions_in moves)
          unfolding tables_fit
          moves-left h = rw (le-leb 1 (length heads) some, le-leb (length heads) 64 few, fit, eq-eqb (length moves % 3) 0 whole, le-leb (length moves) 15360 h) refl

-- what tables that fit say
pub record Tables (heads moves : List ℕ) : Type 0 where
  pub some_heads : 1 ≤ length heads
  pub few_heads : length heads ≤ 64
  pub small_heads : (i : ℕ) → i < length heads → get_or heads i 0 ≤ 2046
  pub few : length moves ≤ 15360
  pub fit : Fit 2048 moves

pub tables : (heads moves : List ℕ) → tables_fit heads moves ≡ true → Tables heads moves
unfolding tables_fit
tables heads moves h =
    let left = leb 1 (length heads) && leb (length heads) 64 && heads_fit heads in
    let front = eqb (length moves % 3) 0 && leb (length moves) 15360 in
    let right = transitions_fit (transitions_in moves) in
    let p = and_left left (front && right) h in
    let q = and_right left (front && right) h in
    let count = and_left (leb 1 (length heads) && leb (length heads) 64) (heads_fit heads) p in
    let fits = and_right (leb 1 (length heads) && leb (length heads) 64) (heads_fit heads) p in
    let short = and_right (eqb (length moves % 3) 0) (leb (length moves) 15360) (and_left front right q) in
    record {
      some_heads = leb-true 1 (length heads) (and_left (leb 1 (length heads)) (leb (length heads) 64) count);
      few_heads = leb-true (length heads) 64 (and_right (leb 1 (length heads)) (leb (length heads) 64) count);
      small_heads = head-fits heads fits;
      few = leb-true (length moves) 15360 short;
      fit = small_at moves (and_right front right q);
    }
