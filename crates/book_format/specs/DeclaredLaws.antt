-- Laws of declared names: the roles of a rule, tested one by one.
use Rattle.std.specs.Prelude.{Bool, ◌&&◌, true, false, List, [], ◌∷◌, ◌≡◌, refl, ℕ, zero, suc, ◌+◌, ◌*◌, ◌<◌, ◌≤◌, ltb, length, get_or}
use Rattle.std.specs.List.{list_all}
use Rattle.std.proofs.Math.Bool.{and-false}
use Rattle.std.proofs.Common.{ap, not-suc-le-zero, le_of_suc-le-suc, arith, lt-ltb, le-ltb, ltb-true}
use Rattle.base.specs.Truth.{and_left, and_right}
use Rattle.roles.specs.Role.{Chain}
use Rattle.base.specs.Part.{part, get_or_part, length_part}
use Rattle.book_format.specs.Format.{named}

-- the test of all links
pub list_all-named : (n : ℕ) (w : Chain) → list_all (λ r. ltb r (2 * n)) w ≡ named n w
unfolding named
list_all-named n [] = refl
list_all-named n (r ∷ w) = ap (λ (t : Bool). ltb r (2 * n) && t) (list_all-named n w)

pub named-all : (n : ℕ) (w : Chain) → ((k : ℕ) → k < length w → get_or w k 0 < 2 * n) → named n w ≡ true
unfolding named
named-all n [] h = refl
named-all n (r ∷ w) h =
    rw (lt-ltb r (2 * n) (h 0 (omega arith)), named-all n w (λ k p. h (suc k) (omega arith))) refl

pub named_not : (n : ℕ) (w : Chain) (k : ℕ) → k < length w → 2 * n ≤ get_or w k 0 → named n w ≡ false
unfolding named
named_not n [] k p h = absurd (not-suc-le-zero p)
named_not n (r ∷ w) zero p h = rw (le-ltb r (2 * n) h) refl
named_not n (r ∷ w) (suc k) p h = rw (named_not n w k (le_of_suc-le-suc p) h) (and-false (ltb r (2 * n)))

pub named-link : (n : ℕ) (w : Chain) → named n w ≡ true → (k : ℕ) → k < length w → get_or w k 0 < 2 * n
unfolding named
named-link n [] h k p = absurd (not-suc-le-zero p)
named-link n (r ∷ w) h zero p = ltb-true r (2 * n) (and_left (ltb r (2 * n)) (named n w) h)
named-link n (r ∷ w) h (suc k) p = named-link n w (and_right (ltb r (2 * n)) (named n w) h) k (le_of_suc-le-suc p)

-- a right role and a left side that is a part of the bytes
module _ (n r : ℕ) (s : List ℕ) (a size : ℕ) where
  pub named-right : 2 * n ≤ r → named n (r ∷ part s a size) ≡ false
  named-right h = named_not n (r ∷ part s a size) 0 (omega arith) h

  module _ (fits : a + size ≤ length s) where
    pub named-left : (k : ℕ) → k < size → 2 * n ≤ get_or s (a + k) 0 → named n (r ∷ part s a size) ≡ false
    named-left k p h = named_not n (r ∷ part s a size) (suc k) (omega (arith, length_part s a size fits)) (rw (get_or_part s a size k p) h)

    pub named_both : r < 2 * n → ((k : ℕ) → k < size → get_or s (a + k) 0 < 2 * n) → named n (r ∷ part s a size) ≡ true
    unfolding named
    named_both h e =
        rw (lt-ltb r (2 * n) h)
        (named-all n (part s a size)
        (λ k p.
        let q : k < size = rw (← length_part s a size fits) p in
        rw (get_or_part s a size k q) (e k q)))
