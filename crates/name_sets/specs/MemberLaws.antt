-- Names in and out of sets: a name read by a shift, the set of one name, what two sets share, a name taken out, and the lowest name.
use Rattle.std.specs.Prelude.{Bool, true, false, cond, not, ◌&&◌, ◌⊎◌, ◌≡◌, refl, ℕ, zero, suc, ◌+◌, ◌-◌, ◌*◌, ◌/◌, ◌%◌, ◌^◌, ◌<◌, ◌≤◌, eqb}
use Rattle.std.proofs.Common.{true≢false, inl, inr, sym, ap, ◌∙◌, one-mul, mod-lt, pow-suc, div-one, lt_of_lt_of_le, lt_of_le_of_lt, arith, eq-eqb, ne_eqb, lt-ltb, le-ltb, lit<, pow_mono, shl_exact, shr_lt}
use Rattle.std.proofs.Math.Nat.{div-eq_of_lt}
use Rattle.std.proofs.lemmas.Bool.{not-true}
use Rattle.std.specs.Int.Bits.{bit_and, bit_xor, and_step, xor_step, and_self, xor_zero_r}
use Rattle.std.proofs.lemmas.Nat.{and_mask, and_shr, and_mod, xor_shr, xor_mod, and_le_l, xor_lt}
use Rattle.std.specs.Int.Count.{count_trailing_zeros, under}
use Rattle.base.specs.Truth.{and_left, and_right, true_or_false, lt_or_le, eq_or_ne}
use Rattle.name_sets.specs.Mask.{has, only, count}
use Rattle.name_sets.specs.MaskLaws.{two-bits, has_single, has_half, count_lt}

pub has_shift : (m y : ℕ) → eqb (bit_and (m / 2 ^ y) 1) 1 ≡ has m y
unfolding has
has_shift m y = ap (λ (k : ℕ). eqb k 1) (and_mask (m / 2 ^ y) 1)

-- a set of k bits has no name from k on
pub has-past : (k m y : ℕ) → m < 2 ^ k → k ≤ y → has m y ≡ false
unfolding has
has-past k m y h p = rw (div-eq_of_lt (lt_of_lt_of_le h (pow_mono p))) refl

pub has_range : (k m : ℕ) → m < 2 ^ k → (y : ℕ) → has m y ≡ true → y < k
has_range k m fits y h = by_size (lt_or_le y k)
  where
    by_size : (y < k) ⊎ (k ≤ y) → y < k
    by_size (inl l) = l
    by_size (inr l) = absurd (true≢false (sym h ∙ has-past k m y fits l))

single_shift : (x : ℕ) → x < 64 → 1 * 2 ^ x % 2 ^ 64 ≡ 2 ^ x
single_shift x h = shl_exact {a = 1} 1 x 64 (lit< tt) (omega arith) ∙ one-mul (2 ^ x)

-- the set of one name, where it is below 64
pub only_shift : (x : ℕ) → x < 64 → 1 * 2 ^ x % 2 ^ 64 ≡ only x
unfolding only
only_shift x h = single_shift x h ∙ rw (lt-ltb x 64 h) refl

pub only-past : (x : ℕ) → 64 ≤ x → 0 ≡ only x
unfolding only
only-past x h = rw (le-ltb x 64 h) refl

pub only-named : (x : ℕ) → x < 64 → only x ≡ 2 ^ x
unfolding only
only-named x h = rw (lt-ltb x 64 h) refl

-- what two sets share
pub has_and : (a b y : ℕ) → has (bit_and a b) y ≡ (has a y && has b y)
unfolding has
has_and a b y =
    rw (and_shr a b y, and_mod (a / 2 ^ y) (b / 2 ^ y) 1)
    (two-bits (λ p q. eqb (bit_and p q) 1 ≡ (eqb p 1 && eqb q 1)) refl refl refl refl (a / 2 ^ y % 2) (b / 2 ^ y % 2) (mod-lt (a / 2 ^ y) (lit< tt)) (mod-lt (b / 2 ^ y) (lit< tt)))

-- what only one of two sets has
pub has_xor : (a b y : ℕ) → has (bit_xor a b) y ≡ cond (has b y) (not (has a y)) (has a y)
unfolding has
has_xor a b y =
    rw (xor_shr a b y, xor_mod (a / 2 ^ y) (b / 2 ^ y) 1)
    (two-bits (λ p q. eqb (bit_xor p q) 1 ≡ cond (eqb q 1) (not (eqb p 1)) (eqb p 1)) refl refl refl refl (a / 2 ^ y % 2) (b / 2 ^ y % 2) (mod-lt (a / 2 ^ y) (lit< tt)) (mod-lt (b / 2 ^ y) (lit< tt)))

-- the names of one set that another has not
abbrev pub minus : ℕ → ℕ → ℕ
minus a b = bit_xor a (bit_and a b)

pub minus-fits : (k a b : ℕ) → a < 2 ^ k → minus a b < 2 ^ k
minus-fits k a b h = xor_lt k a (bit_and a b) h (lt_of_le_of_lt (and_le_l a b) h)

module _ (a b y : ℕ) where
  pub has-minus : has (minus a b) y ≡ (has a y && not (has b y))
  has-minus = has_xor a (bit_and a b) y ∙ rw (has_and a b y) (by_bits (has a y) (has b y))
    where
      by_bits : (x z : Bool) → cond (x && z) (not x) x ≡ (x && not z)
      by_bits true true = refl
      by_bits true false = refl
      by_bits false true = refl
      by_bits false false = refl

  pub minus_in : has (minus a b) y ≡ true → (has a y ≡ true) × (has b y ≡ false)
  minus_in h =
      let both = sym has-minus ∙ h in
      (and_left (has a y) (not (has b y)) both, not-true (has b y) (and_right (has a y) (not (has b y)) both))

  pub minus_or : has a y ≡ true → (has (minus a b) y ≡ true) ⊎ (has b y ≡ true)
  minus_or h = by_bit (true_or_false (has b y))
    where
      by_bit : (has b y ≡ true) ⊎ (has b y ≡ false) → (has (minus a b) y ≡ true) ⊎ (has b y ≡ true)
      by_bit (inl k) = inr k
      by_bit (inr k) = inl (has-minus ∙ rw (h, k) refl)

-- a name taken out: the others stay
module _ (m x : ℕ) where
  pub without_other : (y : ℕ) → (y ≡ x → ⊥) → has (bit_xor m (2 ^ x)) y ≡ has m y
  without_other y e = rw (has_xor m (2 ^ x) y, has_single x y, ne_eqb y x e) refl

  pub without_own : has m x ≡ true → has (bit_xor m (2 ^ x)) x ≡ false
  without_own h = rw (has_xor m (2 ^ x) x, has_single x x, eq-eqb x x refl, h) refl

  -- and there are fewer of them
  pub without_fewer : x < 64 → has m x ≡ true → count 64 (has (bit_xor m (2 ^ x))) < count 64 (has m)
  without_fewer p h = count_lt 64 (has (bit_xor m (2 ^ x))) (has m) (λ k l e. by_place k e (eq_or_ne k x)) x p (without_own h) h
    where
      by_place : (k : ℕ) → has (bit_xor m (2 ^ x)) k ≡ true → (k ≡ x) ⊎ (k ≡ x → ⊥) → has m k ≡ true
      by_place k e (inl q) = rw q h
      by_place k e (inr q) = sym (without_other k q) ∙ e

has_odd : (m : ℕ) → m % 2 ≡ 1 → has m 0 ≡ true
unfolding has
has_odd m e = rw (div-one m) (eq-eqb (m % 2) 1 e)

-- the lowest name of a set that has one
pub lowest : (k m : ℕ) → 0 < m → m < 2 ^ k → (count_trailing_zeros k m < k) × (has m (count_trailing_zeros k m) ≡ true)
unfolding count_trailing_zeros
lowest zero m p h = absurd (let f : ⊥ = omega arith in f)
lowest (suc k) m p h = by_digit (m % 2) refl (lowest k (m / 2))
  where
    by_digit : (d : ℕ) → m % 2 ≡ d → (0 < m / 2 → m / 2 < 2 ^ k → (count_trailing_zeros k (m / 2) < k) × (has (m / 2) (count_trailing_zeros k (m / 2)) ≡ true))
        → (under d (count_trailing_zeros k (m / 2)) < suc k) × (has m (under d (count_trailing_zeros k (m / 2))) ≡ true)
    by_digit zero e below =
        let b = below (omega arith) (shr_lt k 1 (let e : k + 1 ≡ suc k = omega arith in rw e h)) in
        (omega (arith, b.0), sym (has_half m (count_trailing_zeros k (m / 2))) ∙ b.1)
    by_digit (suc zero) e below = (omega arith, has_odd m e)
    by_digit (suc (suc d)) e below = absurd (let f : ⊥ = omega (arith, mod-lt m {m = 2} (lit< tt)) in f)

-- a set without its lowest name
pub lowest_out : (k m : ℕ) → 0 < m → m < 2 ^ k → bit_and m (m - 1) ≡ bit_xor m (2 ^ count_trailing_zeros k m)
unfolding count_trailing_zeros
lowest_out zero m p h = absurd (let f : ⊥ = omega arith in f)
lowest_out (suc k) m p h = by_digit (m % 2) refl (lowest_out k (m / 2))
  where
    by_digit : (d : ℕ) → m % 2 ≡ d → (0 < m / 2 → m / 2 < 2 ^ k → bit_and (m / 2) (m / 2 - 1) ≡ bit_xor (m / 2) (2 ^ count_trailing_zeros k (m / 2)))
        → bit_and m (m - 1) ≡ bit_xor m (2 ^ under d (count_trailing_zeros k (m / 2)))
    by_digit zero e below =
        let half : (m - 1) / 2 ≡ m / 2 - 1 = omega arith in
        let odd : (m - 1) % 2 ≡ 1 = omega arith in
        let t = count_trailing_zeros k (m / 2) in
        let pow-half : 2 ^ suc t / 2 ≡ 2 ^ t = omega (arith, pow-suc 2 t) in
        let pow_even : 2 ^ suc t % 2 ≡ 0 = omega (arith, pow-suc 2 t) in
        rw (and_step m (m - 1), xor_step m (2 ^ suc t), e, half, odd, pow-half, pow_even)
        (ap (λ (x : ℕ). x * 2 + 0) (below (omega arith) (shr_lt k 1 (let e : k + 1 ≡ suc k = omega arith in rw e h))))
    by_digit (suc zero) e below =
        let half : (m - 1) / 2 ≡ m / 2 = omega arith in
        let even : (m - 1) % 2 ≡ 0 = omega arith in
        rw (and_step m (m - 1), xor_step m 1, e, half, even, and_self (m / 2), xor_zero_r (m / 2)) refl
    by_digit (suc (suc d)) e below = absurd (let f : ⊥ = omega (arith, mod-lt m {m = 2} (lit< tt)) in f)
