-- Laws of bit masks: the empty set, a union, a shift, one name; how many bits are set; a proper subset has fewer.
use Rattle.std.specs.Prelude.{Bool, true, false, ◌||◌, ◌⊎◌, ◌≡◌, refl, ℕ, zero, suc, ◌+◌, ◌-◌, ◌*◌, ◌/◌, ◌%◌, ◌^◌, ◌<◌, ◌≤◌, eqb}
use Rattle.std.proofs.Common.{inl, inr, sym, ap, ap₂, ◌∙◌, one-mul, mul_assoc, pow-suc, div-one, mod-lt, not-suc-le-zero, le_of_suc-le-suc, arith, eq-eqb, ne_eqb, lit<, pow_pos, pow-add, shr-shr, shr_lt}
use Rattle.std.proofs.Math.Nat.{mul-mod_left, zero-div, div_self, div-eq_of_lt}
use Rattle.std.specs.Int.Bits.{bit_or}
use Rattle.std.proofs.lemmas.Nat.{or_shr, or_mod, shl-shr}
use Rattle.std.specs.Int.Count.{ones, ones_in, ones_step}
use Rattle.std.proofs.Math.Pow.{pow-lt}
use Rattle.base.specs.Truth.{lt_or_le, eq_or_ne}
use Rattle.name_sets.specs.Mask.{has, bit, count}

pub has_zero : (y : ℕ) → has 0 y ≡ false
unfolding has
has_zero y = rw zero-div refl

-- what holds of all pairs of bits
pub two-bits : (P : ℕ → ℕ → Type 0) → P 0 0 → P 0 1 → P 1 0 → P 1 1 → (p q : ℕ) → p < 2 → q < 2 → P p q
two-bits P a b c d zero zero h k = a
two-bits P a b c d zero (suc zero) h k = b
two-bits P a b c d (suc zero) zero h k = c
two-bits P a b c d (suc zero) (suc zero) h k = d
two-bits P a b c d zero (suc (suc q)) h k = absurd (let f : ⊥ = omega arith in f)
two-bits P a b c d (suc zero) (suc (suc q)) h k = absurd (let f : ⊥ = omega arith in f)
two-bits P a b c d (suc (suc p)) q h k = absurd (let f : ⊥ = omega arith in f)

pub has_or : (a b y : ℕ) → has (bit_or a b) y ≡ (has a y || has b y)
unfolding has
has_or a b y =
    rw (or_shr a b y, or_mod (a / 2 ^ y) (b / 2 ^ y) 1)
    (two-bits (λ p q. eqb (bit_or p q) 1 ≡ (eqb p 1 || eqb q 1)) refl refl refl refl (a / 2 ^ y % 2) (b / 2 ^ y % 2) (mod-lt (a / 2 ^ y) (lit< tt)) (mod-lt (b / 2 ^ y) (lit< tt)))

-- the bits of a number shifted to the right
pub has_high : (m a y : ℕ) → has (m / 2 ^ a) y ≡ has m (a + y)
unfolding has
has_high m a y = ap (λ (k : ℕ). eqb (k % 2) 1) (shr-shr m a y)

-- the bits of half a number
pub has_half : (m y : ℕ) → has (m / 2) y ≡ has m (suc y)
has_half m y = has_high m 1 y ∙ ap (has m) (let e : 1 + y ≡ suc y = omega arith in e)

-- the bits of a number shifted to the left
pub has-moved : (m n y : ℕ) → n ≤ y → has (m * 2 ^ n) y ≡ has m (y - n)
has-moved m n y l =
    ap (has (m * 2 ^ n)) (let e : y ≡ n + (y - n) = omega arith in e)
    ∙ (sym (has_high (m * 2 ^ n) n (y - n)) ∙ ap (λ (k : ℕ). has k (y - n)) (shl-shr m n))

pub has-below : (m n y : ℕ) → y < n → has (m * 2 ^ n) y ≡ false
unfolding has
has-below m n y l =
    let d : n ≡ suc (n - y - 1) + y = omega arith in
    let s : m * 2 ^ n ≡ m * 2 ^ suc (n - y - 1) * 2 ^ y
    = ap (λ (k : ℕ). m * 2 ^ k) d ∙ (ap (λ (k : ℕ). m * k) (pow-add 2 (suc (n - y - 1)) y) ∙ sym (mul_assoc m (2 ^ suc (n - y - 1)) (2 ^ y))) in
    let even : m * 2 ^ suc (n - y - 1) % 2 ≡ 0
    = rw (pow-suc 2 (n - y - 1), ← mul_assoc m (2 ^ (n - y - 1)) 2) (mul-mod_left (m * 2 ^ (n - y - 1)) 2) in
    rw (s, shl-shr (m * 2 ^ suc (n - y - 1)) y, even) refl

pub has_single : (x y : ℕ) → has (2 ^ x) y ≡ eqb y x
unfolding has
has_single x y = by_order (lt_or_le y x) (eq_or_ne y x)
  where
    by_order : (y < x) ⊎ (x ≤ y) → (y ≡ x) ⊎ (y ≡ x → ⊥) → eqb (2 ^ x / 2 ^ y % 2) 1 ≡ eqb y x
    by_order p (inl e) = rw (e, div_self (pow_pos x), eq-eqb x x refl) refl
    by_order (inl p) (inr e) = ap (λ (k : ℕ). has k y) (sym (one-mul (2 ^ x))) ∙ (has-below 1 x y p ∙ sym (ne_eqb y x e))
    by_order (inr p) (inr e) = rw (div-eq_of_lt (pow-lt {i = x} {j = y} (omega arith)), ne_eqb y x e) refl

-- tests that agree pass as often
pub count_same : (d : ℕ) (P Q : ℕ → Bool) → ((k : ℕ) → k < d → P k ≡ Q k) → count d P ≡ count d Q
unfolding count
count_same zero P Q h = refl
count_same (suc d) P Q h =
    ap₂ ◌+◌ (ap bit (h 0 (omega arith))) (count_same d (λ k. P (suc k)) (λ k. Q (suc k)) (λ k p. h (suc k) (omega arith)))

bit_le : (p q : Bool) → (p ≡ true → q ≡ true) → bit p ≤ bit q
bit_le false q h = omega arith
bit_le true q h = rw (h refl) (omega arith)

count_le : (d : ℕ) (P Q : ℕ → Bool) → ((k : ℕ) → k < d → P k ≡ true → Q k ≡ true) → count d P ≤ count d Q
unfolding count
count_le zero P Q h = omega arith
count_le (suc d) P Q h =
    omega
    (arith, bit_le (P 0) (Q 0) (h 0 (omega arith)), count_le d (λ k. P (suc k)) (λ k. Q (suc k)) (λ k p. h (suc k) (omega arith)))

pub count_most : (d : ℕ) (P : ℕ → Bool) → count d P ≤ d
unfolding count
count_most zero P = omega arith
count_most (suc d) P = omega (arith, bit_le (P 0) true (λ h. refl), count_most d (λ k. P (suc k)))

-- a test that passes where another does, and once more, passes more often
pub count_lt : (d : ℕ) (P Q : ℕ → Bool) → ((k : ℕ) → k < d → P k ≡ true → Q k ≡ true) → (z : ℕ) → z < d → P z ≡ false → Q z ≡ true
    → count d P < count d Q
unfolding count
count_lt zero P Q h z l a b = absurd (not-suc-le-zero l)
count_lt (suc d) P Q h zero l a b =
    let rest : count d (λ k. P (suc k)) ≤ count d (λ k. Q (suc k)) = count_le d (λ k. P (suc k)) (λ k. Q (suc k)) (λ k p. h (suc k) (omega arith)) in
    rw (a, b) (omega arith)
count_lt (suc d) P Q h (suc z) l a b =
    omega (
      arith,
      bit_le (P 0) (Q 0) (h 0 (omega arith)),
      count_lt d (λ k. P (suc k)) (λ k. Q (suc k)) (λ k p. h (suc k) (omega arith)) z (le_of_suc-le-suc l) a b,
    )

low_bit : (p : ℕ) → p < 2 → p ≡ bit (eqb p 1)
low_bit zero h = refl
low_bit (suc zero) h = refl
low_bit (suc (suc p)) h = absurd (let f : ⊥ = omega arith in f)

first_bit : (m : ℕ) → m % 2 ≡ bit (has m 0)
unfolding has
first_bit m = low_bit (m % 2) (mod-lt m (lit< tt)) ∙ ap (λ (k : ℕ). bit (eqb (k % 2) 1)) (sym (div-one m))

ones_zero : ones 0 ≡ 0
unfolding ones ones_in
ones_zero = refl

-- a word's set bits, counted
pub ones_count : (d m : ℕ) → m < 2 ^ d → ones m ≡ count d (has m)
unfolding count
ones_count zero m h = let e : m ≡ 0 = omega arith in rw e (ones_zero)
ones_count (suc d) m h =
    ones_step m
    ∙ ap₂ ◌+◌ (first_bit m)
    (ones_count d (m / 2) (shr_lt d 1 (let e : d + 1 ≡ suc d = omega arith in rw e h)) ∙ count_same d (has (m / 2)) (λ k. has m (suc k)) (λ k p. has_half m k))
