-- The fewest digits that hold a number are its decimal digits, and a line has at most 64 bytes.
use Rattle.std.specs.Prelude.{Bool, true, false, cond, List, [], ◌∷◌, ◌++◌, ◌⊎◌, ◌≡◌, refl, ℕ, zero, suc, ◌+◌, ◌-◌, ◌*◌, ◌/◌, ◌%◌, ◌^◌, ◌<◌, ◌≤◌, ltb, length, take}
use Rattle.std.proofs.Common.{inl, inr, ap₂, ◌∙◌, arith, lt-ltb, le-ltb, pow-suc, length-append}
use Rattle.std.proofs.Math.Nat.{one-le-pow, pow-le-pow_right}
use Rattle.base.specs.Truth.{lt_or_le}
use Rattle.io.specs.Digits.{hex_digit_ascii, last_digits, IsDigitCount}
use Rattle.base.specs.Result.{Result}
use Rattle.base.specs.Result.Result.{refused, ok}
use Rattle.transcript_lines.specs.Lines.{decimal_from, decimal, yes_word, no_word, refused_word, end_line, answer_line}

glyph_digit : (d : ℕ) → d < 10 → hex_digit_ascii d ≡ 48 + d
glyph_digit d h = rw (lt-ltb d 10 h) refl

digits_one : (fuel n : ℕ) → n < 10 → last_digits 10 1 n ≡ decimal_from (suc fuel) n
unfolding decimal_from
digits_one fuel n h =
    let m : n % 10 ≡ n = omega (arith, h) in
    rw (lt-ltb n 10 h, m, glyph_digit n h) refl

-- a number that needs two digits or more is 10 or more, and a tenth of it needs one digit less
long : (n k : ℕ) → IsDigitCount 10 1 n (suc (suc k)) → (10 ≤ n) × IsDigitCount 10 1 (n / 10) (suc k)
long n k f =
    let high : n < 10 ^ suc k * 10 = rw (← pow-suc 10 (suc k)) f.1 in
    let less : suc (suc k) - 1 ≡ suc k = omega arith in
    let low : 10 ^ suc k ≤ n = rw less at (f.2 (omega arith)) in
    let one_less : suc k - 1 ≡ k = omega arith in
    let some : 1 ≤ 10 ^ k = one-le-pow k 10 (omega arith) in
    let power : 10 ^ suc k ≡ 10 ^ k * 10 = pow-suc 10 k in
    (omega arith, (omega arith, omega arith, λ more. rw one_less (omega arith)))

digits_decimal : (fuel n k : ℕ) → k ≤ fuel → IsDigitCount 10 1 n k → last_digits 10 k n ≡ decimal_from fuel n
unfolding decimal_from
digits_decimal fuel n zero few f = absurd (let g : 1 ≤ 0 = f.0 in let h : ⊥ = omega arith in h)
digits_decimal zero n (suc k) few f = absurd (omega arith)
digits_decimal (suc fuel) n (suc zero) few f = digits_one fuel n f.1
digits_decimal (suc fuel) n (suc (suc k)) few f =
    let parts = long n k f in
    let ih : last_digits 10 (suc k) (n / 10) ≡ decimal_from fuel (n / 10) = digits_decimal fuel (n / 10) (suc k) (omega (arith, few)) parts.1 in
    let digit : n % 10 < 10 = omega arith in
    rw (le-ltb n 10 parts.0) (ap₂ (λ (ds : List ℕ) (d : ℕ). ds ++ (d ∷ [])) ih (glyph_digit (n % 10) digit))

-- a number of 64 bits has at most 20 digits
few_digits : (n k : ℕ) → n < 2 ^ 64 → IsDigitCount 10 1 n k → k ≤ 20
few_digits n k small f = by_size (lt_or_le 20 k)
  where
    by_size : (20 < k) ⊎ (k ≤ 20) → k ≤ 20
    by_size (inr h) = h
    by_size (inl h) =
        let more : 20 ≤ k - 1 = omega (arith, h) in
        let some : 0 < 10 = omega arith in
        let power : 10 ^ 20 ≤ 10 ^ (k - 1) = pow-le-pow_right some more in
        let low : 10 ^ (k - 1) ≤ n = f.2 (omega (arith, h)) in
        absurd (let g : ⊥ = omega (arith, small) in g)

-- the digits of a number that a buffer begins with
pub decimal_digits : (n k : ℕ) (ds : List ℕ) → n < 2 ^ 64 → k ≡ length (take k ds) → IsDigitCount 10 1 n k → take k ds ≡ last_digits 10 k n
    → (take k ds ≡ decimal n) × (length (take k ds) ≤ 20)
unfolding decimal
decimal_digits n k ds small size f e =
    let few : k ≤ 20 = few_digits n k small f in
    (e ∙ digits_decimal 20 n k few f, rw (← size) few)

-- a line has at most 64 bytes
decimal_from-short : (fuel n : ℕ) → length (decimal_from fuel n) ≤ fuel
unfolding decimal_from
decimal_from-short zero n = omega arith
decimal_from-short (suc fuel) n = by_test (decimal_from-short fuel (n / 10)) (ltb n 10)
  where
    by_test : length (decimal_from fuel (n / 10)) ≤ fuel → (t : Bool)
        → length (cond t ((48 + n) ∷ []) (decimal_from fuel (n / 10) ++ ((48 + n % 10) ∷ []))) ≤ suc fuel
    by_test h true = omega arith
    by_test h false = omega (arith, h, length-append (decimal_from fuel (n / 10)) ((48 + n % 10) ∷ []))

decimal-short : (n : ℕ) → length (decimal n) ≤ 20
unfolding decimal
decimal-short n = decimal_from-short 20 n

pub line_short : (k : ℕ) (a : Result Bool) → length (answer_line k a) ≤ 64
line_short k (ok true) = omega (arith, decimal-short k, length-append (decimal k) yes_word)
line_short k (ok false) = omega (arith, decimal-short k, length-append (decimal k) no_word)
line_short k (refused c v) =
    omega (
      arith,
      decimal-short k,
      decimal-short c,
      length-append (decimal k) (refused_word ++ decimal c ++ end_line),
      length-append (refused_word ++ decimal c) end_line,
      length-append refused_word (decimal c),
    )
