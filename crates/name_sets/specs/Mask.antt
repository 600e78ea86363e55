-- Sets of names as bit masks: name y is in the set where bit y is set.
use Rattle.std.specs.Prelude.{Bool, true, false, cond, List, ◌≡◌, ℕ, zero, suc, ◌+◌, ◌/◌, ◌%◌, ◌^◌, ◌<◌, eqb, ltb, get_or}

-- whether bit y is set
unfoldable pub has : ℕ → ℕ → Bool
has m y = eqb (m / 2 ^ y % 2) 1

-- the set of name x alone; of a number that is no name, none
unfoldable pub only : ℕ → ℕ
only x = cond (ltb x 64) (2 ^ x) 0

-- masks that hold a relation on 64 names: the names lower than x are the set of mask x, and none where there is no mask x
pub record Holds (masks : List ℕ) (lower : ℕ → ℕ → Bool) : Type 0 where
  pub bits : (x y : ℕ) → x < 64 → y < 64 → has (get_or masks x 0) y ≡ lower y x

abbrev pub bit : Bool → ℕ
bit false = 0
bit true = 1

-- how many of the first d numbers pass a test
unfoldable pub count : ℕ → (ℕ → Bool) → ℕ
count zero P = 0
count (suc d) P = bit (P 0) + count d (λ k. P (suc k))
