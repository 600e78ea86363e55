-- Ways down a relation, and the longest one from each of the first n numbers.
use Rattle.std.specs.Prelude.{◌⊎◌, ◌≡◌, ℕ, zero, suc, ◌<◌, ◌≤◌}
use Rattle.std.proofs.Common.{inl, inr, sym, subst, le_antisymm, arith}

-- a way down from x with so many members: x alone, or x and a way down from one below it
pub data Way {ℓ} (below : ℕ → ℕ → Type ℓ) : ℕ → ℕ → Type ℓ where
  alone : (x : ℕ) → Way below x 1
  down : (x y k : ℕ) → below y x → Way below y k → Way below x (suc k)

-- levels that say how many members the longest way down has: they rise along the relation, and each of the first n is 1, or 1 more than one below it
pub record Longest {ℓ} (n : ℕ) (below : ℕ → ℕ → Type ℓ) (level : ℕ → ℕ) : Type ℓ where
  pub rises : (y x : ℕ) → below y x → level y < level x
  pub reached : (x : ℕ) → x < n → (level x ≡ 1) ⊎ ((y : ℕ) × (y < n) × below y x × (level x ≡ suc (level y)))

module _ {ℓ} {n : ℕ} {below : ℕ → ℕ → Type ℓ} {level : ℕ → ℕ} (l : Longest n below level) where
  pub longest-some : (x : ℕ) → x < n → 1 ≤ level x
  longest-some x p = by_case (l.reached x p)
    where
      by_case : (level x ≡ 1) ⊎ ((y : ℕ) × (y < n) × below y x × (level x ≡ suc (level y))) → 1 ≤ level x
      by_case (inl e) = omega arith
      by_case (inr r) = omega (arith, r.3)

  -- there is such a way, and none is longer
  way_within : (k x : ℕ) → x < n → level x ≤ k → Way below x (level x)
  way_within zero x p h = absurd (let f : ⊥ = omega (arith, longest-some x p) in f)
  way_within (suc k) x p h = by_case (l.reached x p) (way_within k)
    where
      by_case : (level x ≡ 1) ⊎ ((y : ℕ) × (y < n) × below y x × (level x ≡ suc (level y)))
          → ((y : ℕ) → y < n → level y ≤ k → Way below y (level y)) → Way below x (level x)
      by_case (inl e) rest = subst (Way below x) (sym e) (alone x)
      by_case (inr r) rest = subst (Way below x) (sym r.3) (down x r.0 (level r.0) r.2 (rest r.0 r.1 (omega (arith, r.3))))

  pub longest_way : (x : ℕ) → x < n → Way below x (level x)
  longest_way x p = way_within (level x) x p (omega arith)

  pub way_short : ((y x : ℕ) → below y x → y < n) → {x k : ℕ} → x < n → Way below x k → k ≤ level x
  way_short within p (alone x) = longest-some x p
  way_short within p (down x y k b w) = omega (arith, way_short within (within y x b) w, l.rises y x b)

  -- no numbers from 1 on that rise along the relation are lower
  least-within : (f : ℕ → ℕ) → ((y x : ℕ) → below y x → f y < f x) → ((x : ℕ) → x < n → 1 ≤ f x) → (k x : ℕ) → x < n → level x ≤ k → level x ≤ f x
  least-within f rises some zero x p h = omega arith
  least-within f rises some (suc k) x p h = by_case (l.reached x p) (least-within f rises some k)
    where
      by_case : (level x ≡ 1) ⊎ ((y : ℕ) × (y < n) × below y x × (level x ≡ suc (level y)))
          → ((y : ℕ) → y < n → level y ≤ k → level y ≤ f y) → level x ≤ f x
      by_case (inl e) rest = omega (arith, some x p)
      by_case (inr r) rest = omega (arith, r.3, rest r.0 r.1 (omega (arith, r.3)), rises r.0 x r.2)

  pub longest-least : (f : ℕ → ℕ) → ((y x : ℕ) → below y x → f y < f x) → ((x : ℕ) → x < n → 1 ≤ f x) → (x : ℕ) → x < n → level x ≤ f x
  longest-least f rises some x p = least-within f rises some (level x) x p (omega arith)

-- there is one such level for each
pub longest-one {ℓ} : {n : ℕ} {below : ℕ → ℕ → Type ℓ} {f g : ℕ → ℕ} → Longest n below f → Longest n below g → (x : ℕ) → x < n → f x ≡ g x
longest-one {f = f} {g = g} l k x p =
    le_antisymm (longest-least l g k.rises (longest-some k) x p) (longest-least k f l.rises (longest-some l) x p)
