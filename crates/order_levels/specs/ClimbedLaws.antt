-- Names put in their tiers: none yet, and one name more, above the highest of those under it.
use Rattle.std.specs.Prelude.{Bool, true, false, ◌&&◌, ◌||◌, List, ◌⊎◌, ◌≡◌, refl, ℕ, suc, ◌+◌, ◌-◌, ◌^◌, ◌<◌, ◌≤◌, max, eqb, length, get_or, set, replicate}
use Rattle.std.proofs.Common.{true≢false, inl, inr, sym, ap, ◌∙◌, subst, arith, eqb-true, eq-eqb, ne_eqb, length-set, get_or-set_same, get_or-set_other}
use Rattle.std.proofs.Math.Bool.{and-false, or-false, or-true}
use Rattle.std.proofs.Math.Nat.{le-max_left, le-max_right, max-le, max-eq_left, max-eq_right}
use Rattle.std.specs.Int.Bits.{bit_or}
use Rattle.std.proofs.lemmas.List.{length-replicate, get_or-replicate}
use Rattle.base.specs.Truth.{and_right, and_intro, or_cases, or_left, or_right, eq_or_ne, lt_or_le, not_true_false}
use Rattle.name_sets.specs.Mask.{has}
use Rattle.name_sets.specs.MaskLaws.{has_zero, count_most}
use Rattle.order_levels.specs.Levels.{rank, Under}
use Rattle.order_levels.specs.Climbing.{Meets, Climbed}
use Rattle.order_levels.specs.RankedLaws.{joined-own}

-- no name done yet
pub climbed-none : {masks tiers levels : List ℕ} → tiers ≡ replicate 65 0 → levels ≡ replicate 64 0 → Climbed masks (has 0) tiers levels 0
climbed-none t l =
    record {
      tiers_size = rw t (length-replicate {A = ℕ} 65 0);
      levels_size = rw l (length-replicate {A = ℕ} 64 0);
      few = omega arith;
      tier = λ k x p q. rw (t, get_or-replicate {A = ℕ} 65 k 0 0 p, has_zero x) refl;
      level = λ x p h. absurd (true≢false (sym h ∙ has_zero x));
      left = λ x p h. rw (l, get_or-replicate {A = ℕ} 64 x 0 0 p) refl;
      rises = λ y x p h. absurd (true≢false (sym h ∙ has_zero x));
      reached = λ x p h. absurd (true≢false (sym h ∙ has_zero x));
      met = inl refl;
    }

-- the same names done
pub climbed-same : {masks tiers levels : List ℕ} {done done' : ℕ → Bool} {depth : ℕ} → length masks ≤ 64 → ((x : ℕ) → x < 64 → done' x ≡ done x)
    → Climbed masks done tiers levels depth → Climbed masks done' tiers levels depth
climbed-same {tiers = tiers} {levels = levels} short e a =
    record {
      tiers_size = a.tiers_size;
      levels_size = a.levels_size;
      few = a.few;
      tier = λ k x p q. a.tier k x p q ∙ ap (λ (t : Bool). t && eqb (get_or levels x 0) (suc k)) (sym (e x q));
      level = λ x p h. a.level x p (sym (e x p) ∙ h);
      left = λ x p h. a.left x p (sym (e x p) ∙ h);
      rises = λ y x p h u. let r = a.rises y x p (sym (e x p) ∙ h) u in (e y (omega (arith, u.masked)) ∙ r.0, r.1);
      reached = λ x p h. a.reached x p (sym (e x p) ∙ h);
      met = a.met;
    }

-- one name more is done: x, where a set has the names under it, and `below` is the highest level of these
module _ {masks tiers levels : List ℕ} {done : ℕ → Bool} {depth : ℕ} (short : length masks ≤ 64) (a : Climbed masks done tiers levels depth)
    {x names below : ℕ} (p : x < 64) (fresh : done x ≡ false) (under : (y : ℕ) → y < 64 → has names y ≡ true → Under masks y x × (done y ≡ true))
    (all : (y : ℕ) → Under masks y x → has names y ≡ true) (m : Meets names tiers depth below) where
  -- the names done before keep their levels
  other : (y : ℕ) → done y ≡ true → y ≡ x → ⊥
  other y h e = true≢false (sym h ∙ ap done e ∙ fresh)

  kept : (y : ℕ) → (y ≡ x → ⊥) → get_or (set levels x (below + 1)) y 0 ≡ get_or levels y 0
  kept y n = get_or-set_other levels x y (below + 1) 0 n

  own : get_or (set levels x (below + 1)) x 0 ≡ below + 1
  own = get_or-set_same levels x (below + 1) 0 (omega (arith, a.levels_size))

  before : (y : ℕ) → (done y || eqb y x) ≡ true → (y ≡ x → ⊥) → done y ≡ true
  before y h n = by_case (or_cases (done y) (eqb y x) h)
    where
      by_case : (done y ≡ true) ⊎ (eqb y x ≡ true) → done y ≡ true
      by_case (inl t) = t
      by_case (inr t) = absurd (n (eqb-true y x t))

  -- a name under x of the highest level
  abbrev Highest : Type 0
  Highest = (below ≡ 0) ⊎ ((y : ℕ) × Under masks y x × (done y ≡ true) × (y < 64) × (get_or levels y 0 ≡ below))

  one : Highest
  one = by_case m.one
    where
      by_case : (below ≡ 0) ⊎ ((k : ℕ) × (y : ℕ) × (below ≡ suc k) × (y < 64) × (has names y ≡ true) × (has (get_or tiers k 0) y ≡ true)) → Highest
      by_case (inl e) = inl e
      by_case (inr (k, y, e, q, h, t)) =
          let u = under y q h in
          let s = sym (a.tier k y (omega (arith, m.within, a.few)) q) ∙ t in
          inr (y, u.0, u.1, q, eqb-true (get_or levels y 0) (suc k) (and_right (done y) (eqb (get_or levels y 0) (suc k)) s) ∙ sym e)

  low : below ≤ rank masks x
  low = by_case one
    where
      by_case : Highest → below ≤ rank masks x
      by_case (inl e) = omega arith
      by_case (inr (y, u, d, q, e)) = omega (arith, u.lower, (a.level y q d).2)

  pub below-few : below ≤ 64
  below-few = omega (arith, low, count_most 64 (has (get_or masks x 0)))

  -- no name under x has a higher level
  high : (y : ℕ) → Under masks y x → (done y ≡ true) × (get_or levels y 0 < below + 1)
  high y u = (d, by_order (lt_or_le (get_or levels y 0) (below + 1)))
    where
      q : y < 64
      q = omega (arith, u.masked)

      d : done y ≡ true
      d = (under y q (all y u)).1

      by_order : (get_or levels y 0 < below + 1) ⊎ (below + 1 ≤ get_or levels y 0) → get_or levels y 0 < below + 1
      by_order (inl h) = h
      by_order (inr h) =
          let k : ℕ = get_or levels y 0 - 1 in
          let e : get_or levels y 0 ≡ suc k = omega arith in
          let l = a.level y q d in
          let t = a.tier k y (omega (arith, l.1, a.few)) q ∙ and_intro (done y) (eqb (get_or levels y 0) (suc k)) d (eq-eqb (get_or levels y 0) (suc k) e) in
          absurd (true≢false (sym t ∙ m.none k y (omega arith) (omega (arith, l.1)) q (all y u)))

  pub climbed-put : Climbed masks (λ y. done y || eqb y x) (set tiers below (bit_or (get_or tiers below 0) (2 ^ x))) (set levels x (below + 1)) (max depth (below + 1))
  climbed-put =
      record {
        tiers_size = length-set tiers below _ ∙ a.tiers_size;
        levels_size = length-set levels x (below + 1) ∙ a.levels_size;
        few = max-le a.few (omega (arith, below-few));
        tier = λ k y q r. by-tier k y q r (eq_or_ne k below) (eq_or_ne y x);
        level = λ y q h. level_of y q h (eq_or_ne y x);
        left = λ y q h. left_of y q h (eq_or_ne y x);
        rises = λ y z q h u. rises-to y z q h u (eq_or_ne z x);
        reached = λ z q h. reached-by z q h (eq_or_ne z x);
        met = met_by (lt_or_le depth (below + 1));
      }
    where
      by-tier : (k y : ℕ) → k < 65 → y < 64 → (k ≡ below) ⊎ (k ≡ below → ⊥) → (y ≡ x) ⊎ (y ≡ x → ⊥)
          → has (get_or (set tiers below (bit_or (get_or tiers below 0) (2 ^ x))) k 0) y ≡ ((done y || eqb y x) && eqb (get_or (set levels x (below + 1)) y 0) (suc k))
      by-tier k y q r (inl d) (inl n) =
          rw (d, n, joined-own tiers below x (omega (arith, below-few, a.tiers_size)) x, eq-eqb x x refl, own, eq-eqb (below + 1) (suc below) (omega arith), or-true (has (get_or tiers below 0) x), or-true (done x)) refl
      by-tier k y q r (inl d) (inr n) =
          rw (d, joined-own tiers below x (omega (arith, below-few, a.tiers_size)) y, ne_eqb y x n, or-false (has (get_or tiers below 0) y), or-false (done y), kept y n) (a.tier below y (omega (arith, below-few)) r)
      by-tier k y q r (inr d) (inl n) =
          rw (n, get_or-set_other tiers below k (bit_or (get_or tiers below 0) (2 ^ x)) 0 d, own, a.tier k x q p, fresh, ne_eqb (below + 1) (suc k) (λ e. d (omega arith)), and-false) refl
      by-tier k y q r (inr d) (inr n) =
          rw (get_or-set_other tiers below k (bit_or (get_or tiers below 0) (2 ^ x)) 0 d, ne_eqb y x n, or-false, kept y n) (a.tier k y q r)

      level_of : (y : ℕ) → y < 64 → (done y || eqb y x) ≡ true → (y ≡ x) ⊎ (y ≡ x → ⊥)
          → (1 ≤ get_or (set levels x (below + 1)) y 0) × (get_or (set levels x (below + 1)) y 0 ≤ max depth (below + 1)) × (get_or (set levels x (below + 1)) y 0 ≤ suc (rank masks y))
      level_of y q h (inl n) = rw (n, own) (omega arith, le-max_right depth (below + 1), omega (arith, low))
      level_of y q h (inr n) =
          let l = a.level y q (before y h n) in rw (kept y n) (l.0, omega (arith, l.1, le-max_left depth (below + 1)), l.2)

      left_of : (y : ℕ) → y < 64 → (done y || eqb y x) ≡ false → (y ≡ x) ⊎ (y ≡ x → ⊥) → get_or (set levels x (below + 1)) y 0 ≡ 0
      left_of y q h (inl n) = absurd (true≢false (sym (or_right (done y) (eqb y x) (eq-eqb y x n)) ∙ h))
      left_of y q h (inr n) = kept y n ∙ a.left y q (not_true_false (done y) (λ t. true≢false (sym (or_left (done y) (eqb y x) t) ∙ h)))

      rises-to : (y z : ℕ) → z < 64 → (done z || eqb z x) ≡ true → Under masks y z → (z ≡ x) ⊎ (z ≡ x → ⊥)
          → ((done y || eqb y x) ≡ true) × (get_or (set levels x (below + 1)) y 0 < get_or (set levels x (below + 1)) z 0)
      rises-to y z q h u (inl n) =
          let r = high y (subst (Under masks y) n u) in
          (or_left (done y) (eqb y x) r.0, rw (n, own, kept y (other y r.0)) r.1)
      rises-to y z q h u (inr n) =
          let r = a.rises y z q (before z h n) u in
          (or_left (done y) (eqb y x) r.0, rw (kept z n, kept y (other y r.0)) r.1)

      reached-by : (z : ℕ) → z < 64 → (done z || eqb z x) ≡ true → (z ≡ x) ⊎ (z ≡ x → ⊥)
          → (get_or (set levels x (below + 1)) z 0 ≡ 1) ⊎ ((y : ℕ) × Under masks y z × (get_or (set levels x (below + 1)) z 0 ≡ suc (get_or (set levels x (below + 1)) y 0)))
      reached-by z q h (inl n) = rw n (by_one one)
        where
          by_one : Highest → (get_or (set levels x (below + 1)) x 0 ≡ 1) ⊎ ((y : ℕ) × Under masks y x × (get_or (set levels x (below + 1)) x 0 ≡ suc (get_or (set levels x (below + 1)) y 0)))
          by_one (inl e) = inl (own ∙ omega arith)
          by_one (inr (y, u, d, r, e)) = inr (y, u, own ∙ rw (kept y (other y d), e) (omega arith))
      reached-by z q h (inr n) = by_old (a.reached z q (before z h n))
        where
          by_old : (get_or levels z 0 ≡ 1) ⊎ ((y : ℕ) × Under masks y z × (get_or levels z 0 ≡ suc (get_or levels y 0)))
              → (get_or (set levels x (below + 1)) z 0 ≡ 1) ⊎ ((y : ℕ) × Under masks y z × (get_or (set levels x (below + 1)) z 0 ≡ suc (get_or (set levels x (below + 1)) y 0)))
          by_old (inl e) = inl (kept z n ∙ e)
          by_old (inr (y, u, e)) = inr (y, u, rw (kept z n, kept y (other y (a.rises y z q (before z h n) u).0)) e)

      met_by : (depth < below + 1) ⊎ (below + 1 ≤ depth) → (max depth (below + 1) ≡ 0) ⊎ ((z : ℕ) × (z < 64) × (max depth (below + 1) ≡ get_or (set levels x (below + 1)) z 0))
      met_by (inl h) = inr (x, p, max-eq_right (omega arith) ∙ sym own)
      met_by (inr h) = by_old a.met
        where
          by_old : (depth ≡ 0) ⊎ ((z : ℕ) × (z < 64) × (depth ≡ get_or levels z 0))
              → (max depth (below + 1) ≡ 0) ⊎ ((z : ℕ) × (z < 64) × (max depth (below + 1) ≡ get_or (set levels x (below + 1)) z 0))
          by_old (inl e) = absurd (let f : ⊥ = omega arith in f)
          by_old (inr (z, q, e)) = by_name (eq_or_ne z x)
            where
              by_name : (z ≡ x) ⊎ (z ≡ x → ⊥) → (max depth (below + 1) ≡ 0) ⊎ ((z : ℕ) × (z < 64) × (max depth (below + 1) ≡ get_or (set levels x (below + 1)) z 0))
              by_name (inl n) = absurd (let f : get_or levels x 0 ≡ 0 = a.left x p fresh in let g : depth ≡ get_or levels x 0 = rw (← n) e in let i : ⊥ = omega arith in i)
              by_name (inr n) = inr (z, q, max-eq_left h ∙ e ∙ sym (kept z n))
