-- What each step of the walk over masks of up to 64 names leaves: names sorted by rank; then, rank by rank, put in tiers.
use Rattle.std.specs.Prelude.{Bool, true, false, ◌&&◌, List, ◌⊎◌, ◌≡◌, ℕ, suc, ◌<◌, ◌≤◌, eqb, ltb, length, get_or}
use Rattle.name_sets.specs.Mask.{has}
use Rattle.order_levels.specs.Levels.{rank, Under}

-- of the first n names, those of rank c are in set c; all ranks are below top
pub record Ranked (masks : List ℕ) (n : ℕ) (ranks : List ℕ) (top : ℕ) : Type 0 where
  pub size : length ranks ≡ 65
  pub sets : (c x : ℕ) → c < 65 → x < 64 → has (get_or ranks c 0) x ≡ (ltb x n && eqb (rank masks x) c)
  pub below : (x : ℕ) → x < n → rank masks x < top
  pub few : top ≤ 65

-- the set of the names of rank below c
pub record Ready (masks : List ℕ) (walked c : ℕ) : Type 0 where
  pub lower : (x : ℕ) → x < 64 → has walked x ≡ (ltb x (length masks) && ltb (rank masks x) c)

-- the set of the names of rank c, and that of the names of lower rank
pub record ClimbedRank (masks : List ℕ) (names walked c : ℕ) : Type 0 where
  pub own : (x : ℕ) → x < 64 → has names x ≡ (ltb x (length masks) && eqb (rank masks x) c)
  pub before : Ready masks walked c

-- the highest level, up to the depth, that a name of the set has; 0 where none has one
pub record Meets (set : ℕ) (tiers : List ℕ) (depth level : ℕ) : Type 0 where
  pub within : level ≤ depth
  pub none : (k x : ℕ) → level ≤ k → k < depth → x < 64 → has set x ≡ true → has (get_or tiers k 0) x ≡ false
  pub one : (level ≡ 0) ⊎ ((k : ℕ) × (x : ℕ) × (level ≡ suc k) × (x < 64) × (has set x ≡ true) × (has (get_or tiers k 0) x ≡ true))

-- the names that are done have their levels, and stand in their tiers
pub record Climbed (masks : List ℕ) (done : ℕ → Bool) (tiers levels : List ℕ) (depth : ℕ) : Type 0 where
  pub tiers_size : length tiers ≡ 65
  pub levels_size : length levels ≡ 64
  pub few : depth ≤ 65
  pub tier : (k x : ℕ) → k < 65 → x < 64 → has (get_or tiers k 0) x ≡ (done x && eqb (get_or levels x 0) (suc k))
  pub level : (x : ℕ) → x < 64 → done x ≡ true → (1 ≤ get_or levels x 0) × (get_or levels x 0 ≤ depth) × (get_or levels x 0 ≤ suc (rank masks x))
  pub left : (x : ℕ) → x < 64 → done x ≡ false → get_or levels x 0 ≡ 0
  pub rises : (y x : ℕ) → x < 64 → done x ≡ true → Under masks y x → (done y ≡ true) × (get_or levels y 0 < get_or levels x 0)
  pub reached : (x : ℕ) → x < 64 → done x ≡ true → (get_or levels x 0 ≡ 1) ⊎ ((y : ℕ) × Under masks y x × (get_or levels x 0 ≡ suc (get_or levels y 0)))
  pub met : (depth ≡ 0) ⊎ ((x : ℕ) × (x < 64) × (depth ≡ get_or levels x 0))
