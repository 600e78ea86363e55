-- What the walk over masks gives: levels by the longest way down.
use Rattle.std.specs.Prelude.{true, List, ◌≡◌, ℕ, ◌<◌, ◌≤◌, length, get_or, take}
use Rattle.name_sets.specs.Mask.{has, count}
use Rattle.order.specs.Depth.{highest}
use Rattle.order.specs.Longest.{Longest}
use Rattle.order_levels.specs.declared.Levels.{Levels}

-- how many names are in the mask of x
abbrev pub rank : List ℕ → ℕ → ℕ
rank masks x = count 64 (has (get_or masks x 0))

-- a name y that has a mask is in the mask of x, and of lower rank. Where masks hold an order, all names in a mask are of lower rank
pub record Under (masks : List ℕ) (y x : ℕ) : Type 0 where
  pub masked : y < length masks
  pub within : has (get_or masks x 0) y ≡ true
  pub lower : rank masks y < rank masks x

-- the levels of the names that have one of these masks: how many members the longest way down has
pub record LeveledBy (masks levels : List ℕ) (depth : ℕ) : Type 0 where
  pub size : length levels ≡ 64
  pub longest : Longest (length masks) (Under masks) (λ x. get_or levels x 0)
  pub others : (x : ℕ) → length masks ≤ x → get_or levels x 0 ≡ 0
  pub depth_is : depth ≡ highest levels

-- there are 64 names at most
abbrev pub Climbs : List ℕ → Levels → Type 0
Climbs masks r = LeveledBy (take 64 masks) r.levels r.depth
