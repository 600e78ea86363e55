-- Sets of pairs of a state below some room and a place from 0 to 16, in one list of numbers: the members stand in front in the order in which they
-- came, and at 32 room + x stands the stamp of the last set that the pair x was put into. What it is to add to a set.
use Rattle.std.specs.Prelude.{List, ◌≡◌, ℕ, ◌+◌, ◌*◌, ◌/◌, ◌%◌, ◌<◌, ◌≤◌, length, get_or}

-- the pair of the state q and the place k, as a number
abbrev pub pair : (q k : ℕ) → ℕ
pair q k = 32 * q + k

-- the state and the place of a pair
abbrev pub state_of : ℕ → ℕ
state_of x = x / 32

abbrev pub place_of : ℕ → ℕ
place_of x = x % 32

-- x is among so many members
pub record Member (s : List ℕ) (count x : ℕ) : Type 0 where
  pub place : ℕ
  pub inside : place < count
  pub here : get_or s place 0 ≡ x

module _ (room : ℕ) where
  module _ (stamp : ℕ) where
    -- the newest set: its stamp tells its members
    pub record PairSet (s : List ℕ) (count : ℕ) : Type 0 where
      pub low : room ≤ 2048
      pub size : length s ≡ 64 * room
      pub few : count ≤ 32 * room
      pub below : (i : ℕ) → i < count → get_or s i 0 < 32 * room
      pub apart : (i j : ℕ) → i < count → j < count → get_or s i 0 ≡ get_or s j 0 → i ≡ j
      pub marked : (i : ℕ) → i < count → get_or s (32 * room + get_or s i 0) 0 ≡ stamp
      pub known : (x : ℕ) → x < 32 * room → get_or s (32 * room + x) 0 ≡ stamp → Member s count x
      pub newest : (x : ℕ) → x < 32 * room → get_or s (32 * room + x) 0 ≤ stamp

    -- the stamp is newer than all that stands: under it no pair is a member
    pub record Unused (s : List ℕ) : Type 0 where
      pub low : room ≤ 2048
      pub size : length s ≡ 64 * room
      pub older : (x : ℕ) → x < 32 * room → get_or s (32 * room + x) 0 < stamp

    -- t is s with the pairs that H says, and no others
    pub record Gains (H : ℕ → Type 0) (s : List ℕ) (count : ℕ) (t : List ℕ) (more : ℕ) : Type 0 where
      pub good : PairSet t more
      pub grows : count ≤ more
      pub kept : (i : ℕ) → i < count → get_or t i 0 ≡ get_or s i 0
      pub came : (i : ℕ) → count ≤ i → i < more → H (get_or t i 0)
      pub there : (x : ℕ) → H x → Member t more x

  -- the stamps below the place i are cleared
  pub record Cleared (i : ℕ) (s : List ℕ) : Type 0 where
    pub low : room ≤ 2048
    pub size : length s ≡ 64 * room
    pub clear : (x : ℕ) → 32 * room + x < i → get_or s (32 * room + x) 0 ≡ 0

  -- the stamp is newer than all that stands, and there are newer ones
  pub record Renewed (s : List ℕ) (stamp : ℕ) : Type 0 where
    pub small : stamp ≤ 64000
    pub unused : Unused stamp s
