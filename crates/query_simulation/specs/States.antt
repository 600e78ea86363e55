-- Sets of states below some room, two at a time, at the front of one list of numbers: the members of one stand from 0 on, those of the other from room on, and
-- at 2 room + q stands the stamp of the last set that the state q was put into. What it is to add to a set.
use Rattle.std.specs.Prelude.{List, ◌≡◌, ℕ, ◌+◌, ◌*◌, ◌-◌, ◌<◌, ◌≤◌, max, length, get_or, drop}

-- q is among so many members from the place `list` on
pub record Member (s : List ℕ) (list count q : ℕ) : Type 0 where
  pub place : ℕ
  pub inside : place < count
  pub here : get_or s (list + place) 0 ≡ q

module _ (room : ℕ) where
  -- the members alone, from 0 or from room on
  pub record Members (s : List ℕ) (list count : ℕ) : Type 0 where
    pub low : room ≤ 2048
    pub size : 3 * room ≤ length s
    pub side : max list (room - list) ≡ room
    pub few : count ≤ room
    pub below : (i : ℕ) → i < count → get_or s (list + i) 0 < room

  -- the newest set: its stamp tells its members
  pub record States (stamp : ℕ) (s : List ℕ) (list count : ℕ) : Type 0 where
    pub members : Members s list count
    pub apart : (i j : ℕ) → i < count → j < count → get_or s (list + i) 0 ≡ get_or s (list + j) 0 → i ≡ j
    pub marked : (i : ℕ) → i < count → get_or s (2 * room + get_or s (list + i) 0) 0 ≡ stamp
    pub known : (q : ℕ) → q < room → get_or s (2 * room + q) 0 ≡ stamp → Member s list count q
    pub newest : (q : ℕ) → q < room → get_or s (2 * room + q) 0 ≤ stamp

  -- the stamp is newer than all that stands: under it no state is a member
  pub record Unused (stamp : ℕ) (s : List ℕ) : Type 0 where
    pub low : room ≤ 2048
    pub size : 3 * room ≤ length s
    pub older : (q : ℕ) → q < room → get_or s (2 * room + q) 0 < stamp

  -- t has what s has behind the sets
  pub record Behind (s t : List ℕ) : Type 0 where
    pub same : length t ≡ length s
    pub rest : drop (3 * room) t ≡ drop (3 * room) s

  -- t is s with the stamps below the place i cleared
  pub record Cleared (i : ℕ) (s t : List ℕ) : Type 0 where
    pub behind : Behind s t
    pub clear : (q : ℕ) → 2 * room + q < i → get_or t (2 * room + q) 0 ≡ 0

  -- t has a stamp with many more after it
  pub record Renewed (s t : List ℕ) (stamp : ℕ) : Type 0 where
    pub small : stamp ≤ 64000
    pub unused : Unused stamp t
    pub behind : Behind s t

  -- t is s with more members, each of which may come; the other list stays
  pub record Added (stamp list : ℕ) (s : List ℕ) (count : ℕ) (t : List ℕ) (more : ℕ) (May : ℕ → Type 0) : Type 0 where
    pub good : States stamp t list more
    pub grows : count ≤ more
    pub kept : (i : ℕ) → i < count → get_or t (list + i) 0 ≡ get_or s (list + i) 0
    pub came : (i : ℕ) → count ≤ i → i < more → May (get_or t (list + i) 0)
    pub other : (x i : ℕ) → x + list ≡ room → i < room → get_or t (x + i) 0 ≡ get_or s (x + i) 0
    pub behind : Behind s t

  -- t is s with q
  pub record Put (stamp list q : ℕ) (s : List ℕ) (count : ℕ) (t : List ℕ) (more : ℕ) : Type 0 where
    pub added : Added stamp list s count t more (λ x. x ≡ q)
    pub there : Member t list more q
