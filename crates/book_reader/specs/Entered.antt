-- Keys that have been met, in lists by their remainders: the first keys of an array, in lists that run through another.
use Rattle.std.specs.Prelude.{Bool, false, ◌||◌, List, ◌≡◌, ℕ, zero, suc, ◌+◌, ◌-◌, ◌%◌, ◌<◌, ◌≤◌, eqb, length, get_or}
use Rattle.linked_lists.specs.LinkedLists.{Linked}

-- the list that the key at a place is in
abbrev pub list_of : ℕ → List ℕ → ℕ → ℕ
list_of lists keys k = get_or keys k 0 % lists

-- the first keys are in their lists
pub record Entered (lists : ℕ) (keys index : List ℕ) (count : ℕ) : Type 0 where
  pub places : length keys ≡ 256
  pub entries : length index ≡ lists + 256
  pub few : lists ≤ 256
  pub linked : Linked (list_of lists keys) lists index count

-- an entry of the list that x is in: 0, or one more than the place of one of the first keys
pub record InList (lists : ℕ) (keys : List ℕ) (count x entry : ℕ) : Type 0 where
  pub low : entry ≤ count
  pub own : 0 < entry → list_of lists keys (entry - 1) ≡ x % lists

-- keys in their lists, and an entry of the list that x is in
pub record Listed (lists : ℕ) (keys index : List ℕ) (entry x : ℕ) : Type 0 where
  pub count : ℕ
  pub entered : Entered lists keys index count
  pub here : InList lists keys count x entry

-- whether a number is one of the first keys
unfoldable pub among : List ℕ → (count : ℕ) → ℕ → Bool
among keys zero x = false
among keys (suc k) x = among keys k x || eqb x (get_or keys k 0)
