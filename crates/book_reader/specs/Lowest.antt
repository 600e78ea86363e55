-- The lowest repeat among the first keys of an array, searched for relation by relation. A key's remainder by 64 is the name that it belongs to.
use Rattle.std.specs.Prelude.{Bool, true, false, List, ◌≡◌, ℕ, ◌-◌, ◌%◌, ◌<◌, ◌≤◌, length, get_or}
use Rattle.book_reader.specs.Entered.{Entered, among}

-- whether the key at a place stands before it too
abbrev pub repeated : List ℕ → ℕ → Bool
repeated keys k = among keys k (get_or keys k 0)

-- the lowest repeat of the names below n; `count` where there is none
pub record Lowest (keys : List ℕ) (n count lowest : ℕ) : Type 0 where
  pub low : lowest ≤ count
  pub found : lowest < count → repeated keys lowest ≡ true
  pub none : (k : ℕ) → k < lowest → get_or keys k 0 % 64 < n → repeated keys k ≡ false

-- keys in lists by name, and a bound for the repeats to look for
pub record Gathered (keys targets : List ℕ) (lowest : ℕ) : Type 0 where
  pub count : ℕ
  pub entered : Entered 64 keys targets count
  pub low : lowest ≤ count

-- the least of a number and the repeats of a name
pub record Narrowed (keys : List ℕ) (name lowest least : ℕ) : Type 0 where
  pub low : least ≤ lowest
  pub found : least < lowest → repeated keys least ≡ true
  pub none : (k : ℕ) → k < least → get_or keys k 0 % 64 ≡ name → repeated keys k ≡ false

-- the least of a number and the one that stands before an entry, if there is one
pub record Lowered (numbers : List ℕ) (entry lowest least : ℕ) : Type 0 where
  pub low : least ≤ lowest
  pub own : 0 < entry → least ≤ get_or numbers (entry - 1) 0
  pub found : least < lowest → (0 < entry) × (least ≡ get_or numbers (entry - 1) 0)

-- how many rules of a name there are so far: no more than of all
pub record Sized (sizes : List ℕ) (count : ℕ) : Type 0 where
  pub names : length sizes ≡ 64
  pub most : (k : ℕ) → k < 64 → get_or sizes k 0 ≤ count
