-- Lists of numbered items that run through one array, a list for each key below some room. An entry is one more than an item's number, or 0 for none:
-- at x the last item with the key x, at room + k the last one before item k with the same key.
use Rattle.std.specs.Prelude.{List, ◌≡◌, ℕ, ◌+◌, ◌-◌, ◌<◌, ◌≤◌, length, get_or}

module _ (key : ℕ → ℕ) where
  -- the entry for the last item with the key x below a bound
  pub record Latest (x bound entry : ℕ) : Type 0 where
    pub low : entry ≤ bound
    pub own : 0 < entry → key (entry - 1) ≡ x
    pub none_later : (k : ℕ) → entry ≤ k → k < bound → key k ≡ x → ⊥

  -- the lists of the first n items
  pub record Linked (room : ℕ) (index : List ℕ) (n : ℕ) : Type 0 where
    pub space : room + n ≤ length index
    pub keys : (k : ℕ) → k < n → key k < room
    pub last : (x : ℕ) → x < room → Latest x n (get_or index x 0)
    pub before : (k : ℕ) → k < n → Latest (key k) k (get_or index (room + k) 0)
