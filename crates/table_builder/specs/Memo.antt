-- What a memo of the fragments laid says, number by number; and what copying a fragment's transitions writes.
use Rattle.std.specs.Prelude.{List, ◌≡◌, ℕ, ◌+◌, ◌-◌, ◌*◌, ◌<◌, ◌≤◌, length, get_or, set}
use Rattle.roles.specs.Role.{name}
use Rattle.roles.specs.Rule.{Rule}
use Rattle.tables.specs.Tables.{Transition, size_of, transitions_of, numbers}
use Rattle.rule_index.specs.RuleIndex.{Indexed, level_in}
use Rattle.table_laying.specs.Shifted.{Shifted}
use Rattle.table_writer.specs.declared.Place.{Place}

-- the numbers of role r: how many states its fragment takes, its first transition, how many it has, its first state
abbrev pub size_in : List ℕ → ℕ → ℕ
size_in memo r = get_or memo r 0

abbrev pub start_in : List ℕ → ℕ → ℕ
start_in memo r = get_or memo (128 + r) 0

abbrev pub count_in : List ℕ → ℕ → ℕ
count_in memo r = get_or memo (256 + r) 0

abbrev pub state_in : List ℕ → ℕ → ℕ
state_in memo r = get_or memo (384 + r) 0

-- the memo with the fragment of role r that was laid between two places
abbrev pub stored : List ℕ → ℕ → Place → Place → List ℕ
stored memo r p q = set (set (set (set memo r (q.state - p.state)) (128 + r) p.count) (256 + r) (q.count - p.count)) (384 + r) p.state

-- neither the states nor the transitions have passed what is counted
abbrev pub Sound : Place → Type 0
Sound q = (q.state ≤ 2048) × (q.count < 60000)

-- what four numbers say, at a place, of a fragment that takes z states and has some transitions at each first state: it was laid before the
-- place, and where the table had room for all that was laid its numbers stand there
pub record Kept (size start count state : ℕ) (q : Place) (n : List ℕ) (z : ℕ) (at : ℕ → List Transition) : Type 0 where
  pub same : z ≡ size
  pub many : length (at state) ≡ count
  pub before : Sound q → (state + size ≤ q.state) × (start + count ≤ q.count)
  pub stands : Sound q → 3 * q.count ≤ length n → (x : ℕ) → x < 3 * count → get_or n (3 * start + x) 0 ≡ get_or (numbers (at state)) x 0
  pub moved : (i j d : ℕ) → j ≡ i + d → Shifted d (i + z) (at i) (at j)

-- the same of the numbers of role r
abbrev pub Held : List ℕ → ℕ → Place → List ℕ → ℕ → (ℕ → List Transition) → Type 0
Held memo r q n z at = Kept (size_in memo r) (start_in memo r) (count_in memo r) (state_in memo r) q n z at

-- each role that the memo has a size for is held
pub record Memo (index memo : List ℕ) (q : Place) (n : List ℕ) : Type 0 where
  pub size : length memo ≡ 512
  pub held : (r : ℕ) → r < 128 → 0 < size_in memo r → (ρs : List Rule) → Indexed ρs index → (fuel : ℕ) → level_in index (name r) < fuel
      → Held memo r q n (size_of ρs fuel r) (transitions_of ρs fuel r)

-- the numbers vs are those of some transitions in a table, with a number added to their states
pub record Copied (start size by : ℕ) (m vs : List ℕ) : Type 0 where
  pub all : length vs ≡ 3 * size
  pub from : (j : ℕ) → j < size → get_or vs (3 * j) 0 ≡ get_or m (3 * (start + j)) 0 + by
  pub label : (j : ℕ) → j < size → get_or vs (3 * j + 1) 0 ≡ get_or m (3 * (start + j) + 1) 0
  pub to : (j : ℕ) → j < size → get_or vs (3 * j + 2) 0 ≡ get_or m (3 * (start + j) + 2) 0 + by
