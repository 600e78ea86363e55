-- Tables of few states and few transitions, for which small arrays do.
use Rattle.std.specs.Prelude.{List, ℕ, ◌<◌, ◌≤◌, length, get_or}
use Rattle.query_simulation.specs.Transitions.{from_at, to_at, transition_count}

-- the first n initial states, and with each the next state, are below 64
abbrev pub LowHeads : (heads : List ℕ) (n : ℕ) → Type 0
LowHeads heads n = (i : ℕ) → i < n → get_or heads i 0 < 63

-- the first n transitions are between states below 64
abbrev pub LowStates : (moves : List ℕ) (n : ℕ) → Type 0
LowStates moves n = (k : ℕ) → k < n → (from_at moves k < 64) × (to_at moves k < 64)

-- at most 192 transitions, between states below 64, and initial states that are so with the next state
pub record Small (heads moves : List ℕ) : Type 0 where
  pub few : transition_count moves ≤ 192
  pub heads_low : LowHeads heads (length heads)
  pub states_low : LowStates moves (transition_count moves)
