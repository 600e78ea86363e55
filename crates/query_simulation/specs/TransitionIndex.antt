-- An index of transitions by their from state, letters apart from silent ones: lists that run through one array, behind the sets of states.
use Rattle.std.specs.Prelude.{Bool, true, cond, ◌||◌, List, ◌≡◌, ℕ, ◌+◌, ◌*◌, ◌-◌, ◌/◌, ◌<◌, ◌≤◌, leb, length, drop}
use Rattle.tables.specs.Tables.{epsilon}
use Rattle.linked_lists.specs.LinkedLists.{Linked}
use Rattle.query_simulation.specs.States.{Member, States, Unused, Added}
use Rattle.query_simulation.specs.Transitions.{from_at, label_at, to_at, transition_count, Arrow, FirstFit, Fit}

-- which list has the transitions from p with the label a: two for each state, the second for silent ones
abbrev pub slot : (p a : ℕ) → ℕ
slot p a = 2 * p + a / epsilon

abbrev pub slot_at : List ℕ → ℕ → ℕ
slot_at moves k = slot (from_at moves k) (label_at moves k)

-- where the list of transition k begins behind sets of a room; 0 where there is no such transition, or one of its states is not below the room
abbrev pub list_of : (room : ℕ) (moves : List ℕ) (k : ℕ) → ℕ
list_of room moves k =
    cond (leb (transition_count moves) k || (leb room (from_at moves k) || leb room (to_at moves k))) 0 (3 * room + slot_at moves k)

module _ (room : ℕ) where
  -- the index of the first n transitions stands behind the sets
  pub record Indexed (moves s : List ℕ) (n : ℕ) : Type 0 where
    pub fit : FirstFit room moves n
    pub space : 5 * room + transition_count moves ≤ length s
    pub short : length s ≤ 15360
    pub linked : Linked (slot_at moves) (2 * room) (drop (3 * room) s) n

  -- the sets are empty under the stamp, and the first n transitions are in the index
  pub record Prepared (stamp : ℕ) (moves : List ℕ) (n : ℕ) (s : List ℕ) : Type 0 where
    pub unused : Unused room stamp s
    pub indexed : Indexed moves s n

  -- whether every transition is between states below the room, and then all are in the index
  pub record Filled (moves s : List ℕ) (b : Bool) : Type 0 where
    pub all : Fit room moves → b ≡ true
    pub prepared : b ≡ true → Prepared 1 moves (transition_count moves) s

  -- the newest set, and the index of all transitions behind it
  pub record Active (stamp list : ℕ) (moves s : List ℕ) (count : ℕ) : Type 0 where
    pub good : States room stamp s list count
    pub indexed : Indexed moves s (transition_count moves)

  -- t is s with the state to which transition k leads, if it has the label a
  pub record Met (stamp list : ℕ) (moves : List ℕ) (k a : ℕ) (s : List ℕ) (count : ℕ) (t : List ℕ) (more : ℕ) : Type 0 where
    pub added : Added room stamp list s count t more (λ q. (label_at moves k ≡ a) × (q ≡ to_at moves k))
    pub there : label_at moves k ≡ a → Member t list more (to_at moves k)

  module _ (stamp list : ℕ) (moves : List ℕ) (x a : ℕ) where
    -- t is s with the states to which transitions with the label a lead from the state that has the list x, of those from number n on
    pub record Spread (n : ℕ) (s : List ℕ) (count : ℕ) (t : List ℕ) (more : ℕ) : Type 0 where
      pub added : Added room stamp list s count t more (λ q. (p : ℕ) → slot p a ≡ x → Arrow moves p a q)
      pub there : (k : ℕ) → n ≤ k → k < transition_count moves → slot_at moves k ≡ x → label_at moves k ≡ a → Member t list more (to_at moves k)

    -- a walk along the list x: the transitions before the entry are left
    pub record Walked (entry : ℕ) (s : List ℕ) (count : ℕ) (t : List ℕ) (more : ℕ) : Type 0 where
      pub low : entry ≤ transition_count moves
      pub own : 0 < entry → slot_at moves (entry - 1) ≡ x
      pub spread : Spread entry s count t more
