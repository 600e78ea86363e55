-- An index of transitions by their from state, letters apart from silent ones, in an array of its own: two lists for each state below some room.
use Rattle.std.specs.Prelude.{List, ℕ, ◌+◌, ◌*◌, ◌≤◌, length}
use Rattle.linked_lists.specs.LinkedLists.{Linked}
use Rattle.query_simulation.specs.TransitionIndex.{slot_at}
use Rattle.query_simulation.specs.Transitions.{transition_count, Fit}

-- of transitions between states below the room, the first n are in the index
pub record Indexed (room : ℕ) (moves index : List ℕ) (n : ℕ) : Type 0 where
  pub low : room ≤ 2048
  pub fit : Fit room moves
  pub few : transition_count moves ≤ 5120
  pub size : 2 * room + transition_count moves ≤ length index
  pub linked : Linked (slot_at moves) (2 * room) index n
