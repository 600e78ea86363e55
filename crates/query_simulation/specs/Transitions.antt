-- The transitions that numbers spell, three for each, by their number.
use mathlib.Core.List.{List, Memᴰ}
use Rattle.std.specs.Prelude.{ℕ, ◌+◌, ◌*◌, ◌/◌, ◌<◌, ◌≤◌, length, get_or}
use Rattle.tables.specs.Tables.{Transition, epsilon}
use Rattle.query_causes.specs.Query.{transitions_in}

abbrev pub from_at : List ℕ → ℕ → ℕ
from_at moves k = get_or moves (3 * k) 0

abbrev pub label_at : List ℕ → ℕ → ℕ
label_at moves k = get_or moves (3 * k + 1) 0

abbrev pub to_at : List ℕ → ℕ → ℕ
to_at moves k = get_or moves (3 * k + 2) 0

-- how many transitions numbers spell
abbrev pub transition_count : List ℕ → ℕ
transition_count moves = length moves / 3

abbrev pub arrow : (p a q : ℕ) → Transition
arrow p a q = record { from = p; label = a; to = q }

-- the numbers spell a transition from p to q with the label a
abbrev pub Arrow : List ℕ → (p a q : ℕ) → Type 0
Arrow moves p a q = Memᴰ (arrow p a q) (transitions_in moves)

-- transition k is between states below some room, and its label is a letter or silent
pub record Fits (room : ℕ) (moves : List ℕ) (k : ℕ) : Type 0 where
  pub from_fits : from_at moves k < room
  pub label_fits : label_at moves k ≤ epsilon
  pub to_fits : to_at moves k < room

-- each of the first n is so
abbrev pub FirstFit : (room : ℕ) (moves : List ℕ) (n : ℕ) → Type 0
FirstFit room moves n = (k : ℕ) → k < n → Fits room moves k

-- all are
abbrev pub Fit : (room : ℕ) (moves : List ℕ) → Type 0
Fit room moves = FirstFit room moves (transition_count moves)
