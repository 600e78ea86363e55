-- The tables of a book as lists (document 01, "Tables"): for each role a fragment (document 01: a copy of the role), an automaton of two states
-- and, for each inner role of its rules, an inner fragment (an inner copy). The roots, a fragment for each name (root copies), stand in name
-- order. State numbers are given depth first; transitions stand in the order that document 01 lays down.
use Rattle.std.specs.Prelude.{Bool, true, false, cond, List, [], ◌∷◌, ◌++◌, map, ℕ, zero, suc, ◌+◌, ◌*◌, eqb}
use Rattle.roles.specs.Role.{Chain, inv}
use Rattle.roles.specs.Rule.{Rule, inverse}
use Rattle.order.specs.Shape.{End, Shape, shape}
use Rattle.order.specs.Shape.End.{initial, final}
use Rattle.order.specs.Shape.Shape.{transitive, symmetric, row}

-- a transition; the label is a role, or 128 for a silent one
pub record Transition : Type 0 where
  pub from : ℕ
  pub label : ℕ
  pub to : ℕ

abbrev pub epsilon : ℕ
epsilon = 128

abbrev pub silent : ℕ → ℕ → Transition
silent p q = record { from = p; label = epsilon; to = q }

-- the rules of a role among the completed ones, in book order: a rule whose right role it is, or the inverse of one
unfoldable pub rules_of : List Rule → ℕ → List Rule
rules_of [] r = []
rules_of (ρ ∷ ρs) r =
    cond (eqb ρ.right r) (ρ ∷ rules_of ρs r)
    (cond (eqb (inv ρ.right) r) (inverse ρ ∷ rules_of ρs r)
    (rules_of ρs r))

abbrev pub own_shapes : List Rule → ℕ → List Shape
own_shapes ρs r = map shape (rules_of ρs r)

-- whether a list of shapes has form 5, or form 4
unfoldable pub has_symmetric : List Shape → Bool
has_symmetric [] = false
has_symmetric (transitive ∷ ss) = has_symmetric ss
has_symmetric (symmetric ∷ ss) = true
has_symmetric (row f t w ∷ ss) = has_symmetric ss

unfoldable pub has_transitive : List Shape → Bool
has_transitive [] = false
has_transitive (transitive ∷ ss) = true
has_transitive (symmetric ∷ ss) = has_transitive ss
has_transitive (row f t w ∷ ss) = has_transitive ss

-- the shapes that make up a fragment of r: those of r's rules and, if r is symmetric, those of the inverse's
unfoldable pub shapes : List Rule → ℕ → List Shape
shapes ρs r = cond (has_symmetric (own_shapes ρs r)) (own_shapes ρs r ++ own_shapes ρs (inv r)) (own_shapes ρs r)

-- the number of a fragment's state, for the fragment at a place i
abbrev pub state : End → ℕ → ℕ
state initial i = i
state final i = i + 1

-- how many states the inner fragments of a row take, and those of all rows, where an inner fragment of s takes size s
module _ (size : ℕ → ℕ) where
  unfoldable pub row_size : Chain → ℕ
  row_size [] = 0
  row_size (s ∷ w) = size s + row_size w

  unfoldable pub rows_size : List Shape → ℕ
  rows_size [] = 0
  rows_size (transitive ∷ ss) = rows_size ss
  rows_size (symmetric ∷ ss) = rows_size ss
  rows_size (row f t w ∷ ss) = row_size w + rows_size ss

  -- the transitions of rows, where an inner fragment of s at a place has those of inside s
  module _ (inside : ℕ → ℕ → List Transition) where
    -- a row that has reached the state p and leads to q, its next inner fragment at a place: into each inner fragment's initial state,
    -- through it, and out of the last one's final state
    unfoldable pub row_transitions : (p q at : ℕ) → Chain → List Transition
    row_transitions p q at [] = silent p q ∷ []
    row_transitions p q at (s ∷ w) = silent p at ∷ (inside s at ++ row_transitions (at + 1) q (at + size s) w)

    -- the rows of the fragment at a place i, the next inner fragment at another
    unfoldable pub rows_transitions : (i at : ℕ) → List Shape → List Transition
    rows_transitions i at [] = []
    rows_transitions i at (transitive ∷ ss) = rows_transitions i at ss
    rows_transitions i at (symmetric ∷ ss) = rows_transitions i at ss
    rows_transitions i at (row f t w ∷ ss) = row_transitions (state f i) (state t i) at w ++ rows_transitions i (at + row_size w) ss

-- a fragment's letters: r and, if it is symmetric, inv(r), from initial to final
unfoldable pub letters : (r i : ℕ) → List Shape → List Transition
letters r i ss =
    record { from = i; label = r; to = i + 1 }
    ∷ cond (has_symmetric ss) (record { from = i; label = inv r; to = i + 1 } ∷ []) []

-- the transition back, if form 4 is present
unfoldable pub back : ℕ → List Shape → List Transition
back i ss = cond (has_transitive ss) (silent (i + 1) i ∷ []) []

module _ (ρs : List Rule) where
  -- the size of a fragment of r and its transitions at a place, where inner roles are nested less deep than the fuel. The names of a
  -- book are fuel enough where it has a regular order
  unfoldable pub size_of : (fuel r : ℕ) → ℕ
  size_of zero r = 2
  size_of (suc fuel) r = 2 + rows_size (size_of fuel) (shapes ρs r)

  unfoldable pub transitions_of : (fuel r i : ℕ) → List Transition
  transitions_of zero r i = []
  transitions_of (suc fuel) r i =
      letters r i (shapes ρs r)
      ++ (back i (shapes ρs r) ++ rows_transitions (size_of fuel) (transitions_of fuel) i (i + 2) (shapes ρs r))

  -- the roots of the names from x on, as many as are left, in name order: where each stands, and their transitions
  unfoldable pub roots_from : (fuel left x at : ℕ) → List ℕ
  roots_from fuel zero x at = []
  roots_from fuel (suc left) x at = at ∷ roots_from fuel left (suc x) (at + size_of fuel (2 * x))

  unfoldable pub transitions_from : (fuel left x at : ℕ) → List Transition
  transitions_from fuel zero x at = []
  transitions_from fuel (suc left) x at =
      transitions_of fuel (2 * x) at ++ transitions_from fuel left (suc x) (at + size_of fuel (2 * x))

  unfoldable pub states_from : (fuel left x : ℕ) → ℕ
  states_from fuel zero x = 0
  states_from fuel (suc left) x = size_of fuel (2 * x) + states_from fuel left (suc x)

-- the tables of a book of n names: the initial states of the roots (document 01: heads), the transitions (moves) and the number of states
abbrev pub initial_states : ℕ → List Rule → List ℕ
initial_states n ρs = roots_from ρs n n 0 0

abbrev pub transitions : ℕ → List Rule → List Transition
transitions n ρs = transitions_from ρs n n 0 0

abbrev pub state_count : ℕ → List Rule → ℕ
state_count n ρs = states_from ρs n n 0

-- three numbers for each transition
unfoldable pub numbers : List Transition → List ℕ
numbers [] = []
numbers (m ∷ ms) = m.from ∷ m.label ∷ m.to ∷ numbers ms
