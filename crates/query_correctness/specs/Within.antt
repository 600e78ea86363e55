-- The states of tables are below their number, and their labels are those of transitions.
use mathlib.Core.List.{List, [], ◌∷◌}
use mathlib.Core.List.Memᴰ
use Rattle.std.specs.Prelude.{refl}
use Prim.Native.Nat.{ℕ, zero, suc, ◌+◌, ◌*◌, ◌<◌, ◌≤◌}
use native.Mathlib.Omega.{arith}
use Rattle.roles.specs.Role.{Chain}
use Rattle.roles.specs.Rule.{Rule}
use Rattle.roles.specs.Named.{Named}
use Rattle.order.specs.Shape.{End, Shape}
use Rattle.order.specs.Shape.End.{initial, final}
use Rattle.order.specs.Shape.Shape.{transitive, symmetric, row}
use Rattle.tables.specs.Tables.{Transition, state, shapes, has_symmetric, has_transitive, letters, back, rows_size, row_size, rows_transitions, row_transitions, size_of, transitions_of, roots_from, states_from, transitions_from}
use Rattle.table_laying.specs.Fragment.{size-least}
use Rattle.base.specs.Every.{Every, every_nil, every_cons, every_tail, every_append, every_if}
use Rattle.table_automata.specs.InnerNamed.{Below, InnerBelow, below-shapes, role-letter, inv-letter}

-- the states are below a bound, and the label is a role or silent
abbrev pub Within : ℕ → Transition → Type 0
Within bound m = (m.from < bound) × (m.label ≤ 128) × (m.to < bound)

module _ (n bound : ℕ) (few : n ≤ 64) where
  state-within : (e : End) (i : ℕ) → i + 2 ≤ bound → state e i < bound
  state-within initial i h = omega arith
  state-within final i h = omega arith

  module _ (size : ℕ → ℕ) (inside : ℕ → ℕ → List Transition) (least : (s : ℕ) → 2 ≤ size s)
      (within : (s at : ℕ) → s < 2 * n → at + size s ≤ bound → Every (Within bound) (inside s at)) where
    row_within : (p q at : ℕ) (w : Chain) → p < bound → q < bound → at + row_size size w ≤ bound → Below n w
        → Every (Within bound) (row_transitions size inside p q at w)
    unfolding row_transitions row_size
    row_within p q at [] hp hq h b = every_cons (Within bound) (hp, omega arith, hq) (every_nil (Within bound))
    row_within p q at (s ∷ w) hp hq h b =
        let l : 2 ≤ size s = least s in
        every_cons (Within bound) (hp, omega arith, omega arith)
        (every_append (Within bound) (inside s at) (within s at (b s (Memᴰ.head refl)) (omega arith))
        (row_within (at + 1) q (at + size s) w (omega arith) hq (omega arith) (λ t m. b t (Memᴰ.tail m))))

    rows-within : (i at : ℕ) (ss : List Shape) → i + 2 ≤ bound → at + rows_size size ss ≤ bound → Every (InnerBelow n) ss
        → Every (Within bound) (rows_transitions size inside i at ss)
    unfolding rows_transitions rows_size
    rows-within i at [] hi h b = every_nil (Within bound)
    rows-within i at (transitive ∷ ss) hi h b = rows-within i at ss hi h (every_tail (InnerBelow n) b)
    rows-within i at (symmetric ∷ ss) hi h b = rows-within i at ss hi h (every_tail (InnerBelow n) b)
    rows-within i at (row f t w ∷ ss) hi h b =
        every_append (Within bound) (row_transitions size inside (state f i) (state t i) at w)
        (row_within (state f i) (state t i) at w (state-within f i hi) (state-within t i hi) (omega arith) (b (row f t w) (Memᴰ.head refl)))
        (rows-within i (at + row_size size w) ss hi (omega arith) (every_tail (InnerBelow n) b))

  letters-within : (r i : ℕ) (ss : List Shape) → r < 2 * n → i + 2 ≤ bound → Every (Within bound) (letters r i ss)
  unfolding letters
  letters-within r i ss hr h =
      every_cons (Within bound) (omega arith, omega (arith, role-letter n few r hr), omega arith)
      (every_if (Within bound) (has_symmetric ss)
      (λ e. every_cons (Within bound) (omega arith, omega (arith, inv-letter n few r hr), omega arith) (every_nil (Within bound))))

  back-within : (i : ℕ) (ss : List Shape) → i + 2 ≤ bound → Every (Within bound) (back i ss)
  unfolding back
  back-within i ss h =
      every_if (Within bound) (has_transitive ss) (λ e. every_cons (Within bound) (omega arith, omega arith, omega arith) (every_nil (Within bound)))

  module _ (ρs : List Rule) (named : Named n ρs) where
    fragment_within : (fuel r i : ℕ) → r < 2 * n → i + size_of ρs fuel r ≤ bound → Every (Within bound) (transitions_of ρs fuel r i)
    unfolding transitions_of size_of
    fragment_within zero r i hr h = every_nil (Within bound)
    fragment_within (suc fuel) r i hr h =
        every_append (Within bound) (letters r i (shapes ρs r)) (letters-within r i (shapes ρs r) hr (omega arith))
        (every_append (Within bound) (back i (shapes ρs r)) (back-within i (shapes ρs r) (omega arith))
        (rows-within (size_of ρs fuel) (transitions_of ρs fuel) (size-least ρs fuel) (fragment_within fuel) i (i + 2) (shapes ρs r) (omega arith) (omega arith)
        (below-shapes n ρs named r)))

    pub roots-within : (fuel left x at : ℕ) → x + left ≤ n → at + states_from ρs fuel left x ≤ bound
        → Every (Within bound) (transitions_from ρs fuel left x at)
    unfolding transitions_from states_from
    roots-within fuel zero x at hx h = every_nil (Within bound)
    roots-within fuel (suc left) x at hx h =
        every_append (Within bound) (transitions_of ρs fuel (2 * x) at) (fragment_within fuel (2 * x) at (omega arith) (omega arith))
        (roots-within fuel left (suc x) (at + size_of ρs fuel (2 * x)) (omega arith) (omega arith))

    -- the initial state of each root is below the number of states, and so is the state after it
    pub heads-within : (fuel left x at : ℕ) → at + states_from ρs fuel left x ≤ bound
        → Every (λ (h : ℕ). h + 2 ≤ bound) (roots_from ρs fuel left x at)
    unfolding roots_from states_from
    heads-within fuel zero x at h = every_nil (λ (h : ℕ). h + 2 ≤ bound)
    heads-within fuel (suc left) x at h =
        every_cons (λ (h : ℕ). h + 2 ≤ bound) (omega (arith, size-least ρs fuel (2 * x)))
        (heads-within fuel left (suc x) (at + size_of ρs fuel (2 * x)) (omega arith))
