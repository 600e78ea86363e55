-- The transitions of a fragment in the pieces that a builder lays: rows of some shapes and then of others; three numbers for each transition.
use Rattle.std.specs.Prelude.{Bool, true, false, cond, ◌≡◌, ℕ, zero, suc, ◌+◌, ◌*◌, length}
use Rattle.std.proofs.lemmas.Bool.{false≢true}
use mathlib.Core.List.{List, [], ◌∷◌, ◌++◌, append_assoc}
use Rattle.std.proofs.Math.Path.{refl}
use Rattle.std.proofs.Common.{sym, ap, add_assoc}
use Rattle.std.proofs.Math.Nat.{add-zero}
use native.Mathlib.Omega.{arith}
use Rattle.roles.specs.Role.{inv}
use Rattle.roles.specs.Rule.{Rule}
use Rattle.order.specs.Shape.{Shape}
use Rattle.order.specs.Shape.Shape.{transitive, symmetric, row}
use Rattle.tables.specs.Tables.{Transition, state, own_shapes, shapes, has_symmetric, rows_size, row_size, rows_transitions, row_transitions, size_of, roots_from, numbers}

pub numbers_append : (ms ns : List Transition) → numbers (ms ++ ns) ≡ numbers ms ++ numbers ns
unfolding numbers
numbers_append [] ns = refl
numbers_append (m ∷ ms) ns = ap (λ (l : List ℕ). m.from ∷ m.label ∷ m.to ∷ l) (numbers_append ms ns)

pub length-numbers : (ms : List Transition) → length (numbers ms) ≡ 3 * length ms
unfolding numbers
length-numbers [] = refl
length-numbers (m ∷ ms) = rw (length-numbers ms) (omega arith)

-- an initial state for each root
pub length-roots : (ρs : List Rule) (fuel left x at : ℕ) → length (roots_from ρs fuel left x at) ≡ left
unfolding roots_from
length-roots ρs fuel zero x at = refl
length-roots ρs fuel (suc left) x at = ap suc (length-roots ρs fuel left (suc x) (at + size_of ρs fuel (2 * x)))

module _ (size : ℕ → ℕ) where
  pub rows_size_append : (ss ts : List Shape) → rows_size size (ss ++ ts) ≡ rows_size size ss + rows_size size ts
  unfolding rows_size
  rows_size_append [] ts = omega arith
  rows_size_append (transitive ∷ ss) ts = rows_size_append ss ts
  rows_size_append (symmetric ∷ ss) ts = rows_size_append ss ts
  rows_size_append (row f t w ∷ ss) ts = rw (rows_size_append ss ts) (omega arith)

  module _ (inside : ℕ → ℕ → List Transition) where
    pub rows_transitions_append : (i at : ℕ) (ss ts : List Shape) → rows_transitions size inside i at (ss ++ ts)
        ≡ rows_transitions size inside i at ss ++ rows_transitions size inside i (at + rows_size size ss) ts
    unfolding rows_transitions rows_size
    rows_transitions_append i at [] ts = rw add-zero refl
    rows_transitions_append i at (transitive ∷ ss) ts = rows_transitions_append i at ss ts
    rows_transitions_append i at (symmetric ∷ ss) ts = rows_transitions_append i at ss ts
    rows_transitions_append i at (row f t w ∷ ss) ts =
        rw (rows_transitions_append i (at + row_size size w) ss ts, add_assoc)
        (sym (append_assoc (row_transitions size inside (state f i) (state t i) at w) _ _))

has_symmetric_append : (ss ts : List Shape) → has_symmetric ss ≡ true → has_symmetric (ss ++ ts) ≡ true
unfolding has_symmetric
has_symmetric_append [] ts h = absurd (false≢true h)
has_symmetric_append (transitive ∷ ss) ts h = has_symmetric_append ss ts h
has_symmetric_append (symmetric ∷ ss) ts h = refl
has_symmetric_append (row f t w ∷ ss) ts h = has_symmetric_append ss ts h

-- a role is symmetric by its own rules
pub has_symmetric-shapes : (ρs : List Rule) (r : ℕ) → has_symmetric (shapes ρs r) ≡ has_symmetric (own_shapes ρs r)
unfolding shapes
has_symmetric-shapes ρs r = by_test (has_symmetric (own_shapes ρs r)) refl
  where
    by_test : (t : Bool) → has_symmetric (own_shapes ρs r) ≡ t → has_symmetric (cond t (own_shapes ρs r ++ own_shapes ρs (inv r)) (own_shapes ρs r)) ≡ t
    by_test true h = has_symmetric_append (own_shapes ρs r) (own_shapes ρs (inv r)) h
    by_test false h = h
