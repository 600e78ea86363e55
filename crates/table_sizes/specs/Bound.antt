-- How many transitions tables have: at most five for each two states.
use Rattle.std.specs.Prelude.{Bool, true, false, cond, ◌≡◌, refl, length}
use mathlib.Core.List.{List, [], ◌∷◌, Memᴰ}
use Prim.Native.Nat.{ℕ, zero, suc, ◌+◌, ◌*◌, ◌≤◌}
use native.Mathlib.Omega.{arith}
use Rattle.std.proofs.Math.ListN.{length-append}
use Rattle.roles.specs.Role.{Chain, inv}
use Rattle.roles.specs.Rule.{Rule}
use Rattle.order.specs.Shape.{End, Shape}
use Rattle.order.specs.Shape.Shape.{transitive, symmetric, row}
use Rattle.tables.specs.Tables.{Transition, silent, state, shapes, has_symmetric, has_transitive, letters, back, rows_size, row_size, rows_transitions, row_transitions, size_of, transitions_of, states_from, transitions_from}

-- every row of the shapes has an inner role
abbrev pub SomeInner : List Shape → Type 0
SomeInner ss = (f t : End) (w : Chain) → Memᴰ (row f t w) ss → w ≡ [] → ⊥

module _ (size : ℕ → ℕ) (inside : ℕ → ℕ → List Transition) (few : (s at : ℕ) → 2 * length (inside s at) + 4 ≤ 5 * size s) where
  row-few : (p q at : ℕ) (w : Chain) → 2 * length (row_transitions size inside p q at w) + 2 * length w ≤ 5 * row_size size w + 2
  unfolding row_transitions row_size
  row-few p q at [] = omega arith
  row-few p q at (s ∷ w) =
      rw (length-append (inside s at) (row_transitions size inside (at + 1) q (at + size s) w))
      (omega (arith, few s at, row-few (at + 1) q (at + size s) w))

  some-length : (w : Chain) → (w ≡ [] → ⊥) → 1 ≤ length w
  some-length [] h = absurd (h refl)
  some-length (s ∷ w) h = omega arith

  rows_few : (i at : ℕ) (ss : List Shape) → SomeInner ss → 2 * length (rows_transitions size inside i at ss) ≤ 5 * rows_size size ss
  unfolding rows_transitions rows_size
  rows_few i at [] some = omega arith
  rows_few i at (transitive ∷ ss) some = rows_few i at ss (λ f t w m. some f t w (Memᴰ.tail m))
  rows_few i at (symmetric ∷ ss) some = rows_few i at ss (λ f t w m. some f t w (Memᴰ.tail m))
  rows_few i at (row f t w ∷ ss) some =
      rw (length-append (row_transitions size inside (state f i) (state t i) at w) (rows_transitions size inside i (at + row_size size w) ss))
      (omega (
        arith,
        row-few (state f i) (state t i) at w,
        some-length w (some f t w (Memᴰ.head refl)),
        rows_few i (at + row_size size w) ss (λ f' t' w' m. some f' t' w' (Memᴰ.tail m)),
      ))

letters-few : (r i : ℕ) (ss : List Shape) → length (letters r i ss) ≤ 2
unfolding letters
letters-few r i ss = by_test (has_symmetric ss)
  where
    by_test : (t : Bool) → suc (length {A = Transition} (cond t (record { from = i; label = inv r; to = i + 1 } ∷ []) [])) ≤ 2
    by_test true = omega arith
    by_test false = omega arith

back-few : (i : ℕ) (ss : List Shape) → length (back i ss) ≤ 1
unfolding back
back-few i ss = by_test (has_transitive ss)
  where
    by_test : (t : Bool) → length (cond t (silent (i + 1) i ∷ []) []) ≤ 1
    by_test true = omega arith
    by_test false = omega arith

module _ (ρs : List Rule) (some : (r : ℕ) → SomeInner (shapes ρs r)) where
  pub fragment_few : (fuel r i : ℕ) → 2 * length (transitions_of ρs fuel r i) + 4 ≤ 5 * size_of ρs fuel r
  unfolding transitions_of size_of
  fragment_few zero r i = omega arith
  fragment_few (suc fuel) r i =
      rw (length-append (letters r i (shapes ρs r)) _, length-append (back i (shapes ρs r)) _)
      (omega (
        arith,
        letters-few r i (shapes ρs r),
        back-few i (shapes ρs r),
        rows_few (size_of ρs fuel) (transitions_of ρs fuel) (λ s at. fragment_few fuel s at) i (i + 2) (shapes ρs r) (some r),
      ))

  pub roots_few : (fuel left x at : ℕ) → 2 * length (transitions_from ρs fuel left x at) ≤ 5 * states_from ρs fuel left x
  unfolding transitions_from states_from
  roots_few fuel zero x at = omega arith
  roots_few fuel (suc left) x at =
      rw (length-append (transitions_of ρs fuel (2 * x) at) (transitions_from ρs fuel left (suc x) (at + size_of ρs fuel (2 * x))))
      (omega (arith, fragment_few fuel (2 * x) at, roots_few fuel left (suc x) (at + size_of ρs fuel (2 * x))))
