-- A fragment at another place has the same transitions with all states moved alike, and its states are numbered within its size.
use Rattle.std.specs.Prelude.{Bool, cond, ◌≡◌, length, get_or}
use Rattle.std.proofs.Math.Bool.{true, false}
use mathlib.Core.List.{List, [], ◌∷◌, ◌++◌}
use Rattle.std.proofs.Math.Path.{refl}
use Prim.Native.Nat.{ℕ, zero, suc, ◌+◌, ◌*◌, ◌<◌, ◌≤◌}
use Rattle.std.proofs.Common.{not-suc-le-zero, le_of_suc-le-suc, arith}
use Rattle.roles.specs.Role.{Chain, inv}
use Rattle.roles.specs.Rule.{Rule}
use Rattle.order.specs.Shape.{End, Shape}
use Rattle.order.specs.Shape.End.{initial, final}
use Rattle.order.specs.Shape.Shape.{transitive, symmetric, row}
use Rattle.tables.specs.Tables.{Transition, silent, state, shapes, has_symmetric, has_transitive, letters, back, rows_size, row_size, rows_transitions, row_transitions, size_of, transitions_of, numbers}
use Rattle.table_laying.specs.Fragment.{size-least}
use Rattle.table_laying.specs.Shifted.{Shifted}
use Rattle.table_laying.specs.Shifted.Shifted.{none, one}

module _ (d bound : ℕ) where
  shifted_append : {ts us : List Transition} → Shifted d bound ts us → (vs ws : List Transition) → Shifted d bound vs ws → Shifted d bound (ts ++ vs) (us ++ ws)
  shifted_append none vs ws b = b
  shifted_append (one f t e l g a) vs ws b = one f t e l g (shifted_append a vs ws b)

  shifted_one : (t u : Transition) → t.from < bound → t.to < bound → u.from ≡ t.from + d → u.label ≡ t.label → u.to ≡ t.to + d
      → (ts us : List Transition) → Shifted d bound ts us → Shifted d bound (t ∷ ts) (u ∷ us)
  shifted_one t u hf ht f l g ts us a = one hf ht f l g a

  state_shifted : (e : End) (i i' : ℕ) → i' ≡ i + d → state e i' ≡ state e i + d
  state_shifted initial i i' h = h
  state_shifted final i i' h = omega arith

  state-below : (e : End) (i : ℕ) → i + 2 ≤ bound → state e i < bound
  state-below initial i h = omega arith
  state-below final i h = omega arith

  module _ (size : ℕ → ℕ) (inside : ℕ → ℕ → List Transition) (least : (s : ℕ) → 2 ≤ size s)
      (shifted : (s at at' : ℕ) → at' ≡ at + d → at + size s ≤ bound → Shifted d bound (inside s at) (inside s at')) where
    row_shifted : (p p' q q' at at' : ℕ) (w : Chain) → p' ≡ p + d → q' ≡ q + d → at' ≡ at + d → p < bound → q < bound → at + row_size size w ≤ bound
        → Shifted d bound (row_transitions size inside p q at w) (row_transitions size inside p' q' at' w)
    unfolding row_transitions row_size
    row_shifted p p' q q' at at' [] ep eq ea hp hq h = shifted_one (silent p q) (silent p' q') hp hq ep refl eq [] [] none
    row_shifted p p' q q' at at' (s ∷ w) ep eq ea hp hq h =
        let l : 2 ≤ size s = least s in
        shifted_one (silent p at) (silent p' at') hp (omega arith) ep refl ea _ _
        (shifted_append (shifted s at at' ea (omega arith)) _ _
        (row_shifted (at + 1) (at' + 1) q q' (at + size s) (at' + size s) w (omega arith) eq (omega arith) (omega arith) hq (omega arith)))

    rows_shifted : (i i' at at' : ℕ) (ss : List Shape) → i' ≡ i + d → at' ≡ at + d → i + 2 ≤ bound → at + rows_size size ss ≤ bound
        → Shifted d bound (rows_transitions size inside i at ss) (rows_transitions size inside i' at' ss)
    unfolding rows_transitions rows_size
    rows_shifted i i' at at' [] ei ea hi h = none
    rows_shifted i i' at at' (transitive ∷ ss) ei ea hi h = rows_shifted i i' at at' ss ei ea hi h
    rows_shifted i i' at at' (symmetric ∷ ss) ei ea hi h = rows_shifted i i' at at' ss ei ea hi h
    rows_shifted i i' at at' (row f t w ∷ ss) ei ea hi h =
        shifted_append
        (row_shifted (state f i) (state f i') (state t i) (state t i') at at' w (state_shifted f i i' ei) (state_shifted t i i' ei) ea (state-below f i hi) (state-below t i hi) (omega arith)) _ _
        (rows_shifted i i' (at + row_size size w) (at' + row_size size w) ss ei (omega arith) hi (omega arith))

  abbrev letter : (r i : ℕ) → Transition
  letter r i = record { from = i; label = r; to = i + 1 }

  letters_shifted : (r i i' : ℕ) (ss : List Shape) → i' ≡ i + d → i + 2 ≤ bound → Shifted d bound (letters r i ss) (letters r i' ss)
  unfolding letters
  letters_shifted r i i' ss e h = shifted_one (letter r i) (letter r i') (omega arith) (omega arith) e refl (omega arith) _ _ (by_test (has_symmetric ss))
    where
      by_test : (t : Bool) → Shifted d bound (cond t (letter (inv r) i ∷ []) []) (cond t (letter (inv r) i' ∷ []) [])
      by_test true = shifted_one (letter (inv r) i) (letter (inv r) i') (omega arith) (omega arith) e refl (omega arith) [] [] none
      by_test false = none

  back_shifted : (i i' : ℕ) (ss : List Shape) → i' ≡ i + d → i + 2 ≤ bound → Shifted d bound (back i ss) (back i' ss)
  unfolding back
  back_shifted i i' ss e h = by_test (has_transitive ss)
    where
      by_test : (t : Bool) → Shifted d bound (cond t (silent (i + 1) i ∷ []) []) (cond t (silent (i' + 1) i' ∷ []) [])
      by_test true = shifted_one (silent (i + 1) i) (silent (i' + 1) i') (omega arith) (omega arith) (omega arith) refl e [] [] none
      by_test false = none

  pub fragment_shifted : (ρs : List Rule) (fuel r i i' : ℕ) → i' ≡ i + d → i + size_of ρs fuel r ≤ bound
      → Shifted d bound (transitions_of ρs fuel r i) (transitions_of ρs fuel r i')
  unfolding transitions_of size_of
  fragment_shifted ρs zero r i i' e h = none
  fragment_shifted ρs (suc fuel) r i i' e h =
      shifted_append (letters_shifted r i i' (shapes ρs r) e (omega arith)) _ _
      (shifted_append (back_shifted i i' (shapes ρs r) e (omega arith)) _ _
      (rows_shifted (size_of ρs fuel) (transitions_of ρs fuel) (size-least ρs fuel) (fragment_shifted ρs fuel) i i' (i + 2) (i' + 2) (shapes ρs r) e (omega arith) (omega arith) (omega arith)))

  -- the same by the numbers
  pub shifted_length : {ts us : List Transition} → Shifted d bound ts us → length us ≡ length ts
  shifted_length none = refl
  shifted_length (one f t e l g a) = rw (shifted_length a) refl

  pub record Moved (xs ys : List ℕ) (j : ℕ) : Type 0 where
    pub near : (get_or xs (3 * j) 0 < bound) × (get_or xs (3 * j + 2) 0 < bound)
    pub from : get_or ys (3 * j) 0 ≡ get_or xs (3 * j) 0 + d
    pub label : get_or ys (3 * j + 1) 0 ≡ get_or xs (3 * j + 1) 0
    pub to : get_or ys (3 * j + 2) 0 ≡ get_or xs (3 * j + 2) 0 + d

  past : (a b c : ℕ) (xs : List ℕ) (i j : ℕ) → i ≡ suc (suc (suc j)) → get_or (a ∷ b ∷ c ∷ xs) i 0 ≡ get_or xs j 0
  past a b c xs i j e = rw e refl

  moved-next : (a b c : ℕ) (xs : List ℕ) (a' b' c' : ℕ) (ys : List ℕ) (j : ℕ) → Moved xs ys j → Moved (a ∷ b ∷ c ∷ xs) (a' ∷ b' ∷ c' ∷ ys) (suc j)
  moved-next a b c xs a' b' c' ys j m =
      let e : 3 * suc j ≡ suc (suc (suc (3 * j))) = omega arith in
      let f : 3 * suc j + 1 ≡ suc (suc (suc (3 * j + 1))) = omega arith in
      let g : 3 * suc j + 2 ≡ suc (suc (suc (3 * j + 2))) = omega arith in
      record {
        near = (rw (past a b c xs _ _ e) m.near.0, rw (past a b c xs _ _ g) m.near.1);
        from = rw (past a b c xs _ _ e, past a' b' c' ys _ _ e) m.from;
        label = rw (past a b c xs _ _ f, past a' b' c' ys _ _ f) m.label;
        to = rw (past a b c xs _ _ g, past a' b' c' ys _ _ g) m.to;
      }

  pub shifted_moved : {ts us : List Transition} → Shifted d bound ts us → (j : ℕ) → j < length ts → Moved (numbers ts) (numbers us) j
  unfolding numbers
  shifted_moved none j h = absurd (not-suc-le-zero h)
  shifted_moved (one f t e l g a) zero h = record { near = (f, t); from = e; label = l; to = g }
  shifted_moved (one {t} {u} {ts} {us} hf ht e l g a) (suc j) h =
      moved-next t.from t.label t.to (numbers ts) u.from u.label u.to (numbers us) j (shifted_moved a j (le_of_suc-le-suc h))
