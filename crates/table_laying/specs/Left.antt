-- Laying a row, one inner role after another: what is left, laid from the place reached, lays the whole. The rows of shapes, one after another.
use Rattle.std.specs.Prelude.{List, [], ◌∷◌, ◌≡◌, ℕ, suc, ◌+◌, ◌<◌, ◌≤◌, length, get_or, drop}
use Rattle.std.proofs.Common.{sym, ap, subst, arith, drop_of_length-le, drop-cons}
use Rattle.roles.specs.Role.{Chain}
use Rattle.order.specs.Shape.{Shape}
use Rattle.tables.specs.Tables.{Transition, silent, row_size, rows_size, row_transitions, rows_transitions}
use Rattle.table_laying.specs.Pieces.{rows_size_append, rows_transitions_append}
use Rattle.table_laying.specs.Laid.{Laid, laid_both, laid-row, laid-row-end}

module _ (size : ℕ → ℕ) (inside : ℕ → ℕ → List Transition) where
  -- a row of the inner roles w, begun at a place; the roles from i on are left, the state reached and the place
  pub record RowLeft (w : Chain) (from to p k : ℕ) (m : List ℕ) (i reached q l : ℕ) (n : List ℕ) : Type 0 where
    pub whole : (r j : ℕ) (o : List ℕ) → Laid (row_size size (drop i w)) (row_transitions size inside reached to q (drop i w)) q l n r j o
        → Laid (row_size size w) (row_transitions size inside from to p w) p k m r j o

  pub row-left-start : (w : Chain) (from to p k : ℕ) (m : List ℕ) → RowLeft w from to p k m 0 from p k m
  row-left-start w from to p k m = record { whole = λ r j o a. a }

  module _ (w : Chain) (from to p k : ℕ) (m : List ℕ) (i reached q l : ℕ) (n : List ℕ) (a : RowLeft w from to p k m i reached q l n) where
    -- into the next inner fragment and through it
    pub row-left-next : i < length w → (q₁ l₁ : ℕ) (n₁ : List ℕ) → q₁ ≡ q → Laid 0 (silent reached q ∷ []) q l n q₁ l₁ n₁
        → (s : ℕ) → s ≡ get_or w i 0 → (q₂ l₂ : ℕ) (n₂ : List ℕ) → Laid (size s) (inside s q₁) q₁ l₁ n₁ q₂ l₂ n₂
        → RowLeft w from to p k m (i + 1) (q + 1) q₂ l₂ n₂
    row-left-next h q₁ l₁ n₁ e t s f q₂ l₂ n₂ b =
        let g : i + 1 ≡ suc i = omega arith in
        record {
          whole = λ r j o c.
              a.whole r j o
              (rw (drop-cons w i 0 h, ← f)
              (laid-row size inside s (drop (suc i) w) reached to q l n l₁ n₁ q₂ l₂ n₂ r j o (rw e at t) (rw e at b) (rw g at c)));
        }

    -- out of the last one
    pub row-left-end : length w ≤ i → (q₁ l₁ : ℕ) (n₁ : List ℕ) → q₁ ≡ q → Laid 0 (silent reached to ∷ []) q l n q₁ l₁ n₁
        → Laid (row_size size w) (row_transitions size inside from to p w) p k m q₁ l₁ n₁
    row-left-end h q₁ l₁ n₁ e t =
        a.whole q₁ l₁ n₁
        (rw (drop_of_length-le w {i = i} h, e) (laid-row-end size inside reached to q l n l₁ n₁ (rw e at t)))

  -- the rows of a shape in front of those of others
  pub laid-shapes : (i : ℕ) (s : Shape) (ts : List Shape) (q l : ℕ) (n : List ℕ) (q₁ l₁ : ℕ) (n₁ : List ℕ) (r j : ℕ) (o : List ℕ)
      → Laid (rows_size size (s ∷ [])) (rows_transitions size inside i q (s ∷ [])) q l n q₁ l₁ n₁
      → Laid (rows_size size ts) (rows_transitions size inside i q₁ ts) q₁ l₁ n₁ r j o
      → Laid (rows_size size (s ∷ ts)) (rows_transitions size inside i q (s ∷ ts)) q l n r j o
  laid-shapes i s ts q l n q₁ l₁ n₁ r j o a b =
      subst (λ (z : ℕ). Laid z (rows_transitions size inside i q (s ∷ ts)) q l n r j o) (sym (rows_size_append size (s ∷ []) ts))
      (subst (λ (us : List Transition). Laid (rows_size size (s ∷ []) + rows_size size ts) us q l n r j o)
      (sym (rows_transitions_append size inside i q (s ∷ []) ts))
      (laid_both (rows_size size (s ∷ [])) (rows_size size ts) (rows_transitions size inside i q (s ∷ [])) (rows_transitions size inside i q₁ ts)
      (rows_transitions size inside i (q + rows_size size (s ∷ [])) ts) q l n q₁ l₁ n₁ r j o a b
      (λ e. ap (λ (v : ℕ). rows_transitions size inside i v ts) e)))
