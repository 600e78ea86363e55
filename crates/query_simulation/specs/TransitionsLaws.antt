-- What numbers spell at a number is one of their transitions, and each of these has a number.
use mathlib.Core.List.Memᴰ
use Rattle.std.specs.Prelude.{List, [], ◌∷◌, ◌⊎◌, ◌≡◌, refl, ℕ, zero, suc, ◌+◌, ◌*◌, ◌<◌, get_or}
use Rattle.std.proofs.Common.{inl, inr, sym, ap, ◌∙◌, arith}
use Rattle.tables.specs.Tables.{Transition}
use Rattle.query_causes.specs.Query.{transitions_in}
use Rattle.query_simulation.specs.Transitions.{from_at, label_at, to_at, transition_count, arrow, Arrow}

-- what numbers spell at a place is what they spell there after three more
shift : (p a q : ℕ) (ms : List ℕ) (k i : ℕ) → get_or (p ∷ a ∷ q ∷ ms) (3 * suc k + i) 0 ≡ get_or ms (3 * k + i) 0
shift p a q ms k i = let e : 3 * suc k + i ≡ suc (suc (suc (3 * k + i))) = omega arith in rw e refl

shift_from : (p a q : ℕ) (ms : List ℕ) (k : ℕ) → from_at (p ∷ a ∷ q ∷ ms) (suc k) ≡ from_at ms k
shift_from p a q ms k = let e : 3 * suc k ≡ suc (suc (suc (3 * k))) = omega arith in rw e refl

-- a transition by its number
pub arrow-at : (moves : List ℕ) (k : ℕ) → k < transition_count moves → Arrow moves (from_at moves k) (label_at moves k) (to_at moves k)
unfolding transitions_in
arrow-at [] k h = absurd (omega arith)
arrow-at (p ∷ []) k h = absurd (omega arith)
arrow-at (p ∷ a ∷ []) k h = absurd (omega arith)
arrow-at (p ∷ a ∷ q ∷ ms) zero h = Memᴰ.head refl
arrow-at (p ∷ a ∷ q ∷ ms) (suc k) h =
    rw (shift_from p a q ms k, shift p a q ms k 1, shift p a q ms k 2) (Memᴰ.tail (arrow-at ms k (omega arith)))

-- the number of a transition
pub record Numbered (moves : List ℕ) (p a q : ℕ) : Type 0 where
  pub number : ℕ
  pub inside : number < transition_count moves
  pub from_is : from_at moves number ≡ p
  pub label_is : label_at moves number ≡ a
  pub to_is : to_at moves number ≡ q

pub numbered : (moves : List ℕ) (p a q : ℕ) → Arrow moves p a q → Numbered moves p a q
unfolding transitions_in
numbered [] p a q m = absurd (Memᴰ.not-nil m)
numbered (x ∷ []) p a q m = absurd (Memᴰ.not-nil m)
numbered (x ∷ y ∷ []) p a q m = absurd (Memᴰ.not-nil m)
numbered (x ∷ y ∷ z ∷ ms) p a q m = by_place (λ (n : Arrow ms p a q). numbered ms p a q n) (Memᴰ.cases_cons m)
  where
    by_place : (Arrow ms p a q → Numbered ms p a q) → (arrow p a q ≡ arrow x y z) ⊎ Arrow ms p a q → Numbered (x ∷ y ∷ z ∷ ms) p a q
    by_place later (inl e) =
        record {
          number = 0;
          inside = omega arith;
          from_is = ap (λ (m : Transition). m.from) (sym e);
          label_is = ap (λ (m : Transition). m.label) (sym e);
          to_is = ap (λ (m : Transition). m.to) (sym e);
        }
    by_place later (inr n) =
        let r : Numbered ms p a q = later n in
        record {
          number = suc r.number;
          inside = omega (arith, r.inside);
          from_is = shift_from x y z ms r.number ∙ r.from_is;
          label_is = shift x y z ms r.number 1 ∙ r.label_is;
          to_is = shift x y z ms r.number 2 ∙ r.to_is;
        }
