-- A fragment laid again as a memo has it: its size and its number of transitions, and its numbers copied with its states moved.
use Rattle.std.specs.Prelude.{List, ◌≡◌, ℕ, ◌+◌, ◌-◌, ◌*◌, ◌<◌, ◌≤◌, length, get_or}
use Rattle.std.proofs.Common.{sym, ap, ◌∙◌, zero-add, arith}
use Rattle.std.proofs.lemmas.List.Edits.{sets}
use Rattle.tables.specs.Tables.{Transition, numbers}
use Rattle.table_laying.specs.Pieces.{length-numbers}
use Rattle.table_laying.specs.Fragment.{laid-over}
use Rattle.table_laying.specs.ShiftedLaws.{Moved, shifted_length, shifted_moved}
use Rattle.table_writer.specs.Adding.{Lays}
use Rattle.table_builder.specs.Memo.{size_in, start_in, count_in, state_in, Sound, Kept, Held, Copied}
use Rattle.table_writer.specs.declared.Place.{Place}

-- the numbers of a role as they were read
pub held_kept : (memo : List ℕ) (r : ℕ) {p : Place} {n : List ℕ} {z : ℕ} {at : ℕ → List Transition} → Held memo r p n z at
    → {size start count state : ℕ} → size ≡ size_in memo r → start ≡ start_in memo r → count ≡ count_in memo r → state ≡ state_in memo r
    → Kept size start count state p n z at
held_kept memo r k a b c d = rw (a, b, c, d) k

module _ {size start count state : ℕ} {p : Place} {n : List ℕ} {z : ℕ} {at : ℕ → List Transition} (k : Kept size start count state p n z at) where
  here : length (at p.state) ≡ count
  here = from_zero p.state ∙ (sym (from_zero state) ∙ k.many)
    where
      from_zero : (i : ℕ) → length (at i) ≡ length (at 0)
      from_zero i = shifted_length i (0 + z) (k.moved 0 i i (sym (zero-add i)))

  -- past the limit of states; past the limit of the count; counted alone; copied
  pub again_over : 2048 < p.state + size → Lays z (at p.state) p n (record { state = 2049; count = p.count }) n
  again_over h = laid-over z (at p.state) p.state p.count n 2049 p.count n (omega (arith, k.same)) (omega arith)

  pub again_full : p.state + size ≤ 2048 → 60000 ≤ p.count + count → Lays z (at p.state) p n (record { state = p.state + size; count = 60000 }) n
  again_full h l =
      record {
        within = λ _. omega (arith, k.same);
        over = λ g. absurd (let f : ⊥ = omega (arith, k.same) in f);
        count = λ _ g. absurd (let f : ⊥ = omega (arith, here) in f);
        full = λ _ _. omega arith;
        exact = λ _ g _. absurd (let f : ⊥ = omega (arith, here) in f);
      }

  pub again_short : p.state + size ≤ 2048 → length n < 3 * (p.count + count)
      → Lays z (at p.state) p n (record { state = p.state + size; count = p.count + count }) n
  again_short h l =
      record {
        within = λ _. omega (arith, k.same);
        over = λ g. absurd (let f : ⊥ = omega (arith, k.same) in f);
        count = λ _ _. omega (arith, here);
        full = λ _ g. omega (arith, here);
        exact = λ _ _ g. absurd (let f : ⊥ = omega (arith, here, g, l) in f);
      }

  pub again_copied : p.state + size ≤ 2048 → {n' : List ℕ} → n' ≡ sets n (3 * p.count) (numbers (at p.state))
      → Lays z (at p.state) p n (record { state = p.state + size; count = p.count + count }) n'
  again_copied h e =
      record {
        within = λ _. omega (arith, k.same);
        over = λ g. absurd (let f : ⊥ = omega (arith, k.same) in f);
        count = λ _ _. omega (arith, here);
        full = λ _ g. omega (arith, here);
        exact = λ _ _ _. e;
      }

  -- where there is room
  module _ (s : Sound p) (room : 3 * (p.count + count) ≤ length n) where
    pub again_before : (state ≤ p.state) × (start + count ≤ p.count)
    again_before = (omega (arith, (k.before s).0), (k.before s).1)

    module _ (j : ℕ) (h : j < count) where
      stands : (x i : ℕ) → x < 3 * count → i ≡ 3 * start + x → get_or n i 0 ≡ get_or (numbers (at state)) x 0
      stands x i g e = rw e (k.stands s (omega (arith, room)) x g)

      shifted : Moved (p.state - state) (state + z) (numbers (at state)) (numbers (at p.state)) j
      shifted =
          shifted_moved (p.state - state) (state + z) (k.moved state p.state (p.state - state) (omega (arith, again_before.0))) j (omega (arith, k.many))

      first : get_or n (3 * (start + j)) 0 ≡ get_or (numbers (at state)) (3 * j) 0
      first = stands (3 * j) (3 * (start + j)) (omega arith) (omega arith)

      second : get_or n (3 * (start + j) + 1) 0 ≡ get_or (numbers (at state)) (3 * j + 1) 0
      second = stands (3 * j + 1) (3 * (start + j) + 1) (omega arith) (omega arith)

      third : get_or n (3 * (start + j) + 2) 0 ≡ get_or (numbers (at state)) (3 * j + 2) 0
      third = stands (3 * j + 2) (3 * (start + j) + 2) (omega arith) (omega arith)

      pub again_near : p.state + size ≤ 2048
          → (get_or n (3 * (start + j)) 0 + (p.state - state) < 65536) × (get_or n (3 * (start + j) + 2) 0 + (p.state - state) < 65536)
      again_near l = (
        omega (arith, first, shifted.near.0, again_before.0, k.same),
        omega (arith, third, shifted.near.1, again_before.0, k.same),
      )

    pub again_numbers : Copied start count (p.state - state) n (numbers (at p.state))
    again_numbers =
        record {
          all = length-numbers (at p.state) ∙ ap (λ (i : ℕ). 3 * i) here;
          from = λ j h. (shifted j h).from ∙ ap (λ (x : ℕ). x + (p.state - state)) (sym (first j h));
          label = λ j h. (shifted j h).label ∙ sym (second j h);
          to = λ j h. (shifted j h).to ∙ ap (λ (x : ℕ). x + (p.state - state)) (sym (third j h));
        }
