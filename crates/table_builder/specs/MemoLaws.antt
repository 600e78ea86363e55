-- A memo stays true while more is laid, and when a fragment is put down in it.
use Rattle.std.specs.Prelude.{List, [], ◌⊎◌, ◌≡◌, refl, ℕ, ◌+◌, ◌-◌, ◌*◌, ◌<◌, ◌≤◌, length, get_or, set}
use Rattle.std.proofs.Common.{inl, inr, ap, ◌∙◌, arith, length-set, get_or-set_same, get_or-set_other}
use Rattle.std.proofs.lemmas.List.Edits.{sets}
use Rattle.base.specs.Truth.{lt_or_le, eq_or_ne}
use Rattle.base.specs.WritingLaws.{get_or-before, get_or-stored}
use Rattle.roles.specs.Role.{name}
use Rattle.roles.specs.Rule.{Rule}
use Rattle.tables.specs.Tables.{Transition, size_of, transitions_of, numbers}
use Rattle.rule_index.specs.RuleIndex.{Indexed, level_in}
use Rattle.table_laying.specs.Pieces.{length-numbers}
use Rattle.table_laying.specs.Laid.{laid_none}
use Rattle.table_laying.specs.Fragment.{laid-states}
use Rattle.table_laying.specs.ShiftedLaws.{fragment_shifted}
use Rattle.table_writer.specs.Adding.{Lays, Added, begun}
use Rattle.table_builder.specs.Lay.{FragmentOf}
use Rattle.table_builder.specs.Memo.{size_in, start_in, count_in, state_in, stored, Sound, Kept, Held, Memo}
use Rattle.table_writer.specs.declared.Place.{Place}

-- what a sound place says of what was laid before it
record Exactly (z : ℕ) (ts : List Transition) (p : Place) (m : List ℕ) (q : Place) (n : List ℕ) : Type 0 where
  within : p.state + z ≤ 2048
  state : q.state ≡ p.state + z
  below : p.count + length ts < 60000
  count : q.count ≡ p.count + length ts
  exact : 3 * q.count ≤ length m → n ≡ sets m (3 * p.count) (numbers ts)

exactly : (z : ℕ) (ts : List Transition) (p : Place) (m : List ℕ) (q : Place) (n : List ℕ) → Lays z ts p m q n → Sound q → Exactly z ts p m q n
exactly z ts p m q n a s = by-states (lt_or_le 2048 (p.state + z))
  where
    by_count : p.state + z ≤ 2048 → (p.count + length ts < 60000) ⊎ (60000 ≤ p.count + length ts) → Exactly z ts p m q n
    by_count h (inl l) =
        let c : q.count ≡ p.count + length ts = a.count h l in
        record { within = h; state = a.within h; below = l; count = c; exact = λ g. a.exact h l (rw (← c) g) }
    by_count h (inr l) = absurd (let f : 60000 ≤ q.count = a.full h l in let e : ⊥ = omega (arith, s.1) in e)

    by-states : (2048 < p.state + z) ⊎ (p.state + z ≤ 2048) → Exactly z ts p m q n
    by-states (inl h) = absurd (let f : 2048 < q.state = a.over h in let e : ⊥ = omega (arith, s.0) in e)
    by-states (inr h) = by_count h (lt_or_le (p.count + length ts) 60000)

sound-before : (z : ℕ) (ts : List Transition) (p : Place) (m : List ℕ) (q : Place) (n : List ℕ) → Exactly z ts p m q n → Sound p
sound-before z ts p m q n x = (omega (arith, x.within), omega (arith, x.below))

pub laid-after : (z : ℕ) (ts : List Transition) (p : Place) (m : List ℕ) (q : Place) (n : List ℕ) → Lays z ts p m q n → Sound q
    → (p.state ≤ q.state) × (p.count ≤ q.count)
laid-after z ts p m q n a s = let x = exactly z ts p m q n a s in (omega (arith, x.state), omega (arith, x.count))

-- more is laid
module _ {z : ℕ} {ts : List Transition} {p : Place} {m : List ℕ} {q : Place} {n : List ℕ} (a : Lays z ts p m q n) (same : length n ≡ length m) where
  kept_step : (size start count state : ℕ) (y : ℕ) (at : ℕ → List Transition) → Kept size start count state p m y at → Kept size start count state q n y at
  kept_step size start count state y at k =
      record {
        same = k.same;
        many = k.many;
        before = λ s.
            let x = exactly z ts p m q n a s in
            let b = k.before (sound-before z ts p m q n x) in
            (omega (arith, b.0, x.state), omega (arith, b.1, x.count));
        stands = λ s l i h.
            let x = exactly z ts p m q n a s in
            let g = sound-before z ts p m q n x in
            let b : start + count ≤ p.count = (k.before g).1 in
            let room : 3 * q.count ≤ length m = rw (← same) l in
            ap (λ (w : List ℕ). get_or w (3 * start + i) 0) (x.exact room)
            ∙ (get_or-before (numbers ts) m (3 * p.count) (3 * start + i) (omega arith) ∙ k.stands g (omega (arith, x.count, room)) i h);
        moved = k.moved;
      }

  pub memo-step : {index memo : List ℕ} → Memo index memo p m → Memo index memo q n
  memo-step k =
      record { size = k.size; held = λ r h l ρs i fuel f. kept_step _ _ _ _ _ _ (k.held r h l ρs i fuel f) }

-- two states and then transitions that take none
pub memo_lettered : {index memo : List ℕ} {p : Place} {m : List ℕ} {ts : List Transition} {q : Place} {n : List ℕ} → Added ts (begun p) m q n → length n ≡ length m
    → Memo index memo p m → Memo index memo q n
memo_lettered {index} {memo} {p} {m} {ts} {q} {n} a same k =
    memo-step {p = begun p} {q = q} a.laid same
    (memo-step {p = p} {q = begun p} (laid-states 0 [] p.state p.count m (p.state + 2) p.count m (laid_none (p.state + 2) p.count m)) refl k)

-- a memo of nothing
pub memo-none : {index memo : List ℕ} {q : Place} {n : List ℕ} → length memo ≡ 512 → ((r : ℕ) → r < 128 → size_in memo r ≡ 0) → Memo index memo q n
memo-none s e =
    record { size = s; held = λ r h l ρs i fuel f. absurd (let g : ⊥ = omega (arith, e r h) in g) }

-- the numbers stored, and all others
module _ (memo : List ℕ) (r : ℕ) (p q : Place) (size : length memo ≡ 512) (h : r < 128) where
  abbrev m₁ : List ℕ
  m₁ = set memo r (q.state - p.state)

  abbrev m₂ : List ℕ
  m₂ = set m₁ (128 + r) p.count

  abbrev m₃ : List ℕ
  m₃ = set m₂ (256 + r) (q.count - p.count)

  length₁ : length m₁ ≡ 512
  length₁ = length-set memo r (q.state - p.state) ∙ size

  length₂ : length m₂ ≡ 512
  length₂ = length-set m₁ (128 + r) p.count ∙ length₁

  length₃ : length m₃ ≡ 512
  length₃ = length-set m₂ (256 + r) (q.count - p.count) ∙ length₂

  stored-size : length (stored memo r p q) ≡ 512
  stored-size = length-set m₃ (384 + r) p.state ∙ length₃

  stored_other : (x : ℕ) → (x ≡ r → ⊥) → (x ≡ 128 + r → ⊥) → (x ≡ 256 + r → ⊥) → (x ≡ 384 + r → ⊥) → get_or (stored memo r p q) x 0 ≡ get_or memo x 0
  stored_other x a b c d =
      get_or-set_other m₃ (384 + r) x p.state 0 d
      ∙ (get_or-set_other m₂ (256 + r) x (q.count - p.count) 0 c
      ∙ (get_or-set_other m₁ (128 + r) x p.count 0 b ∙ get_or-set_other memo r x (q.state - p.state) 0 a))

  apart : (x y : ℕ) → x < y → x ≡ y → ⊥
  apart x y l e = omega arith

  stored-states : size_in (stored memo r p q) r ≡ q.state - p.state
  stored-states =
      get_or-set_other m₃ (384 + r) r p.state 0 (apart r (384 + r) (omega arith))
      ∙ (get_or-set_other m₂ (256 + r) r (q.count - p.count) 0 (apart r (256 + r) (omega arith))
      ∙ (get_or-set_other m₁ (128 + r) r p.count 0 (apart r (128 + r) (omega arith)) ∙ get_or-set_same memo r (q.state - p.state) 0 (omega arith)))

  stored-start : start_in (stored memo r p q) r ≡ p.count
  stored-start =
      get_or-set_other m₃ (384 + r) (128 + r) p.state 0 (apart (128 + r) (384 + r) (omega arith))
      ∙ (get_or-set_other m₂ (256 + r) (128 + r) (q.count - p.count) 0 (apart (128 + r) (256 + r) (omega arith))
      ∙ get_or-set_same m₁ (128 + r) p.count 0 (omega (arith, length₁)))

  stored-count : count_in (stored memo r p q) r ≡ q.count - p.count
  stored-count =
      get_or-set_other m₃ (384 + r) (256 + r) p.state 0 (apart (256 + r) (384 + r) (omega arith))
      ∙ get_or-set_same m₂ (256 + r) (q.count - p.count) 0 (omega (arith, length₂))

  stored-state : state_in (stored memo r p q) r ≡ p.state
  stored-state = get_or-set_same m₃ (384 + r) p.state 0 (omega (arith, length₃))

-- a fragment that was laid between two places
module _ (index : List ℕ) (r : ℕ) (p : Place) (m : List ℕ) (q : Place) (n : List ℕ) (laid : FragmentOf index r p m q n)
    (same : length n ≡ length m) where
  laid_kept : Sound q → (ρs : List Rule) → Indexed ρs index → (fuel : ℕ) → level_in index (name r) < fuel
      → Kept (q.state - p.state) p.count (q.count - p.count) p.state q n (size_of ρs fuel r) (transitions_of ρs fuel r)
  laid_kept s ρs i fuel f =
      let x = exactly (size_of ρs fuel r) (transitions_of ρs fuel r p.state) p m q n (laid ρs i fuel f) s in
      record {
        same = omega (arith, x.state);
        many = omega (arith, x.count);
        before = λ _. (omega (arith, x.state), omega (arith, x.count));
        stands = λ _ l k h.
            let ts = transitions_of ρs fuel r p.state in
            let room : 3 * q.count ≤ length m = rw (← same) l in
            ap (λ (w : List ℕ). get_or w (3 * p.count + k) 0) (x.exact room)
            ∙ get_or-stored (numbers ts) m (3 * p.count) k (omega (arith, length-numbers ts, x.count)) (omega (arith, length-numbers ts, x.count, room));
        moved = λ a b d e. fragment_shifted d (a + size_of ρs fuel r) ρs fuel r a b e (omega arith);
      }

  -- is put down
  pub memo-kept : (memo memo' : List ℕ) → r < 128 → (memo' ≡ memo) ⊎ (Sound q × (memo' ≡ stored memo r p q)) → Memo index memo q n → Memo index memo' q n
  memo-kept memo memo' h (inl e) k = rw e k
  memo-kept memo memo' h (inr (s, e)) k =
      rw e (record { size = stored-size memo r p q k.size h; held = λ x l g ρs i fuel f. by-role x l g ρs i fuel f (eq_or_ne x r) })
    where
      by-role : (x : ℕ) → x < 128 → 0 < size_in (stored memo r p q) x → (ρs : List Rule) → Indexed ρs index → (fuel : ℕ) → level_in index (name x) < fuel
          → (x ≡ r) ⊎ (x ≡ r → ⊥) → Held (stored memo r p q) x q n (size_of ρs fuel x) (transitions_of ρs fuel x)
      by-role x l g ρs i fuel f (inl d) =
          rw (d, stored-states memo r p q k.size h, stored-start memo r p q k.size h, stored-count memo r p q k.size h, stored-state memo r p q k.size h)
          (laid_kept s ρs i fuel (rw d at f))
      by-role x l g ρs i fuel f (inr d) =
          let other : (y : ℕ) → (y ≡ r → ⊥) → (y ≡ 128 + r → ⊥) → (y ≡ 256 + r → ⊥) → (y ≡ 384 + r → ⊥) → get_or (stored memo r p q) y 0 ≡ get_or memo y 0 =
          stored_other memo r p q k.size h in
          let a : size_in (stored memo r p q) x ≡ size_in memo x = other x d (λ e. omega arith) (λ e. omega arith) (λ e. omega arith) in
          let b : start_in (stored memo r p q) x ≡ start_in memo x = other (128 + x) (λ e. omega arith) (λ e. d (omega arith)) (λ e. omega arith) (λ e. omega arith) in
          let c : count_in (stored memo r p q) x ≡ count_in memo x = other (256 + x) (λ e. omega arith) (λ e. omega arith) (λ e. d (omega arith)) (λ e. omega arith) in
          let o : state_in (stored memo r p q) x ≡ state_in memo x = other (384 + x) (λ e. omega arith) (λ e. omega arith) (λ e. omega arith) (λ e. d (omega arith)) in
          rw (a, b, c, o) (k.held x l (rw a at g) ρs i fuel f)
