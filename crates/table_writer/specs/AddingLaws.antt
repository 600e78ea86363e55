-- Laws of adding transitions: what each way through the code adds, that places stay small, and that what is added is laid.
use Rattle.std.specs.Prelude.{Bool, false, cond, List, [], ◌∷◌, ◌++◌, ◌⊎◌, ◌≡◌, ℕ, ◌+◌, ◌*◌, ◌%◌, ◌<◌, ◌≤◌, length, set}
use Rattle.std.proofs.Math.Bool.{true}
use Rattle.std.proofs.Common.{inl, inr, ap, ◌∙◌, mod-eq_of_lt}
use Rattle.std.proofs.Math.Path.{refl, sym}
use Rattle.std.proofs.Math.Numerals.{add-one, add-two}
use native.Mathlib.Omega.{arith}
use borrow.Author.Tests.{le-leb, lt-leb, le-ltb, lt-ltb}
use Rattle.base.specs.Truth.{lt_or_le}
use Rattle.roles.specs.Role.{inv}
use Rattle.roles.specs.RoleLaws.{inv-below}
use Rattle.tables.specs.Tables.{Transition, numbers}
use Rattle.table_laying.specs.Laid.{laid_none, laid_both, laid_one, laid-short, laid-full, laid-past}
use Rattle.table_laying.specs.Fragment.{second_letter, back_of, own_letters}
use Rattle.table_writer.specs.declared.Place.{Place}
use Rattle.table_writer.specs.Adding.{more, put_one, adds_place, adds_moves, Adds, one, begun, letters_place, letters_moves, Small, Added}

-- one transition: nothing past the limits, counted alone where there is no room, else written as three numbers
module _ (t : Transition) (p : Place) (m : List ℕ) where
  past-place : 2048 < p.state → more p ≡ p
  past-place h = rw (lt-leb p.state 2048 h) refl

  past-moves : 2048 < p.state → put_one t p m ≡ m
  past-moves h = rw (lt-leb p.state 2048 h) refl

  module _ (few : p.state ≤ 2048) where
    full-place : 60000 ≤ p.count → more p ≡ p
    full-place h = rw (le-leb p.state 2048 few, le-ltb p.count 60000 h) refl

    full-moves : 60000 ≤ p.count → put_one t p m ≡ m
    full-moves h = rw (le-leb p.state 2048 few, le-ltb p.count 60000 h) refl

    module _ (free : p.count < 60000) where
      next_place : more p ≡ record { state = p.state; count = p.count + 1 }
      next_place = rw (le-leb p.state 2048 few, lt-ltb p.count 60000 free) refl

      short-moves : length m < 3 * p.count + 3 → put_one t p m ≡ m
      short-moves h = rw (le-leb p.state 2048 few, lt-ltb p.count 60000 free, lt-leb (3 * p.count + 3) (length m) h) refl

      next-moves : 3 * p.count + 3 ≤ length m
          → put_one t p m ≡ set (set (set m (3 * p.count) t.from) (3 * p.count + 1) t.label) (3 * p.count + 2) t.to
      unfolding numbers
      next-moves h =
          rw (le-leb p.state 2048 few, lt-ltb p.count 60000 free, le-leb (3 * p.count + 3) (length m) h, add-one, add-two) refl

-- the ways through the code that adds one transition
module _ (present : Bool) (from label to : ℕ) (p : Place) (m : List ℕ) where
  pub adds_absent : present ≡ false → Adds (one present from label to) p m p m
  unfolding adds_place adds_moves
  adds_absent h = rw h (refl, refl)

  module _ (there : present ≡ true) where
    abbrev low : Transition
    low = record { from = from % 65536; label = label % 65536; to = to % 65536 }

    pub adds_past : 2048 < p.state → Adds (one present from label to) p m p m
    unfolding adds_place adds_moves
    adds_past h = rw there (sym (past-place low p m h), sym (past-moves low p m h))

    module _ (few : p.state ≤ 2048) where
      pub adds_full : 60000 ≤ p.count → Adds (one present from label to) p m p m
      unfolding adds_place adds_moves
      adds_full h = rw there (sym (full-place low p m few h), sym (full-moves low p m few h))

      pub adds_short : p.count < 60000 → length m < 3 * p.count + 3
          → Adds (one present from label to) p m (record { state = p.state; count = p.count + 1 }) m
      unfolding adds_place adds_moves
      adds_short free h = rw there (sym (next_place low p m few free), sym (short-moves low p m few free h))

      pub adds_next : p.count < 60000 → 3 * p.count + 3 ≤ length m
          → Adds (one present from label to) p m (record { state = p.state; count = p.count + 1 })
          (set (set (set m (3 * p.count) (from % 65536)) (3 * p.count + 1) (label % 65536)) (3 * p.count + 2) (to % 65536))
      unfolding adds_place adds_moves
      adds_next free h = rw there (sym (next_place low p m few free), sym (next-moves low p m few free h))

-- some transitions after others
adds_both : (ts us : List Transition) (p : Place) (m : List ℕ) {q r : Place} {n o : List ℕ}
    → Adds ts p m q n → Adds us q n r o → Adds (ts ++ us) p m r o
unfolding adds_place adds_moves
adds_both ts us p m a b = (b.0 ∙ (ap (adds_place us) a.0 ∙ sym (place_append ts p)), b.1 ∙ (rw (a.0, a.1) refl ∙ sym (moves_append ts p m)))
  where
    place_append : (ts : List Transition) (p : Place) → adds_place (ts ++ us) p ≡ adds_place us (adds_place ts p)
    place_append [] p = refl
    place_append (t ∷ ts) p = place_append ts (more p)

    moves_append : (ts : List Transition) (p : Place) (m : List ℕ) → adds_moves (ts ++ us) p m ≡ adds_moves us (adds_place ts p) (adds_moves ts p m)
    moves_append [] p m = refl
    moves_append (t ∷ ts) p m = moves_append ts (more p) (put_one t p m)

-- numbers of 16 bits are written whole
one-small : (present : Bool) (from label to : ℕ) → from < 65536 → label < 65536 → to < 65536
    → one present from label to ≡ cond present (record { from = from; label = label; to = to } ∷ []) []
one-small present from label to f l t = rw (mod-eq_of_lt f, mod-eq_of_lt l, mod-eq_of_lt t) refl

-- the ways through the code that adds letters: too late for two states, or three additions
module _ (symmetric transitive : Bool) (role : ℕ) (p : Place) (m : List ℕ) where
  pub letters-past : 2046 < p.state
      → (record { state = 2049; count = p.count } ≡ letters_place symmetric transitive role p) × (m ≡ letters_moves symmetric transitive role p m)
  unfolding letters_place letters_moves
  letters-past h = rw (lt-leb p.state 2046 h) (refl, refl)

  pub letters-next : p.state ≤ 2046 → role < 256 → {a b q : Place} {n o w : List ℕ}
      → Adds (one true p.state role (p.state + 1)) (begun p) m a n
      → Adds (one symmetric p.state (inv role) (p.state + 1)) a n b o
      → Adds (one transitive (p.state + 1) 128 p.state) b o q w
      → (q ≡ letters_place symmetric transitive role p) × (w ≡ letters_moves symmetric transitive role p m)
  unfolding letters_place letters_moves
  letters-next h g x y z =
      let r : role < 65536 = omega arith in
      let i : inv role < 65536 = omega (arith, inv-below role 128 (omega arith)) in
      let s : p.state < 65536 = omega arith in
      let s' : p.state + 1 < 65536 = omega arith in
      let first = rw (one-small true p.state role (p.state + 1) s r s') at x in
      let second = rw (one-small symmetric p.state (inv role) (p.state + 1) s i s') at y in
      let third = rw (one-small transitive (p.state + 1) 128 p.state s' (omega arith) s) at z in
      rw (le-leb p.state 2046 h)
      (adds_both (record { from = p.state; label = role; to = p.state + 1 } ∷ [])
      (second_letter symmetric role p.state ++ back_of transitive p.state) (begun p) m first
      (adds_both (second_letter symmetric role p.state) (back_of transitive p.state) _ _ second third))

-- transitions added are laid
pub added_none : (p : Place) (m : List ℕ) → Small p → Added [] p m p m
added_none p m s = record { small = s; same = refl; laid = laid_none p.state p.count m }

pub added_both : {ts us : List Transition} {p q r : Place} {m n o : List ℕ} → Added ts p m q n → Added us q n r o → Added (ts ++ us) p m r o
added_both {ts} {us} {p} {q} {r} {m} {n} {o} a b =
    record {
      small = b.small;
      same = b.same ∙ a.same;
      laid =
          laid_both 0 0 ts us us p.state p.count m q.state q.count n r.state r.count o a.laid b.laid (λ e. refl);
    }

step_added : (t : Transition) (p : Place) (m : List ℕ) → Small p → Added (t ∷ []) p m (more p) (put_one t p m)
step_added t p m s = by_state (lt_or_le 2048 p.state)
  where
    -- counted, by whether there is room
    by-room : p.state ≤ 2048 → p.count < 60000 → (length m < 3 * p.count + 3) ⊎ (3 * p.count + 3 ≤ length m)
        → Added (t ∷ []) p m (more p) (put_one t p m)
    by-room few free (inl h) =
        rw (next_place t p m few free, short-moves t p m few free h)
        (record { small = record { state = s.state; count = omega arith }; same = refl; laid = laid-short t p.state p.count m h })
    by-room few free (inr h) =
        rw (next_place t p m few free, next-moves t p m few free h)
        (record { small = record { state = s.state; count = omega arith }; same = refl; laid = laid_one t p.state p.count m })

    by_count : p.state ≤ 2048 → (p.count < 60000) ⊎ (60000 ≤ p.count) → Added (t ∷ []) p m (more p) (put_one t p m)
    by_count few (inl free) = by-room few free (lt_or_le (length m) (3 * p.count + 3))
    by_count few (inr h) =
        rw (full-place t p m few h, full-moves t p m few h) (record { small = s; same = refl; laid = laid-full t p.state p.count m h })

    by_state : (2048 < p.state) ⊎ (p.state ≤ 2048) → Added (t ∷ []) p m (more p) (put_one t p m)
    by_state (inl h) = rw (past-place t p m h, past-moves t p m h) (record { small = s; same = refl; laid = laid-past t p.state p.count m h })
    by_state (inr few) = by_count few (lt_or_le p.count 60000)

pub adds_added : (ts : List Transition) (p : Place) (m : List ℕ) → Small p → Added ts p m (adds_place ts p) (adds_moves ts p m)
unfolding adds_place adds_moves
adds_added [] p m s = added_none p m s
adds_added (t ∷ ts) p m s = let a = step_added t p m s in added_both a (adds_added ts (more p) (put_one t p m) a.small)

-- what one addition, and that of letters, lays
pub add-added : (present : Bool) {from label to : ℕ} {p : Place} {m : List ℕ} {q : Place} {n : List ℕ} → from < 65536 → label < 65536 → to < 65536
    → Small p → q ≡ adds_place (one present from label to) p → n ≡ adds_moves (one present from label to) p m
    → Added (cond present (record { from = from; label = label; to = to } ∷ []) []) p m q n
add-added present {from} {label} {to} {p} {m} f l t s e g =
    rw (e, g, one-small present from label to f l t) (adds_added (cond present (record { from = from; label = label; to = to } ∷ []) []) p m s)

module _ (symmetric transitive : Bool) (role : ℕ) where
  pub letters-added : {p : Place} {m : List ℕ} {q : Place} {n : List ℕ} → p.state ≤ 2046 → Small p
      → q ≡ letters_place symmetric transitive role p → n ≡ letters_moves symmetric transitive role p m
      → Added (own_letters symmetric transitive role p.state) (begun p) m q n
  unfolding letters_place letters_moves
  letters-added {p} {m} h s e g =
      rw (e, g, le-leb p.state 2046 h)
      (adds_added (own_letters symmetric transitive role p.state) (begun p) m (record { state = omega arith; count = s.count }))

  pub letters-over : (p : Place) {m : List ℕ} {q : Place} {n : List ℕ} → 2046 < p.state
      → q ≡ letters_place symmetric transitive role p → n ≡ letters_moves symmetric transitive role p m
      → (q ≡ record { state = 2049; count = p.count }) × (n ≡ m)
  unfolding letters_place letters_moves
  letters-over p h e g = rw (e, g, lt-leb p.state 2046 h) (refl, refl)
