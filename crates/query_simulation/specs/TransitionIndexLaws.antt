-- Laws of the index: one more transition enters it; a walk along a list meets every transition with its state and label.
use Rattle.std.specs.Prelude.{Bool, true, false, cond, ◌||◌, ◌⊎◌, ◌≡◌, refl, ℕ, ◌+◌, ◌*◌, ◌-◌, ◌<◌, ◌≤◌, leb, length, replicate}
use mathlib.Core.List.{List}
use Rattle.std.proofs.Common.{inl, inr, ◌∙◌, le-leb, leb-true, leb-false, length-drop, get_or-drop}
use Rattle.std.proofs.Math.Path.{sym, ap}
use native.Mathlib.Omega.{arith}
use borrow.Author.Count.{below_more}
use Rattle.std.proofs.lemmas.Bool.{lt-leb}
use Rattle.std.proofs.Math.ListN.{get_or, set, drop, length-set}
use Rattle.std.proofs.lemmas.List.{length-replicate, get_or-replicate}
use Rattle.std.proofs.Math.Seq.{get_or-set_other, drop-set-add}
use Rattle.linked_lists.specs.LinkedLists.{Latest}
use Rattle.linked_lists.specs.LinkedListsLaws as linked
use Rattle.query_simulation.specs.States.{States, Member, Behind, Put}
use Rattle.query_simulation.specs.StatesLaws.{unused-zeros, added_none, added_on, added_as, still-member}
use Rattle.query_simulation.specs.Transitions.{from_at, label_at, to_at, transition_count, Arrow, Fits, Fit}
use Rattle.query_simulation.specs.TransitionsLaws.{Numbered, arrow-at, numbered}
use Rattle.query_simulation.specs.TransitionIndex.{slot, slot_at, list_of, Indexed, Prepared, Met, Spread, Walked}

-- where the list of a transition begins, as the tests tell
module _ (room : ℕ) (moves : List ℕ) (k : ℕ) where
  abbrev outside : Bool
  outside = leb room (from_at moves k) || leb room (to_at moves k)

  pub list_past : transition_count moves ≤ k → list_of room moves k ≡ 0
  list_past h = rw (le-leb (transition_count moves) k h) refl

  module _ (l : k < transition_count moves) where
    pub list_outside : outside ≡ true → list_of room moves k ≡ 0
    list_outside h = rw (lt-leb (transition_count moves) k l, h) refl

    pub list_inside : outside ≡ false → list_of room moves k ≡ 3 * room + slot_at moves k
    list_inside h = rw (lt-leb (transition_count moves) k l, h) refl

    -- and what it tells of the transition
    tells_none : (t u : Bool) → t ≡ leb room (from_at moves k) → u ≡ leb room (to_at moves k) → cond (t || u) 0 (3 * room + slot_at moves k) ≡ 0
        → Fits room moves k → ⊥
    tells_none true u e f z fits = omega (arith, leb-true room (from_at moves k) (sym e), fits.from_fits)
    tells_none false true e f z fits = omega (arith, leb-true room (to_at moves k) (sym f), fits.to_fits)
    tells_none false false e f z fits = omega (arith, z, fits.from_fits)

    tells-some : (t u : Bool) → t ≡ leb room (from_at moves k) → u ≡ leb room (to_at moves k) → (cond (t || u) 0 (3 * room + slot_at moves k) ≡ 0 → ⊥)
        → (from_at moves k < room) × (to_at moves k < room) × (cond (t || u) 0 (3 * room + slot_at moves k) ≡ 3 * room + slot_at moves k)
    tells-some true u e f some = absurd (some refl)
    tells-some false true e f some = absurd (some refl)
    tells-some false false e f some =
        (omega (arith, leb-false room (from_at moves k) (sym e)), omega (arith, leb-false room (to_at moves k) (sym f)), refl)

    list_within : list_of room moves k ≡ cond outside 0 (3 * room + slot_at moves k)
    list_within = rw (lt-leb (transition_count moves) k l) refl

    module _ {list : ℕ} (e : list ≡ list_of room moves k) where
      pub listed-none : list ≡ 0 → Fits room moves k → ⊥
      listed-none z = tells_none (leb room (from_at moves k)) (leb room (to_at moves k)) refl refl (sym list_within ∙ sym e ∙ z)

      pub listed-some : (list ≡ 0 → ⊥) → Fit 2048 moves → Fits room moves k × (list ≡ 3 * room + slot_at moves k) × (list < 5 * room)
      listed-some some fit =
          let t = tells-some (leb room (from_at moves k)) (leb room (to_at moves k)) refl refl (λ z. some (e ∙ list_within ∙ z)) in
          let here : list ≡ 3 * room + slot_at moves k = e ∙ list_within ∙ t.2 in
          let label : label_at moves k ≤ 128 = (fit k l).label_fits in
          (record { from_fits = t.0; label_fits = label; to_fits = t.1 }, here, omega (arith, here, t.0, label))

module _ {room : ℕ} where
  -- zeros are empty sets, and an index with no transition in
  pub prepared-zeros : (moves : List ℕ) (size : ℕ) → room ≤ 2048 → 5 * room + transition_count moves ≤ size → size ≤ 15360
      → Prepared room 1 moves 0 (replicate size 0)
  prepared-zeros moves size low space short =
      let zeros : List ℕ = replicate size 0 in
      let zero-at : (x : ℕ) → x < size → get_or zeros x 0 ≡ 0 = λ x l. get_or-replicate {A = ℕ} size x 0 0 l in
      let long : length zeros ≡ size = length-replicate {A = ℕ} size 0 in
      let left : length (drop (3 * room) zeros) ≡ size - 3 * room = length-drop (3 * room) zeros ∙ ap (λ (n : ℕ). n - 3 * room) long in
      record {
        unused = unused-zeros size low (omega arith);
        indexed =
            record {
              fit = λ k l. absurd (omega arith);
              space = omega (arith, long);
              short = omega (arith, long);
              linked =
                  linked.linked-none (slot_at moves) (2 * room) (drop (3 * room) zeros) (omega (arith, left))
                  (λ x l. get_or-drop (3 * room) zeros x 0 ∙ zero-at (3 * room + x) (omega arith));
            };
      }

  -- one more transition enters
  module _ {moves s : List ℕ} {n : ℕ} (so_far : Prepared room 1 moves n s) (more : n < transition_count moves) (fits : Fits room moves n) where
    slot-below : slot_at moves n < 2 * room
    slot-below = omega (arith, fits.from_fits, fits.label_fits)

    entered : List ℕ
    entered = set (set s (5 * room + n) (get_or s (3 * room + slot_at moves n) 0)) (3 * room + slot_at moves n) (n + 1)

    -- what stands before the index stays
    before : (x : ℕ) → x < 3 * room → get_or entered x 0 ≡ get_or s x 0
    unfolding entered
    before x l =
        get_or-set_other (set s (5 * room + n) (get_or s (3 * room + slot_at moves n) 0)) (3 * room + slot_at moves n) x (n + 1) 0 (omega arith)
        ∙ get_or-set_other s (5 * room + n) x (get_or s (3 * room + slot_at moves n) 0) 0 (omega arith)

    index : drop (3 * room) entered
        ≡ set (set (drop (3 * room) s) (2 * room + n) (get_or (drop (3 * room) s) (slot_at moves n) 0)) (slot_at moves n) (n + 1)
    unfolding entered
    index =
        let e : 5 * room + n ≡ 3 * room + (2 * room + n) = omega arith in
        drop-set-add (3 * room) (set s (5 * room + n) (get_or s (3 * room + slot_at moves n) 0)) (slot_at moves n) (n + 1)
        ∙ ap (λ (l : List ℕ). set l (slot_at moves n) (n + 1))
        (ap (λ (k : ℕ). drop (3 * room) (set s k (get_or s (3 * room + slot_at moves n) 0))) e
        ∙ drop-set-add (3 * room) s (2 * room + n) (get_or s (3 * room + slot_at moves n) 0)
        ∙ ap (set (drop (3 * room) s) (2 * room + n)) (sym (get_or-drop (3 * room) s (slot_at moves n) 0)))

    prepared-more : Prepared room 1 moves (n + 1)
        (set (set s (5 * room + n) (get_or s (3 * room + slot_at moves n) 0)) (3 * room + slot_at moves n) (n + 1))
    unfolding entered
    prepared-more =
        let old = so_far.indexed in
        record {
          unused =
              record {
                low = so_far.unused.low;
                size = simp length-set so_far.unused.size;
                older = λ q l. rw (before (2 * room + q) (omega arith)) (so_far.unused.older q l);
              };
          indexed =
              record {
                fit = below_more (λ (k : ℕ). Fits room moves k) n old.fit fits;
                space = simp length-set old.space;
                short = simp length-set old.short;
                linked =
                    rw index
                    (linked.linked-more (slot_at moves) (2 * room) (drop (3 * room) s) n old.linked
                    (rw (length-drop (3 * room) s) (omega (arith, old.space))) slot-below);
              };
        }

    pub prepared-entered : {list : ℕ} → list ≡ 3 * room + slot_at moves n → Prepared room 1 moves (n + 1) (set (set s (5 * room + n) (get_or s list 0)) list (n + 1))
    prepared-entered e = rw e prepared-more

  -- the index stands behind what is kept
  pub indexed-behind : {moves s t : List ℕ} {n : ℕ} → Behind room s t → Indexed room moves s n → Indexed room moves t n
  indexed-behind b i =
      record {
        fit = i.fit;
        space = omega (arith, i.space, b.same);
        short = omega (arith, i.short, b.same);
        linked = rw b.rest i.linked;
      }

  module _ {stamp list : ℕ} {s : List ℕ} {count : ℕ} where
    -- a transition has the label, or not
    pub met-same : (moves : List ℕ) (k a : ℕ) {t : List ℕ} {more : ℕ} → label_at moves k ≡ a → Put room stamp list (to_at moves k) s count t more
        → Met room stamp list moves k a s count t more
    met-same moves k a e put = record { added = added_as (λ x d. (e, d)) put.added; there = λ f. put.there }

    pub met-other : (moves : List ℕ) (k a : ℕ) → (label_at moves k ≡ a → ⊥) → States room stamp s list count → Met room stamp list moves k a s count s count
    met-other moves k a e good = record { added = added_none good _; there = λ f. absurd (e f) }

    module _ {moves : List ℕ} (indexed : Indexed room moves s (transition_count moves)) {x a : ℕ} where
      -- a walk along the list x
      pub walked_start : x < 2 * room → States room stamp s list count → Walked room stamp list moves x a (get_or s (3 * room + x) 0) s count s count
      walked_start small good =
          let here : Latest (slot_at moves) x (transition_count moves) (get_or s (3 * room + x) 0) =
          rw (get_or-drop (3 * room) s x 0) at (indexed.linked.last x small) in
          record {
            low = here.low;
            own = here.own;
            spread = record { added = added_none good _; there = λ k h l e f. absurd (here.none_later k h l e) };
          }

      -- one more transition is met
      module _ {t : List ℕ} {more entry : ℕ} (so_far : Walked room stamp list moves x a entry s count t more) (some : 0 < entry) where
        -- the entry for the one before it
        next : ℕ
        next = get_or (drop (3 * room) s) (2 * room + (entry - 1)) 0

        next_at : get_or t (5 * room + entry - 1) 0 ≡ next
        unfolding next
        next_at =
            let e : 5 * room + entry - 1 ≡ 3 * room + (2 * room + (entry - 1)) = omega arith in
            ap (λ (i : ℕ). get_or t i 0) e
            ∙ sym (get_or-drop (3 * room) t (2 * room + (entry - 1)) 0)
            ∙ ap (λ (l : List ℕ). get_or l (2 * room + (entry - 1)) 0) so_far.spread.added.behind.rest

        below : next < entry
        unfolding next
        below = linked.next-less (slot_at moves) (2 * room) (drop (3 * room) s) (transition_count moves) indexed.linked x entry so_far.low so_far.own some

        own : 0 < next → slot_at moves (next - 1) ≡ x
        unfolding next
        own = linked.next-own (slot_at moves) (2 * room) (drop (3 * room) s) (transition_count moves) indexed.linked x entry so_far.low so_far.own some

        -- a transition of the list from the next entry on is this one or one met before
        met : (k : ℕ) → next ≤ k → slot_at moves k ≡ x → (k ≡ entry - 1) ⊎ (entry ≤ k)
        unfolding next
        met = linked.met (slot_at moves) (2 * room) (drop (3 * room) s) (transition_count moves) indexed.linked x entry so_far.low so_far.own some

        pub next-less : get_or t (5 * room + entry - 1) 0 < entry
        next-less = rw next_at below

        pub walked_more : {u : List ℕ} {all : ℕ} → Met room stamp list moves (entry - 1) a t more u all
            → Walked room stamp list moves x a (get_or t (5 * room + entry - 1) 0) s count u all
        walked_more {u} {all} one =
            rw next_at
            (record {
              low = omega (arith, below, so_far.low);
              own = own;
              spread =
                  record {
                    added = added_on so_far.spread.added (added_as arrow-here one.added);
                    there = λ k h l e f. by_number k l e f (met k h e);
                  };
            })
          where
            arrow-here : (q : ℕ) → (label_at moves (entry - 1) ≡ a) × (q ≡ to_at moves (entry - 1)) → (p : ℕ) → slot p a ≡ x → Arrow moves p a q
            arrow-here q d p e =
                let from : from_at moves (entry - 1) ≡ p = omega (arith, so_far.own some, d.0, e) in
                rw (d.1, ← from, ← d.0) (arrow-at moves (entry - 1) (omega (arith, so_far.low)))

            by_number : (k : ℕ) → k < transition_count moves → slot_at moves k ≡ x → label_at moves k ≡ a → (k ≡ entry - 1) ⊎ (entry ≤ k)
                → Member u list all (to_at moves k)
            by_number k l e f (inl d) = rw d (one.there (rw d at f))
            by_number k l e f (inr d) = still-member one.added (so_far.spread.there k d l e f)

-- every transition from p with the label a has been met
pub spread-all : {room stamp list : ℕ} {moves : List ℕ} {x a : ℕ} {s : List ℕ} {count : ℕ} {t : List ℕ} {more : ℕ} → Spread room stamp list moves x a 0 s count t more
    → (p q : ℕ) → slot p a ≡ x → Arrow moves p a q → Member t list more q
spread-all {moves = moves} {x = x} {a = a} all p q e m =
    let n : Numbered moves p a q = numbered moves p a q m in
    let same : slot_at moves n.number ≡ x = rw (n.from_is, n.label_is) e in
    rw (← n.to_is) (all.there n.number (omega arith) n.inside same n.label_is)
