-- Laws of lists through one array: one more item enters; a walk along a list meets every item with its key.
use Rattle.std.specs.Prelude.{List, ◌⊎◌, ◌≡◌, refl, ℕ, ◌+◌, ◌-◌, ◌<◌, ◌≤◌, length, get_or, set}
use Rattle.std.proofs.Common.{inl, inr, sym, ap, ◌∙◌, arith}
use Rattle.std.proofs.Math.ListN.{length-set}
use Rattle.std.proofs.Math.Seq.{get_or-set_same, get_or-set_other}
use Rattle.base.specs.Truth.{lt_or_le, eq_or_ne}
use Rattle.linked_lists.specs.LinkedLists.{Latest, Linked}

-- lists by one key are lists by another that is the same for their items
module _ (f g : ℕ → ℕ) where
  latest_same : (x bound entry : ℕ) → ((k : ℕ) → k < bound → f k ≡ g k) → Latest f x bound entry → Latest g x bound entry
  latest_same x bound entry e h =
      record {
        low = h.low;
        own = λ s. sym (e (entry - 1) (omega (arith, h.low))) ∙ h.own s;
        none_later = λ k l i d. h.none_later k l i (e k i ∙ d);
      }

  pub linked-same : (room : ℕ) (index : List ℕ) (n : ℕ) → ((k : ℕ) → k < n → f k ≡ g k) → Linked f room index n → Linked g room index n
  linked-same room index n e h =
      record {
        space = h.space;
        keys = λ k l. rw (← e k l) (h.keys k l);
        last = λ x l. latest_same x n (get_or index x 0) e (h.last x l);
        before = λ k l.
            latest_same (g k) k (get_or index (room + k) 0) (λ j i. e j (omega arith)) (rw (← e k l) (h.before k l));
      }

module _ (key : ℕ → ℕ) (room : ℕ) where
  -- no item is in
  pub linked-none : (index : List ℕ) → room ≤ length index → ((x : ℕ) → x < room → get_or index x 0 ≡ 0) → Linked key room index 0
  linked-none index space clear =
      record {
        space = omega (arith, space);
        keys = λ k l. absurd (omega arith);
        last = λ x l.
            rw (clear x l) (record { low = omega arith; own = λ h. absurd (omega arith); none_later = λ k h j. absurd (omega arith) });
        before = λ k l. absurd (omega arith);
      }

  -- one more item enters
  module _ (index : List ℕ) (n : ℕ) (so_far : Linked key room index n) (space : room + n < length index) (small : key n < room) where
    -- the array after it
    after : List ℕ
    after = set (set index (room + n) (get_or index (key n) 0)) (key n) (n + 1)

    after-own : get_or after (key n) 0 ≡ n + 1
    unfolding after
    after-own = get_or-set_same (set index (room + n) (get_or index (key n) 0)) (key n) (n + 1) 0 (simp length-set (omega (arith, space, small)))

    after-other : (x : ℕ) → x < room → (x ≡ key n → ⊥) → get_or after x 0 ≡ get_or index x 0
    unfolding after
    after-other x l h =
        get_or-set_other (set index (room + n) (get_or index (key n) 0)) (key n) x (n + 1) 0 h
        ∙ get_or-set_other index (room + n) x (get_or index (key n) 0) 0 (omega arith)

    after-before : (k : ℕ) → (k ≡ n → ⊥) → get_or after (room + k) 0 ≡ get_or index (room + k) 0
    unfolding after
    after-before k h =
        get_or-set_other (set index (room + n) (get_or index (key n) 0)) (key n) (room + k) (n + 1) 0 (omega (arith, small))
        ∙ get_or-set_other index (room + n) (room + k) (get_or index (key n) 0) 0 (λ e. h (omega arith))

    after-new : get_or after (room + n) 0 ≡ get_or index (key n) 0
    unfolding after
    after-new =
        get_or-set_other (set index (room + n) (get_or index (key n) 0)) (key n) (room + n) (n + 1) 0 (omega (arith, small))
        ∙ get_or-set_same index (room + n) (get_or index (key n) 0) 0 space

    pub linked-more : Linked key room (set (set index (room + n) (get_or index (key n) 0)) (key n) (n + 1)) (n + 1)
    unfolding after
    linked-more =
        record {
          space = simp length-set (omega (arith, space));
          keys = λ k l. keys k l (eq_or_ne k n);
          last = λ x l. last x l (eq_or_ne x (key n));
          before = λ k l. before k l (eq_or_ne k n);
        }
      where
        keys : (k : ℕ) → k < n + 1 → (k ≡ n) ⊎ (k ≡ n → ⊥) → key k < room
        keys k l (inl e) = rw e small
        keys k l (inr e) = so_far.keys k (omega arith)

        last : (x : ℕ) → x < room → (x ≡ key n) ⊎ (x ≡ key n → ⊥) → Latest key x (n + 1) (get_or after x 0)
        last x l (inl e) =
            rw (e, after-own)
            (record {
              low = omega arith;
              own = λ h. let e : n + 1 - 1 ≡ n = omega arith in rw e refl;
              none_later = λ k h j. absurd (omega arith);
            })
        last x l (inr e) =
            let h : Latest key x n (get_or index x 0) = so_far.last x l in
            rw (after-other x l e)
            (record {
              low = omega (arith, h.low);
              own = h.own;
              none_later = λ k i j. by_number k i j (eq_or_ne k n);
            })
          where
            by_number : (k : ℕ) → get_or index x 0 ≤ k → k < n + 1 → (k ≡ n) ⊎ (k ≡ n → ⊥) → key k ≡ x → ⊥
            by_number k i j (inl d) f = e (sym f ∙ ap key d)
            by_number k i j (inr d) f = (so_far.last x l).none_later k i (omega arith) f

        before : (k : ℕ) → k < n + 1 → (k ≡ n) ⊎ (k ≡ n → ⊥) → Latest key (key k) k (get_or after (room + k) 0)
        before k l (inl e) = rw (e, after-new) (so_far.last (key n) small)
        before k l (inr e) = rw (after-before k e) (so_far.before k (omega arith))

  -- a walk along the list of x among the first n items, at an entry of it
  module _ (index : List ℕ) (n : ℕ) (linked : Linked key room index n) (x : ℕ) where
    module _ (entry : ℕ) (low : entry ≤ n) (own : 0 < entry → key (entry - 1) ≡ x) (some : 0 < entry) where
      next_latest : Latest key (key (entry - 1)) (entry - 1) (get_or index (room + (entry - 1)) 0)
      next_latest = linked.before (entry - 1) (omega arith)

      pub next-less : get_or index (room + (entry - 1)) 0 < entry
      next-less = omega (arith, next_latest.low)

      -- the next entry is one of the same list
      pub next-own : 0 < get_or index (room + (entry - 1)) 0 → key (get_or index (room + (entry - 1)) 0 - 1) ≡ x
      next-own h = next_latest.own h ∙ own some

      -- an item of the list from the next entry on is this one or one from this entry on
      pub met : (k : ℕ) → get_or index (room + (entry - 1)) 0 ≤ k → key k ≡ x → (k ≡ entry - 1) ⊎ (entry ≤ k)
      met k h e = by_number (lt_or_le k (entry - 1)) (eq_or_ne k (entry - 1))
        where
          by_number : (k < entry - 1) ⊎ (entry - 1 ≤ k) → (k ≡ entry - 1) ⊎ (k ≡ entry - 1 → ⊥) → (k ≡ entry - 1) ⊎ (entry ≤ k)
          by_number (inl l) d = absurd (next_latest.none_later k h l (e ∙ sym (own some)))
          by_number (inr l) (inl d) = inl d
          by_number (inr l) (inr d) = inr (omega arith)
