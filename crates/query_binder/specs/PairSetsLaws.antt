-- Laws of sets of pairs: where a pair is absent there is room for it; what is added stays, and adds up.
use Rattle.std.specs.Prelude.{List, ◌⊎◌, ◌≡◌, refl, ℕ, suc, ◌+◌, ◌*◌, ◌<◌, ◌≤◌, eqb, length, get_or, set, replicate}
use Rattle.std.proofs.Common.{inl, inr, sym, ap, ◌∙◌, eqb-true}
use native.Mathlib.Omega.{arith}
use Rattle.std.proofs.lemmas.Bool.{eqb-false}
use Rattle.std.proofs.Math.ListN.{length-set}
use Rattle.std.proofs.lemmas.List.{length-replicate, get_or-replicate}
use Rattle.std.proofs.Math.Seq.{get_or-set_same, get_or-set_other}
use Rattle.base.specs.Truth.{lt_or_le, eq_or_ne}
use Rattle.base.specs.Reflects.{Reflects}
use Rattle.base.specs.Pigeonhole.{pigeonhole}
use Rattle.query_binder.specs.PairSets.{Member, PairSet, Unused, Gains, Cleared, Renewed}

-- a member stays one
pub still-member : {room stamp : ℕ} {H : ℕ → Type 0} {s : List ℕ} {count : ℕ} {t : List ℕ} {more x : ℕ} → Gains room stamp H s count t more
    → Member s count x → Member t more x
still-member g m = record { place = m.place; inside = omega (arith, g.grows, m.inside); here = g.kept m.place m.inside ∙ m.here }

-- zeros are older than every stamp
pub unused-zeros : {room : ℕ} (size : ℕ) → room ≤ 2048 → size ≡ 64 * room → Unused room 1 (replicate size 0)
unused-zeros {room} size low e =
    record {
      low = low;
      size = length-replicate {A = ℕ} size 0 ∙ e;
      older = λ x l. rw (get_or-replicate {A = ℕ} size (32 * room + x) 0 0 (omega arith)) (omega arith);
    }

-- an empty set, whatever stands in front
pub set_none : {room stamp : ℕ} {s : List ℕ} → Unused room stamp s → PairSet room stamp s 0
set_none u =
    record {
      low = u.low;
      size = u.size;
      few = omega arith;
      below = λ i l. absurd (omega arith);
      apart = λ i j l. absurd (omega arith);
      marked = λ i l. absurd (omega arith);
      known = λ x l e. absurd (omega (arith, u.older x l));
      newest = λ x l. omega (arith, u.older x l);
    }

-- what a stamp is newer than, a later one is
pub unused-later : {room stamp : ℕ} {s : List ℕ} → Unused room stamp s → Unused room (stamp + 1) s
unused-later u = record { low = u.low; size = u.size; older = λ x l. omega (arith, u.older x l) }

-- the stamps are cleared one by one
pub cleared_none : {room stamp : ℕ} {s : List ℕ} → Unused room stamp s → Cleared room (32 * room) s
cleared_none u = record { low = u.low; size = u.size; clear = λ x l. absurd (omega arith) }

module _ {room : ℕ} (i : ℕ) (s : List ℕ) (so_far : Cleared room i s) where
  pub cleared_more : i < 64 * room → Cleared room (i + 1) (set s i 0)
  cleared_more l = record { low = so_far.low; size = length-set s i 0 ∙ so_far.size; clear = λ x k. by_place x k (eq_or_ne (32 * room + x) i) }
    where
      by_place : (x : ℕ) → 32 * room + x < i + 1 → (32 * room + x ≡ i) ⊎ (32 * room + x ≡ i → ⊥) → get_or (set s i 0) (32 * room + x) 0 ≡ 0
      by_place x k (inl e) = rw e (get_or-set_same s i 0 0 (omega (arith, so_far.size)))
      by_place x k (inr e) = get_or-set_other s i (32 * room + x) 0 0 e ∙ so_far.clear x (omega arith)

  pub renewed_all : 64 * room ≤ i → Renewed room s 1
  renewed_all l =
      record {
        small = omega arith;
        unused = record { low = so_far.low; size = so_far.size; older = λ x k. rw (so_far.clear x (omega arith)) (omega arith) };
      }

module _ {room stamp : ℕ} {s : List ℕ} {count : ℕ} (good : PairSet room stamp s count) where
  -- a newer stamp is unused
  pub unused-after : Unused room (stamp + 1) s
  unused-after = record { low = good.low; size = good.size; older = λ x l. omega (arith, good.newest x l) }

  -- a pair without the stamp is no member
  not_marked : (x : ℕ) → (get_or s (32 * room + x) 0 ≡ stamp → ⊥) → Member s count x → ⊥
  not_marked x h m = h (ap (λ (y : ℕ). get_or s (32 * room + y) 0) (sym m.here) ∙ good.marked m.place m.inside)

  -- the stamp tells
  pub marked_decides : (x : ℕ) → x < 32 * room → Reflects (eqb (get_or s (32 * room + x) 0) stamp) (Member s count x)
  marked_decides x l =
      record {
        holds = λ h. good.known x l (eqb-true (get_or s (32 * room + x) 0) stamp h);
        fails = λ h. not_marked x (eqb-false (get_or s (32 * room + x) 0) stamp h);
      }

  -- nothing is added
  pub gains-none : (H : ℕ → Type 0) → ((x : ℕ) → H x → Member s count x) → Gains room stamp H s count s count
  gains-none H in-set = record { good = good; grows = omega arith; kept = λ i l. refl; came = λ i k l. absurd (omega arith); there = in-set }

  pub put-nothing : (x : ℕ) → x < 32 * room → get_or s (32 * room + x) 0 ≡ stamp → Gains room stamp (λ y. y ≡ x) s count s count
  put-nothing x l e = gains-none (λ y. y ≡ x) (λ y d. rw d (good.known x l e))

  module _ (x : ℕ) (small : x < 32 * room) (unmarked : get_or s (32 * room + x) 0 ≡ stamp → ⊥) where
    absent : Member s count x → ⊥
    absent = not_marked x unmarked

    -- the members and, after them, x
    with_x : ℕ → ℕ
    with_x i = get_or (set s count x) i 0

    last_x : with_x count ≡ x
    unfolding with_x
    last_x = get_or-set_same s count x 0 (omega (arith, good.size, good.few))

    other_x : (i : ℕ) → (i ≡ count → ⊥) → with_x i ≡ get_or s i 0
    unfolding with_x
    other_x i h = get_or-set_other s count i x 0 h

    with_x_below : (i : ℕ) → i < suc count → with_x i < 32 * room
    with_x_below i l = by_place (eq_or_ne i count)
      where
        by_place : (i ≡ count) ⊎ (i ≡ count → ⊥) → with_x i < 32 * room
        by_place (inl e) = rw (e, last_x) small
        by_place (inr e) = rw (other_x i e) (good.below i (omega arith))

    with_x_apart : (i j : ℕ) → i < suc count → j < suc count → with_x i ≡ with_x j → i ≡ j
    with_x_apart i j l k h = by-places (eq_or_ne i count) (eq_or_ne j count)
      where
        member : (n : ℕ) → n < suc count → (n ≡ count → ⊥) → get_or s n 0 ≡ x → ⊥
        member n l e p = absent (record { place = n; inside = omega arith; here = p })

        by-places : (i ≡ count) ⊎ (i ≡ count → ⊥) → (j ≡ count) ⊎ (j ≡ count → ⊥) → i ≡ j
        by-places (inl d) (inl e) = d ∙ sym e
        by-places (inl d) (inr e) = absurd (member j k e (sym (other_x j e) ∙ sym h ∙ ap with_x d ∙ last_x))
        by-places (inr d) (inl e) = absurd (member i l d (sym (other_x i d) ∙ h ∙ ap with_x e ∙ last_x))
        by-places (inr d) (inr e) = good.apart i j (omega arith) (omega arith) (sym (other_x i d) ∙ h ∙ other_x j e)

    room_for_one : count < 32 * room
    room_for_one = pigeonhole (suc count) (32 * room) with_x with_x_below with_x_apart

    -- the set with x written after its members, and its stamp
    written : List ℕ
    written = set (set s count x) (32 * room + x) stamp

    written-first : (i : ℕ) → i < 32 * room → get_or written i 0 ≡ with_x i
    unfolding written with_x
    written-first i l = get_or-set_other (set s count x) (32 * room + x) i stamp 0 (omega arith)

    written-kept : (i : ℕ) → i < count → get_or written i 0 ≡ get_or s i 0
    written-kept i l = written-first i (omega (arith, room_for_one)) ∙ other_x i (omega arith)

    written_x : get_or written count 0 ≡ x
    written_x = written-first count room_for_one ∙ last_x

    written-mark : get_or written (32 * room + x) 0 ≡ stamp
    unfolding written
    written-mark = get_or-set_same (set s count x) (32 * room + x) stamp 0 (simp length-set (omega (arith, good.size)))

    written-other : (y : ℕ) → (y ≡ x → ⊥) → get_or written (32 * room + y) 0 ≡ get_or s (32 * room + y) 0
    unfolding written
    written-other y h =
        get_or-set_other (set s count x) (32 * room + x) (32 * room + y) stamp 0 (λ e. h (omega arith))
        ∙ get_or-set_other s count (32 * room + y) x 0 (omega (arith, room_for_one))

    there : Member written (count + 1) x
    there = record { place = count; inside = omega arith; here = written_x }

    written-member : (y : ℕ) → Member s count y → Member written (count + 1) y
    written-member y m = record { place = m.place; inside = omega (arith, m.inside); here = written-kept m.place m.inside ∙ m.here }

    written-size : length written ≡ 64 * room
    unfolding written
    written-size = simp length-set good.size

    written-good : PairSet room stamp written (count + 1)
    written-good =
        record {
          low = good.low;
          size = written-size;
          few = omega (arith, room_for_one);
          below = λ i l. rw (written-first i (omega (arith, room_for_one))) (with_x_below i (omega arith));
          apart = λ i j l k e.
              with_x_apart i j (omega arith) (omega arith)
              (sym (written-first i (omega (arith, room_for_one))) ∙ e ∙ written-first j (omega (arith, room_for_one)));
          marked = λ i l. marked i (lt_or_le i count) l;
          known = λ y l e. known y l e (eq_or_ne y x);
          newest = λ y l. newest y l (eq_or_ne y x);
        }
      where
        marked : (i : ℕ) → (i < count) ⊎ (count ≤ i) → i < count + 1 → get_or written (32 * room + get_or written i 0) 0 ≡ stamp
        marked i (inl k) l =
            rw (written-kept i k) (written-other (get_or s i 0) (λ e. absent (record { place = i; inside = k; here = e })) ∙ good.marked i k)
        marked i (inr k) l = let e : i ≡ count = omega arith in rw (e, written_x) written-mark

        known : (y : ℕ) → y < 32 * room → get_or written (32 * room + y) 0 ≡ stamp → (y ≡ x) ⊎ (y ≡ x → ⊥) → Member written (count + 1) y
        known y l e (inl d) = rw d there
        known y l e (inr d) = written-member y (good.known y l (sym (written-other y d) ∙ e))

        newest : (y : ℕ) → y < 32 * room → (y ≡ x) ⊎ (y ≡ x → ⊥) → get_or written (32 * room + y) 0 ≤ stamp
        newest y l (inl d) = rw (d, written-mark) (omega arith)
        newest y l (inr d) = rw (written-other y d) (good.newest y l)

    pub put_written : Gains room stamp (λ y. y ≡ x) s count (set (set s count x) (32 * room + x) stamp) (count + 1)
    unfolding written
    put_written =
        record {
          good = written-good;
          grows = omega arith;
          kept = written-kept;
          came = λ i k l. let e : i ≡ count = omega arith in rw e written_x;
          there = λ y d. rw d there;
        }

-- what is added is added for another reason that is the same
pub gains_as : {room stamp : ℕ} {H J : ℕ → Type 0} {s : List ℕ} {count : ℕ} {t : List ℕ} {more : ℕ} → ((x : ℕ) → H x → J x) → ((x : ℕ) → J x → H x)
    → Gains room stamp H s count t more → Gains room stamp J s count t more
gains_as f g h = record { good = h.good; grows = h.grows; kept = h.kept; came = λ i k l. f _ (h.came i k l); there = λ x j. h.there x (g x j) }

-- additions add up
pub gains_on : {room stamp : ℕ} {H J : ℕ → Type 0} {s : List ℕ} {a : ℕ} {t : List ℕ} {b : ℕ} {u : List ℕ} {c : ℕ}
    → Gains room stamp H s a t b → Gains room stamp J t b u c → Gains room stamp (λ x. H x ⊎ J x) s a u c
gains_on {H = H} {J = J} {a = a} {b = b} {u = u} {c = c} p q =
    record {
      good = q.good;
      grows = omega (arith, p.grows, q.grows);
      kept = λ i l. q.kept i (omega (arith, p.grows)) ∙ p.kept i l;
      came = λ i k l. came i k l (lt_or_le i b);
      there = there;
    }
  where
    came : (i : ℕ) → a ≤ i → i < c → (i < b) ⊎ (b ≤ i) → H (get_or u i 0) ⊎ J (get_or u i 0)
    came i k l (inl h) = inl (rw (q.kept i h) (p.came i k h))
    came i k l (inr h) = inr (q.came i h l)

    there : (x : ℕ) → H x ⊎ J x → Member u c x
    there x (inl h) = still-member q (p.there x h)
    there x (inr h) = q.there x h
