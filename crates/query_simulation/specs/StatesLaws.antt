-- Laws of sets of states: where a state is absent there is room for it; what is added stays, and adds up.
use Rattle.std.specs.Prelude.{List, ◌⊎◌, ◌≡◌, refl, ℕ, suc, ◌+◌, ◌*◌, ◌-◌, ◌<◌, ◌≤◌, max, eqb, length, get_or, set, replicate}
use Rattle.std.proofs.Common.{inl, inr, sym, ap, ◌∙◌, eqb-true, drop-set-lt}
use native.Mathlib.Omega.{arith}
use Rattle.std.proofs.lemmas.Bool.{eqb-false}
use Rattle.std.proofs.Math.ListN.{length-set}
use Rattle.std.proofs.lemmas.List.{length-replicate, get_or-replicate}
use Rattle.std.proofs.Math.Seq.{get_or-set_same, get_or-set_other}
use Rattle.base.specs.Truth.{lt_or_le, eq_or_ne}
use Rattle.base.specs.Reflects.{Reflects}
use Rattle.base.specs.Pigeonhole.{pigeonhole}
use Rattle.query_simulation.specs.States.{Member, States, Unused, Behind, Cleared, Renewed, Added, Put}

-- what stands behind the sets stays
pub behind-same : (room : ℕ) (s : List ℕ) → Behind room s s
behind-same room s = record { same = refl; rest = refl }

pub behind_on : {room : ℕ} {s t u : List ℕ} → Behind room s t → Behind room t u → Behind room s u
behind_on b c = record { same = c.same ∙ b.same; rest = c.rest ∙ b.rest }

behind_set : (room : ℕ) (s : List ℕ) (i v : ℕ) → i < 3 * room → Behind room s (set s i v)
behind_set room s i v l = record { same = length-set s i v; rest = drop-set-lt (3 * room) s i v l }

-- a member stays one
pub still-member : {room stamp list : ℕ} {s : List ℕ} {count : ℕ} {t : List ℕ} {more : ℕ} {May : ℕ → Type 0} {q : ℕ} → Added room stamp list s count t more May
    → Member s list count q → Member t list more q
still-member a m = record { place = m.place; inside = omega (arith, a.grows, m.inside); here = a.kept m.place m.inside ∙ m.here }

-- zeros are older than every stamp
pub unused-zeros : {room : ℕ} (size : ℕ) → room ≤ 2048 → 3 * room ≤ size → Unused room 1 (replicate size 0)
unused-zeros {room} size low l =
    record {
      low = low;
      size = omega (arith, length-replicate {A = ℕ} size 0);
      older = λ q k. omega (arith, get_or-replicate {A = ℕ} size (2 * room + q) 0 0 (omega arith));
    }

-- what a stamp is newer than, a later one is
pub unused-later : {room stamp : ℕ} {s : List ℕ} (later : ℕ) → stamp ≤ later → Unused room stamp s → Unused room later s
unused-later later h u = record { low = u.low; size = u.size; older = λ q l. omega (arith, u.older q l) }

-- an empty set, whatever stands in its list
pub states-none : {room stamp : ℕ} {s : List ℕ} (list : ℕ) → max list (room - list) ≡ room → Unused room stamp s → States room stamp s list 0
states-none list side u =
    record {
      members = record { low = u.low; size = u.size; side = side; few = omega arith; below = λ i l. absurd (omega arith) };
      apart = λ i j l. absurd (omega arith);
      marked = λ i l. absurd (omega arith);
      known = λ q l e. absurd (omega (arith, u.older q l));
      newest = λ q l. omega (arith, u.older q l);
    }

-- the stamps are cleared one by one
module _ (room : ℕ) (s : List ℕ) where
  pub cleared_none : Cleared room (2 * room) s s
  cleared_none = record { behind = behind-same room s; clear = λ q l. absurd (omega arith) }

  module _ (i : ℕ) (t : List ℕ) (so_far : Cleared room i s t) where
    pub cleared_more : i < 3 * room → i < length t → Cleared room (i + 1) s (set t i 0)
    cleared_more l inside =
        record { behind = behind_on so_far.behind (behind_set room t i 0 l); clear = λ q k. by_place q k (eq_or_ne (2 * room + q) i) }
      where
        by_place : (q : ℕ) → 2 * room + q < i + 1 → (2 * room + q ≡ i) ⊎ (2 * room + q ≡ i → ⊥) → get_or (set t i 0) (2 * room + q) 0 ≡ 0
        by_place q k (inl e) = rw e (get_or-set_same t i 0 0 inside)
        by_place q k (inr e) = get_or-set_other t i (2 * room + q) 0 0 e ∙ so_far.clear q (omega arith)

    pub renewed_all : room ≤ 2048 → 3 * room ≤ length s → 3 * room ≤ i → Renewed room s t 1
    renewed_all low size l =
        record {
          small = omega arith;
          unused = record { low = low; size = omega (arith, so_far.behind.same); older = λ q k. rw (so_far.clear q (omega arith)) (omega arith) };
          behind = so_far.behind;
        }

module _ {room stamp : ℕ} {s : List ℕ} {list count : ℕ} (good : States room stamp s list count) where
  -- a newer stamp is unused
  pub unused-after : (later : ℕ) → stamp < later → Unused room later s
  unused-after later h = record { low = good.members.low; size = good.members.size; older = λ q l. omega (arith, good.newest q l) }

  -- a state without the stamp is no member
  pub not_marked : (q : ℕ) → (get_or s (2 * room + q) 0 ≡ stamp → ⊥) → Member s list count q → ⊥
  not_marked q h m = h (ap (λ (x : ℕ). get_or s (2 * room + x) 0) (sym m.here) ∙ good.marked m.place m.inside)

  -- the stamp tells
  pub marked_decides : (q : ℕ) → q < room → Reflects (eqb (get_or s (2 * room + q) 0) stamp) (Member s list count q)
  marked_decides q l =
      record {
        holds = λ h. good.known q l (eqb-true (get_or s (2 * room + q) 0) stamp h);
        fails = λ h. not_marked q (eqb-false (get_or s (2 * room + q) 0) stamp h);
      }

  -- nothing added
  pub added_none : (May : ℕ → Type 0) → Added room stamp list s count s count May
  added_none May =
      record {
        good = good;
        grows = omega arith;
        kept = λ i l. refl;
        came = λ i k l. absurd (omega arith);
        other = λ x i e l. refl;
        behind = behind-same room s;
      }

  pub put-nothing : (q : ℕ) → q < room → get_or s (2 * room + q) 0 ≡ stamp → Put room stamp list q s count s count
  put-nothing q l e = record { added = added_none (λ x. x ≡ q); there = good.known q l e }

  module _ (q : ℕ) (small : q < room) (unmarked : get_or s (2 * room + q) 0 ≡ stamp → ⊥) where
    absent : Member s list count q → ⊥
    absent = not_marked q unmarked

    -- the members and, after them, q
    with_q : ℕ → ℕ
    with_q i = get_or (set s (list + count) q) (list + i) 0

    last_q : with_q count ≡ q
    unfolding with_q
    last_q = get_or-set_same s (list + count) q 0 (omega (arith, good.members))

    other_q : (i : ℕ) → (i ≡ count → ⊥) → with_q i ≡ get_or s (list + i) 0
    unfolding with_q
    other_q i h = get_or-set_other s (list + count) (list + i) q 0 (λ e. h (omega arith))

    with_q_below : (i : ℕ) → i < suc count → with_q i < room
    with_q_below i l = by_place (eq_or_ne i count)
      where
        by_place : (i ≡ count) ⊎ (i ≡ count → ⊥) → with_q i < room
        by_place (inl e) = rw (e, last_q) small
        by_place (inr e) = rw (other_q i e) (good.members.below i (omega arith))

    with_q_apart : (i j : ℕ) → i < suc count → j < suc count → with_q i ≡ with_q j → i ≡ j
    with_q_apart i j l k h = by-places (eq_or_ne i count) (eq_or_ne j count)
      where
        member : (n : ℕ) → n < suc count → (n ≡ count → ⊥) → get_or s (list + n) 0 ≡ q → ⊥
        member n l e p = absent (record { place = n; inside = omega arith; here = p })

        by-places : (i ≡ count) ⊎ (i ≡ count → ⊥) → (j ≡ count) ⊎ (j ≡ count → ⊥) → i ≡ j
        by-places (inl d) (inl e) = d ∙ sym e
        by-places (inl d) (inr e) = absurd (member j k e (sym (other_q j e) ∙ sym h ∙ ap with_q d ∙ last_q))
        by-places (inr d) (inl e) = absurd (member i l d (sym (other_q i d) ∙ h ∙ ap with_q e ∙ last_q))
        by-places (inr d) (inr e) = good.apart i j (omega arith) (omega arith) (sym (other_q i d) ∙ h ∙ other_q j e)

    room_for_one : count < room
    room_for_one = pigeonhole (suc count) room with_q with_q_below with_q_apart

    -- the set with q written after its members, and its stamp
    written : List ℕ
    written = set (set s (list + count) q) (2 * room + q) stamp

    written-first : (i : ℕ) → i < room → get_or written (list + i) 0 ≡ with_q i
    unfolding written with_q
    written-first i l = get_or-set_other (set s (list + count) q) (2 * room + q) (list + i) stamp 0 (omega (arith, good.members.side))

    written-kept : (i : ℕ) → i < count → get_or written (list + i) 0 ≡ get_or s (list + i) 0
    written-kept i l = written-first i (omega (arith, room_for_one)) ∙ other_q i (omega arith)

    written_q : get_or written (list + count) 0 ≡ q
    written_q = written-first count room_for_one ∙ last_q

    written-mark : get_or written (2 * room + q) 0 ≡ stamp
    unfolding written
    written-mark = get_or-set_same (set s (list + count) q) (2 * room + q) stamp 0 (simp length-set (omega (arith, good.members.size)))

    -- what is neither the place of q nor that of its stamp
    elsewhere : (x : ℕ) → (x ≡ 2 * room + q → ⊥) → (x ≡ list + count → ⊥) → get_or written x 0 ≡ get_or s x 0
    unfolding written
    elsewhere x h k = get_or-set_other (set s (list + count) q) (2 * room + q) x stamp 0 h ∙ get_or-set_other s (list + count) x q 0 k

    written-other : (x : ℕ) → (x ≡ q → ⊥) → get_or written (2 * room + x) 0 ≡ get_or s (2 * room + x) 0
    written-other x h = elsewhere (2 * room + x) (λ e. h (omega arith)) (omega (arith, room_for_one, good.members.side))

    there : Member written list (count + 1) q
    there = record { place = count; inside = omega arith; here = written_q }

    written-member : (x : ℕ) → Member s list count x → Member written list (count + 1) x
    written-member x m = record { place = m.place; inside = omega (arith, m.inside); here = written-kept m.place m.inside ∙ m.here }

    written_behind : Behind room s written
    unfolding written
    written_behind =
        behind_on (behind_set room s (list + count) q (omega (arith, room_for_one, good.members.side)))
        (behind_set room (set s (list + count) q) (2 * room + q) stamp (omega arith))

    written-good : States room stamp written list (count + 1)
    written-good =
        record {
          members =
              record {
                low = good.members.low;
                size = omega (arith, written_behind.same, good.members.size);
                side = good.members.side;
                few = omega (arith, room_for_one);
                below = λ i l. rw (written-first i (omega (arith, room_for_one))) (with_q_below i (omega arith));
              };
          apart = λ i j l k e.
              with_q_apart i j (omega arith) (omega arith)
              (sym (written-first i (omega (arith, room_for_one))) ∙ e ∙ written-first j (omega (arith, room_for_one)));
          marked = λ i l. marked i (lt_or_le i count) l;
          known = λ x l e. known x l e (eq_or_ne x q);
          newest = λ x l. newest x l (eq_or_ne x q);
        }
      where
        marked : (i : ℕ) → (i < count) ⊎ (count ≤ i) → i < count + 1 → get_or written (2 * room + get_or written (list + i) 0) 0 ≡ stamp
        marked i (inl k) l =
            rw (written-kept i k)
            (written-other (get_or s (list + i) 0) (λ e. absent (record { place = i; inside = k; here = e })) ∙ good.marked i k)
        marked i (inr k) l = let e : i ≡ count = omega arith in rw (e, written_q) written-mark

        known : (x : ℕ) → x < room → get_or written (2 * room + x) 0 ≡ stamp → (x ≡ q) ⊎ (x ≡ q → ⊥) → Member written list (count + 1) x
        known x l e (inl d) = rw d there
        known x l e (inr d) = written-member x (good.known x l (sym (written-other x d) ∙ e))

        newest : (x : ℕ) → x < room → (x ≡ q) ⊎ (x ≡ q → ⊥) → get_or written (2 * room + x) 0 ≤ stamp
        newest x l (inl d) = rw (d, written-mark) (omega arith)
        newest x l (inr d) = rw (written-other x d) (good.newest x l)

    pub put_written : Put room stamp list q s count (set (set s (list + count) q) (2 * room + q) stamp) (count + 1)
    unfolding written
    put_written =
        record {
          added =
              record {
                good = written-good;
                grows = omega arith;
                kept = written-kept;
                came = λ i k l. let e : i ≡ count = omega arith in rw e written_q;
                other = λ x i e l. elsewhere (x + i) (omega arith) (omega (arith, room_for_one, good.members.side));
                behind = written_behind;
              };
          there = there;
        }

-- additions add up
pub added_on : {room stamp list : ℕ} {s : List ℕ} {a : ℕ} {t : List ℕ} {b : ℕ} {u : List ℕ} {c : ℕ} {May : ℕ → Type 0}
    → Added room stamp list s a t b May → Added room stamp list t b u c May → Added room stamp list s a u c May
added_on {list = list} {a = a} {b = b} {u = u} {c = c} {May = May} p q =
    record {
      good = q.good;
      grows = omega (arith, p.grows, q.grows);
      kept = λ i l. q.kept i (omega (arith, p.grows)) ∙ p.kept i l;
      came = λ i k l. by_place i k l (lt_or_le i b);
      other = λ x i e l. q.other x i e l ∙ p.other x i e l;
      behind = behind_on p.behind q.behind;
    }
  where
    by_place : (i : ℕ) → a ≤ i → i < c → (i < b) ⊎ (b ≤ i) → May (get_or u (list + i) 0)
    by_place i k l (inl h) = rw (q.kept i h) (p.came i k h)
    by_place i k l (inr h) = q.came i h l

-- what may come may come for another reason
pub added_as : {room stamp list : ℕ} {s : List ℕ} {a : ℕ} {t : List ℕ} {b : ℕ} {May Also : ℕ → Type 0} → ((x : ℕ) → May x → Also x)
    → Added room stamp list s a t b May → Added room stamp list s a t b Also
added_as f p =
    record {
      good = p.good;
      grows = p.grows;
      kept = p.kept;
      came = λ i k l. f _ (p.came i k l);
      other = p.other;
      behind = p.behind;
    }
