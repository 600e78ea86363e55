-- Laws of reading with sets of states: how the sets of a step follow from what was put into them, and what the last set decides.
use Rattle.std.specs.Prelude.{Bool, false, List, [], ◌∷◌, ◌⊎◌, ◌≡◌, refl, ℕ, suc, ◌+◌, ◌*◌, ◌-◌, ◌/◌, ◌<◌, ◌≤◌, length, get_or, drop}
use Rattle.std.proofs.lemmas.Bool.{false≢true}
use Rattle.std.proofs.Common.{inl, inr, add-one, arith, drop-cons}
use Rattle.std.proofs.Math.Seq.{drop-length}
use Rattle.roles.specs.Role.{Chain}
use Rattle.base.specs.Truth.{lt_or_le}
use Rattle.tables.specs.Tables.{epsilon}
use Rattle.tables.specs.Path.{Path}
use Rattle.tables.specs.Path.Path.{stop, skip, read}
use Rattle.query_causes.specs.Query.{transitions_in}
use Rattle.base.specs.Reflects.{Reflects}
use Rattle.query_simulation.specs.States.{States, Member, Put}
use Rattle.query_simulation.specs.StatesLaws.{states-none, added_none, added_on, added_as, still-member, behind_on, unused-after}
use Rattle.query_simulation.specs.Transitions.{transition_count, Arrow}
use Rattle.query_simulation.specs.TransitionIndex.{Indexed, Prepared, Spread}
use Rattle.query_simulation.specs.TransitionIndexLaws.{indexed-behind, spread-all}
use Rattle.query_simulation.specs.Reading.{Leads, Reaches, Closing, Steps, Gathered, Stepped, Read}

module _ {moves : List ℕ} {room stamp list : ℕ} {s : List ℕ} {count : ℕ} where
  -- closing: nothing is done; one more member is done
  pub closing_start : States room stamp s list count → Closing moves room stamp list 0 s count s count
  closing_start good = record { added = added_none good _; closed = λ i l. absurd (omega arith) }

  module _ {n : ℕ} {t : List ℕ} {more : ℕ} (so_far : Closing moves room stamp list n s count t more) where
    pub closing_more : n < more → {v : List ℕ} {all : ℕ} → Spread room stamp list moves (2 * get_or t (list + n) 0 + 1) epsilon 0 t more v all
        → Closing moves room stamp list (n + 1) s count v all
    closing_more inside {v} {all} spread =
        record {
          added =
              added_on so_far.added (added_as (λ q m w u path. from_member w u (skip (m (get_or t (list + n) 0) refl) path) (lt_or_le n count)) spread.added);
          closed = λ i l q m. by_place i l q m (lt_or_le i n);
        }
      where
        -- a path from the member n is one from a member of s
        from_member : (w : Chain) (u : ℕ) → Leads moves (get_or t (list + n) 0) w u → (n < count) ⊎ (count ≤ n) → Reaches moves s list count w u
        from_member w u path (inl l) = record { place = n; inside = l; path = rw (so_far.added.kept n l) at path }
        from_member w u path (inr l) = so_far.added.came n l inside w u path

        by_place : (i : ℕ) → i < n + 1 → (q : ℕ) → Arrow moves (get_or v (list + i) 0) epsilon q → (i < n) ⊎ (n ≤ i) → Member v list all q
        by_place i l q m (inl k) = still-member spread.added (so_far.closed i k q (rw (spread.added.kept i (omega arith)) at m))
        by_place i l q m (inr k) =
            let e : i ≡ n = omega arith in
            spread-all spread (get_or t (list + n) 0) q refl (rw (e, spread.added.kept n inside) at m)

    -- what is closed reaches what was reached before
    closing_forth : (w : Chain) (u : ℕ) → Reaches moves s list count w u → Reaches moves t list more w u
    closing_forth w u r =
        record {
          place = r.place;
          inside = omega (arith, so_far.added.grows, r.inside);
          path = rw (so_far.added.kept r.place r.inside) r.path;
        }

    closing_back : (w : Chain) (u : ℕ) → Reaches moves t list more w u → Reaches moves s list count w u
    closing_back w u r = by_place (lt_or_le r.place count)
      where
        by_place : (r.place < count) ⊎ (count ≤ r.place) → Reaches moves s list count w u
        by_place (inl l) = record { place = r.place; inside = l; path = rw (so_far.added.kept r.place l) at r.path }
        by_place (inr l) = so_far.added.came r.place l r.inside w u r.path

-- gathering: nothing is done; one more member is done
module _ {moves : List ℕ} {room stamp list a : ℕ} {s : List ℕ} {count : ℕ} (from : Steps moves room stamp list a s count) where
  pub gathered-start : Gathered moves room stamp list a 0 s count s 0
  gathered-start =
      record {
        added = added_none (states-none (room - list) (omega (arith, from.members.side)) from.unused) _;
        there = λ i l. absurd (omega arith);
      }

  module _ {n : ℕ} {t : List ℕ} {more : ℕ} (so_far : Gathered moves room stamp list a n s count t more) where
    -- the list that is read stays
    pub same-member : n < count → get_or t (list + n) 0 ≡ get_or s (list + n) 0
    same-member inside = so_far.added.other list n (omega (arith, from.members.side)) (omega (arith, from.members.few))

    pub gathered-more : n < count → {v : List ℕ} {all : ℕ} → Spread room stamp (room - list) moves (2 * get_or t (list + n) 0) a 0 t more v all
        → Gathered moves room stamp list a (n + 1) s count v all
    gathered-more inside {v} {all} spread =
        record {
          added = added_on so_far.added (added_as (λ q m. (n, inside, m (get_or s (list + n) 0) own)) spread.added);
          there = λ i l q m. by_place i l q m (lt_or_le i n);
        }
      where
        own : 2 * get_or s (list + n) 0 + a / epsilon ≡ 2 * get_or t (list + n) 0
        own = omega (arith, same-member inside, from.letter)

        by_place : (i : ℕ) → i < n + 1 → (q : ℕ) → Arrow moves (get_or s (list + i) 0) a q → (i < n) ⊎ (n ≤ i) → Member v (room - list) all q
        by_place i l q m (inl k) = still-member spread.added (so_far.there i k q m)
        by_place i l q m (inr k) =
            let e : i ≡ n = omega arith in
            spread-all spread (get_or s (list + n) 0) q own (rw e at m)

  -- a letter is read: what is gathered, then closed
  module _ {t : List ℕ} {more : ℕ} (gathered : Gathered moves room stamp list a count s count t more) where
    -- a path along a letter and more, from a member of a closed set
    along : (w v : Chain) (p u : ℕ) → Member s list count p → v ≡ a ∷ w → Path (transitions_in moves) p v u → Reaches moves t (room - list) more w u
    along w v p u m e stop = absurd (let z : ◌≡◌ {A = ℕ} 0 1 = cc in let f : ⊥ = omega arith in f)
    along w v p u m e (skip {q = q} x path) = along w v q u (from.closed m.place m.inside q (rw m.here x)) e path
    along w v p u m e (read {q = q} {a = b} {w = rest} l x path) =
        let same : b ≡ a = cc in
        let left : rest ≡ w = cc in
        let there : Member t (room - list) more q = gathered.there m.place m.inside q (rw (m.here, ← same) x) in
        record { place = there.place; inside = there.inside; path = rw (there.here, ← left) path }

    pub stepped : {v : List ℕ} {all : ℕ} → Closing moves room stamp (room - list) all t more v all → Stepped moves room stamp list a s count v all
    stepped closing =
        record {
          good = closing.added.good;
          closed = closing.closed;
          behind = behind_on gathered.added.behind closing.added.behind;
          forth = λ w u r.
              closing_forth closing w u (along w (a ∷ w) _ u (record { place = r.place; inside = r.inside; here = refl }) refl r.path);
          back = λ w u r. came w u (closing_back closing w u r);
        }
      where
        came : (w : Chain) (u : ℕ) → Reaches moves t (room - list) more w u → Reaches moves s list count (a ∷ w) u
        came w u r =
            let x = gathered.added.came r.place (omega arith) r.inside in
            record { place = x.0; inside = x.1; path = read from.letter x.2 r.path }

-- reading a chain from a state on
module _ {moves : List ℕ} {room stamp list : ℕ} (p : ℕ) (w : Chain) where
  pub read-start : {s t : List ℕ} {more : ℕ} → Indexed room moves s (transition_count moves) → Put room stamp list p s 0 t more → {v : List ℕ} {all : ℕ}
      → Closing moves room stamp list all t more v all → Read moves room stamp list p w 0 v all
  read-start {t = t} {more = more} indexed put closing =
      record {
        good = closing.added.good;
        closed = closing.closed;
        indexed = indexed-behind (behind_on put.added.behind closing.added.behind) indexed;
        forth = λ u path.
            closing_forth closing w u (record { place = put.there.place; inside = put.there.inside; path = rw put.there.here path });
        back = λ u r. only u (closing_back closing w u r);
      }
    where
      only : (u : ℕ) → Reaches moves t list more w u → Leads moves p w u
      only u r = rw (put.added.came r.place (omega arith) r.inside) at r.path

  pub read_more : {old i : ℕ} {s : List ℕ} {count : ℕ} → Read moves room old list p w i s count → i < length w → {t : List ℕ} {more : ℕ}
      → Stepped moves room stamp list (get_or w i 0) s count t more → Read moves room stamp (room - list) p w (i + 1) t more
  read_more {i = i} so_far l step =
      record {
        good = step.good;
        closed = step.closed;
        indexed = indexed-behind step.behind so_far.indexed;
        forth = λ u path. rw add-one (step.forth (drop (suc i) w) u (rw (drop-cons w i 0 l) at (so_far.forth u path)));
        back = λ u r. so_far.back u (rw (drop-cons w i 0 l) (step.back (drop (suc i) w) u (rw add-one at r)));
      }

  -- what stands then is older than a later stamp: the next link can be read, or another chain
  module _ {i : ℕ} {s : List ℕ} {count later : ℕ} (so_far : Read moves room stamp list p w i s count) (newer : stamp < later) where
    pub read-steps : {a : ℕ} → a < epsilon → Steps moves room later list a s count
    read-steps letter =
        record {
          letter = letter;
          members = so_far.good.members;
          closed = so_far.closed;
          unused = unused-after so_far.good later newer;
          indexed = so_far.indexed;
        }

    pub read_left : Prepared room later moves (transition_count moves) s
    read_left = record { unused = unused-after so_far.good later newer; indexed = so_far.indexed }

  -- no path is left where no member is
  pub read_dead : {i : ℕ} {s : List ℕ} {count : ℕ} → Read moves room stamp list p w i s count → count ≡ 0 → (u : ℕ) → Reflects false (Leads moves p w u)
  read_dead so_far none u = record { holds = λ h. absurd (false≢true h); fails = λ h path. omega (arith, (so_far.forth u path).inside, none) }

  -- at the end the members are the states that the chain leads to
  module _ {s : List ℕ} {count : ℕ} (all : Read moves room stamp list p w (length w) s count) where
    at-end : (v : Chain) (q u : ℕ) → Member s list count q → v ≡ [] → Path (transitions_in moves) q v u → Member s list count u
    at-end v q u m e stop = m
    at-end v q u m e (skip {q = r} x path) = at-end v r u (all.closed m.place m.inside r (rw m.here x)) e path
    at-end v q u m e (read l x path) = absurd (let z : ◌≡◌ {A = ℕ} 0 1 = cc in let f : ⊥ = omega arith in f)

    pub read_decides : (u : ℕ) {b : Bool} → Reflects b (Member s list count u) → Reflects b (Leads moves p w u)
    read_decides u d = record { holds = λ h. back (d.holds h); fails = λ h path. d.fails h (forth path) }
      where
        back : Member s list count u → Leads moves p w u
        back m = all.back u (rw drop-length (record { place = m.place; inside = m.inside; path = rw m.here stop }))

        forth : Leads moves p w u → Member s list count u
        forth path =
            let r : Reaches moves s list count [] u = rw drop-length at (all.forth u path) in
            at-end [] (get_or s (list + r.place) 0) u (record { place = r.place; inside = r.inside; here = refl }) refl r.path
