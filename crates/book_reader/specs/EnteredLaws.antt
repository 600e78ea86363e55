-- Laws of keys in lists: no key is entered at first; one more enters; a walk along a list meets every key with its remainder, and so finds whether
-- a key is one of those before an entry.
use Rattle.std.specs.Prelude.{true, false, List, ◌⊎◌, ◌≡◌, refl, ℕ, zero, suc, ◌+◌, ◌-◌, ◌%◌, ◌<◌, ◌≤◌, get_or, set, replicate}
use Rattle.std.proofs.Math.Bool.{or-true, or-false}
use Rattle.std.proofs.Common.{inl, inr, sym, ap, ◌∙◌, arith, eq-eqb, ne_eqb, length-set, get_or-set_same, get_or-set_other}
use Rattle.std.proofs.lemmas.List.{length-replicate, get_or-replicate}
use Rattle.base.specs.Truth.{lt_or_le}
use Rattle.linked_lists.specs.LinkedLists.{Latest}
use Rattle.linked_lists.specs.LinkedListsLaws as walk
use Rattle.book_reader.specs.Entered.{list_of, Entered, InList, Listed, among}

pub entered-none : (lists : ℕ) → lists ≤ 256 → Entered lists (replicate 256 0) (replicate (lists + 256) 0) 0
entered-none lists few =
    record {
      places = length-replicate {A = ℕ} 256 0;
      entries = length-replicate {A = ℕ} (lists + 256) 0;
      few = few;
      linked =
          walk.linked-none (list_of lists (replicate 256 0)) lists (replicate (lists + 256) 0)
          (rw (length-replicate {A = ℕ} (lists + 256) 0) (omega arith)) (λ x p. get_or-replicate {A = ℕ} (lists + 256) x 0 0 (omega arith));
    }

-- one more key enters
module _ {lists : ℕ} {keys index : List ℕ} {count : ℕ} (so_far : Entered lists keys index count) (x list : ℕ) (own : list ≡ x % lists)
    (small : list < lists) (space : count < 256) where
  own_list : list_of lists (set keys count x) count ≡ list
  own_list = ap (λ (n : ℕ). n % lists) (get_or-set_same keys count x 0 (omega (arith, so_far.places))) ∙ sym own

  other_lists : (k : ℕ) → k < count → list_of lists keys k ≡ list_of lists (set keys count x) k
  other_lists k l = ap (λ (n : ℕ). n % lists) (sym (get_or-set_other keys count k x 0 (omega arith)))

  pub entered-more : Entered lists (set keys count x) (set (set index (lists + count) (get_or index list 0)) list (count + 1)) (count + 1)
  entered-more =
      record {
        places = simp length-set so_far.places;
        entries = simp length-set so_far.entries;
        few = so_far.few;
        linked =
            rw own_list at
            (walk.linked-more (list_of lists (set keys count x)) lists index count
            (walk.linked-same (list_of lists keys) (list_of lists (set keys count x)) lists index count other_lists so_far.linked)
            (omega (arith, so_far.entries)) (rw own_list small));
      }

-- whether a number is one of the first keys, by the keys
pub among-found : (keys : List ℕ) (x count k : ℕ) → k < count → get_or keys k 0 ≡ x → among keys count x ≡ true
unfolding among
among-found keys x zero k l e = absurd (omega arith)
among-found keys x (suc m) k l e = by_place (λ (p : k < m). among-found keys x m k p e) (lt_or_le k m)
  where
    by_place : (k < m → among keys m x ≡ true) → (k < m) ⊎ (m ≤ k) → among keys (suc m) x ≡ true
    by_place before (inl p) = rw (before p) refl
    by_place before (inr p) =
        let d : k ≡ m = omega arith in
        rw (eq-eqb x (get_or keys m 0) (sym (rw d at e))) (or-true (among keys m x))

pub among_none : (keys : List ℕ) (x count : ℕ) → ((k : ℕ) → k < count → get_or keys k 0 ≡ x → ⊥) → among keys count x ≡ false
unfolding among
among_none keys x zero h = refl
among_none keys x (suc m) h =
    rw (among_none keys x m (λ k l. h k (omega arith)), ne_eqb x (get_or keys m 0) (λ e. h m (omega arith) (sym e))) refl

-- keys that are others count for nothing
among-skip : (keys : List ℕ) (x count more : ℕ) → ((k : ℕ) → count ≤ k → k < count + more → get_or keys k 0 ≡ x → ⊥)
    → among keys (count + more) x ≡ among keys count x
unfolding among
among-skip keys x count zero h = let e : count + 0 ≡ count = omega arith in rw e refl
among-skip keys x count (suc m) h =
    let e : count + suc m ≡ suc (count + m) = omega arith in
    rw (e, among-skip keys x count m (λ k l p. h k l (omega arith)), ne_eqb x (get_or keys (count + m) 0) (λ d. h (count + m) (omega arith) (omega arith) (sym d)))
    (or-false (among keys count x))

-- the last entry of x's list before a bound: an entry of it, and no key from there up to the bound is x
module _ {lists : ℕ} {keys index : List ℕ} {count : ℕ} (entered : Entered lists keys index count) (x : ℕ) {bound entry : ℕ}
    (here : Latest (list_of lists keys) (x % lists) bound entry) where
  pub latest_listed : bound ≤ count → Listed lists keys index entry x
  latest_listed l = record { count = count; entered = entered; here = record { low = omega (arith, here.low); own = here.own } }

  pub latest_among : among keys bound x ≡ among keys entry x
  latest_among =
      let e : entry + (bound - entry) ≡ bound = omega (arith, here.low) in
      rw e at (among-skip keys x entry (bound - entry) (λ k l p d. here.none_later k l (omega arith) (ap (λ (n : ℕ). n % lists) d)))

-- the next entry of a list
module _ {lists : ℕ} {keys index : List ℕ} {count : ℕ} (entered : Entered lists keys index count) {x entry : ℕ}
    (here : InList lists keys count x entry) (some : 0 < entry) where
  pub next-less : get_or index (lists + (entry - 1)) 0 < entry
  next-less = walk.next-less (list_of lists keys) lists index count entered.linked (x % lists) entry here.low here.own some

  pub next_in : InList lists keys count x (get_or index (lists + (entry - 1)) 0)
  next_in =
      record {
        low = omega (arith, next-less, here.low);
        own = walk.next-own (list_of lists keys) lists index count entered.linked (x % lists) entry here.low here.own some;
      }

  -- a key of the list from the next entry on is this one or one from this entry on
  pub next-met : (k : ℕ) → get_or index (lists + (entry - 1)) 0 ≤ k → list_of lists keys k ≡ x % lists → (k ≡ entry - 1) ⊎ (entry ≤ k)
  next-met = walk.met (list_of lists keys) lists index count entered.linked (x % lists) entry here.low here.own some

-- a walk along the list of x from an entry on has come to another: no key between them is x
pub record Walked (lists : ℕ) (keys index : List ℕ) (x last at : ℕ) : Type 0 where
  pub listed : Listed lists keys index at x
  pub back : at ≤ last
  pub passed : (k : ℕ) → at ≤ k → k < last → get_or keys k 0 ≡ x → ⊥

module _ {lists : ℕ} {keys index : List ℕ} {x last : ℕ} where
  pub walked_start : Listed lists keys index last x → Walked lists keys index x last last
  walked_start start = record { listed = start; back = omega arith; passed = λ k l i. absurd (omega arith) }

  module _ {at : ℕ} (so_far : Walked lists keys index x last at) where
    -- there are 256 places, and so many entries behind the lists
    pub walked_low : at ≤ 256
    walked_low = let entered = so_far.listed.entered in omega (arith, so_far.listed.here.low, entered.linked.space, entered.entries)

    pub walked_less : 0 < at → get_or index (lists + (at - 1)) 0 < at
    walked_less some = next-less so_far.listed.entered so_far.listed.here some

    pub walked_next : 0 < at → (get_or keys (at - 1) 0 ≡ x → ⊥) → Walked lists keys index x last (get_or index (lists + (at - 1)) 0)
    walked_next some d =
        let entered = so_far.listed.entered in
        record {
          listed = record { count = so_far.listed.count; entered = entered; here = next_in entered so_far.listed.here some };
          back = omega (arith, walked_less some, so_far.back);
          passed = λ k l i e. by_place k i e (next-met entered so_far.listed.here some k l (ap (λ (n : ℕ). n % lists) e));
        }
      where
        by_place : (k : ℕ) → k < last → get_or keys k 0 ≡ x → (k ≡ at - 1) ⊎ (at ≤ k) → ⊥
        by_place k i e (inl p) = d (rw (← p) e)
        by_place k i e (inr p) = so_far.passed k p i e

    -- the walk ends at an entry of x, or at 0
    pub walked_found : 0 < at → get_or keys (at - 1) 0 ≡ x → Latest (λ k. get_or keys k 0) x last at
    walked_found some e = record { low = so_far.back; own = λ s. e; none_later = so_far.passed }

    pub walked_end : at ≡ 0 → Latest (λ k. get_or keys k 0) x last 0
    walked_end e = record { low = omega arith; own = λ s. absurd (omega arith); none_later = λ k l. so_far.passed k (omega arith) }

-- whether x is one of the first keys, by its last place
module _ (keys : List ℕ) {x last entry : ℕ} (here : Latest (λ k. get_or keys k 0) x last entry) where
  pub found_among : 0 < entry → among keys last x ≡ true
  found_among some = among-found keys x last (entry - 1) (omega (arith, here.low)) (here.own some)

  pub none-among : entry ≡ 0 → among keys last x ≡ false
  none-among e = among_none keys x last (λ k l. here.none_later k (omega arith) l)

-- a key that is looked for among all the first ones, by the last entry of its list, or the key at a place among those before it, by the entry for that place
module _ {lists : ℕ} {keys index : List ℕ} {count : ℕ} (entered : Entered lists keys index count) where
  module _ (x list : ℕ) (own : list ≡ x % lists) (small : list < lists) where
    last_latest : Latest (list_of lists keys) (x % lists) count (get_or index list 0)
    last_latest = rw (← own) (entered.linked.last list small)

    pub last-listed : Listed lists keys index (get_or index list 0) x
    last-listed = latest_listed entered x last_latest (omega arith)

    pub last-among : among keys count x ≡ among keys (get_or index list 0) x
    last-among = latest_among entered x last_latest

    -- the last place of x before that entry is its last place of all
    pub last_found : {entry : ℕ} → Latest (λ k. get_or keys k 0) x (get_or index list 0) entry → Latest (λ k. get_or keys k 0) x count entry
    last_found {entry} found =
        record {
          low = omega (arith, found.low, last_latest.low);
          own = found.own;
          none_later = λ k l j e. by_place k l j e (lt_or_le k (get_or index list 0));
        }
      where
        by_place : (k : ℕ) → entry ≤ k → k < count → get_or keys k 0 ≡ x → (k < get_or index list 0) ⊎ (get_or index list 0 ≤ k) → ⊥
        by_place k l j e (inl p) = found.none_later k l p e
        by_place k l j e (inr p) = last_latest.none_later k p j (ap (λ (n : ℕ). n % lists) e)

  module _ (k : ℕ) (inside : k < count) where
    pub before-listed : Listed lists keys index (get_or index (lists + k) 0) (get_or keys k 0)
    before-listed = latest_listed entered (get_or keys k 0) (entered.linked.before k inside) (omega arith)

    pub before-among : among keys k (get_or keys k 0) ≡ among keys (get_or index (lists + k) 0) (get_or keys k 0)
    before-among = latest_among entered (get_or keys k 0) (entered.linked.before k inside)
