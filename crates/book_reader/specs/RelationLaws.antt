-- Laws of the search in one relation: the walk along its list, last rule first, which compares each rule with all before it, or goes by the keys met.
use Rattle.std.specs.Prelude.{true, false, List, ◌⊎◌, ◌≡◌, refl, ℕ, ◌+◌, ◌-◌, ◌%◌, ◌<◌, ◌≤◌, length, set, replicate}
use Rattle.std.proofs.Common.{inl, inr, sym, ap, ◌∙◌, arith, get_or-set_same, get_or-set_other}
use Rattle.std.proofs.Math.ListN.{get_or, length-set, length-replicate}
use Rattle.base.specs.Truth.{lt_or_le}
use Rattle.book_reader.specs.Entered.{list_of, Entered, InList, Listed, among}
use Rattle.linked_lists.specs.LinkedLists.{Latest}
use Rattle.book_reader.specs.EnteredLaws.{entered-none, among-found, among_none, before-listed, before-among, next-less, next_in, next-met}
use Rattle.book_reader.specs.LowestLaws.{found-lower}
use Rattle.book_reader.specs.Lowest.{repeated, Gathered, Narrowed, Lowered}

-- a relation's list, and an entry of it
pub record Relation (keys targets : List ℕ) (name lowest at : ℕ) : Type 0 where
  pub gathered : Gathered keys targets lowest
  pub small : name < 64
  pub here : InList 64 keys gathered.count name at

module _ {keys targets : List ℕ} {name lowest : ℕ} where
  module _ (gathered : Gathered keys targets lowest) (small : name < 64) where
    last_of : Latest (list_of 64 keys) name gathered.count (get_or targets name 0)
    last_of = gathered.entered.linked.last name small

    relation-start : Relation keys targets name lowest (get_or targets name 0)
    relation-start =
        record {
          gathered = gathered;
          small = small;
          here = record { low = last_of.low; own = λ s. last_of.own s ∙ (let e : name ≡ name % 64 = omega arith in e) };
        }

  module _ {at : ℕ} (relation : Relation keys targets name lowest at) where
    own_name : name % 64 ≡ name
    own_name = omega (arith, relation.small)

    pub relation-low : at ≤ 256
    relation-low =
        let entered = relation.gathered.entered in omega (arith, relation.here.low, entered.linked.space, entered.entries)

    relation-inside : 0 < at → at - 1 < relation.gathered.count
    relation-inside some = omega (arith, relation.here.low)

    pub relation-less : 0 < at → get_or targets (64 + (at - 1)) 0 < at
    relation-less some = next-less relation.gathered.entered relation.here some

    relation-next : 0 < at → Relation keys targets name lowest (get_or targets (64 + (at - 1)) 0)
    relation-next some =
        record {
          gathered = relation.gathered;
          small = relation.small;
          here = next_in relation.gathered.entered relation.here some;
        }

    -- a rule of the relation, from the next entry on, is the one at this entry or one from this entry on
    relation-met : 0 < at → (k : ℕ) → get_or targets (64 + (at - 1)) 0 ≤ k → get_or keys k 0 % 64 ≡ name → (k ≡ at - 1) ⊎ (at ≤ k)
    relation-met some k l e = next-met relation.gathered.entered relation.here some k l (e ∙ sym own_name)

-- each rule compared with all before it: the walk has come to an entry
pub record Compared (keys targets : List ℕ) (name lowest least at : ℕ) : Type 0 where
  pub relation : Relation keys targets name lowest at
  pub low : least ≤ lowest
  pub found : least < lowest → repeated keys least ≡ true
  pub none : (k : ℕ) → at ≤ k → k < least → get_or keys k 0 % 64 ≡ name → repeated keys k ≡ false

module _ {keys targets : List ℕ} {name lowest : ℕ} where
  pub compared_start : Gathered keys targets lowest → name < 64 → Compared keys targets name lowest lowest (get_or targets name 0)
  compared_start gathered small =
      record {
        relation = relation-start gathered small;
        low = omega arith;
        found = λ l. absurd (omega arith);
        none = λ k l p e. absurd ((last_of gathered small).none_later k l (omega (arith, gathered.low)) e);
      }

  module _ {least at : ℕ} (so_far : Compared keys targets name lowest least at) where
    pub compared_end : at ≡ 0 → Narrowed keys name lowest least
    compared_end e = record { low = so_far.low; found = so_far.found; none = λ k l p. so_far.none k (omega arith) l p }

    module _ (some : 0 < at) where
      -- the rule at this entry is judged, and the number with it
      compared_next : (least' : ℕ) → least' ≤ least → (least' < least → repeated keys least' ≡ true)
          → (at - 1 < least' → repeated keys (at - 1) ≡ false) → Compared keys targets name lowest least' (get_or targets (64 + (at - 1)) 0)
      compared_next least' low found judged =
          record {
            relation = relation-next so_far.relation some;
            low = omega (arith, so_far.low);
            found = found-lower keys so_far.found low found;
            none = λ k l p e. by-rule k p e (relation-met so_far.relation some k l e);
          }
        where
          by-rule : (k : ℕ) → k < least' → get_or keys k 0 % 64 ≡ name → (k ≡ at - 1) ⊎ (at ≤ k) → repeated keys k ≡ false
          by-rule k p e (inl d) = rw d (judged (omega arith))
          by-rule k p e (inr d) = so_far.none k d (omega arith) e

      by_list : repeated keys (at - 1) ≡ among keys (get_or targets (64 + (at - 1)) 0) (get_or keys (at - 1) 0)
      by_list = before-among so_far.relation.gathered.entered (at - 1) (relation-inside so_far.relation some)

      pub compared_listed : Listed 64 keys targets (get_or targets (64 + (at - 1)) 0) (get_or keys (at - 1) 0)
      compared_listed = before-listed so_far.relation.gathered.entered (at - 1) (relation-inside so_far.relation some)

      pub compared_found : at - 1 < least → among keys (get_or targets (64 + (at - 1)) 0) (get_or keys (at - 1) 0) ≡ true
          → Compared keys targets name lowest (at - 1) (get_or targets (64 + (at - 1)) 0)
      compared_found l t = compared_next (at - 1) (omega arith) (λ p. by_list ∙ t) (λ p. absurd (omega arith))

      pub compared_passed : among keys (get_or targets (64 + (at - 1)) 0) (get_or keys (at - 1) 0) ≡ false
          → Compared keys targets name lowest least (get_or targets (64 + (at - 1)) 0)
      compared_passed t = compared_next least (omega arith) (λ p. absurd (omega arith)) (λ p. by_list ∙ t)

      pub compared_above : least ≤ at - 1 → Compared keys targets name lowest least (get_or targets (64 + (at - 1)) 0)
      compared_above l = compared_next least (omega arith) (λ p. absurd (omega arith)) (λ p. absurd (omega arith))

-- the keys met in lists of their own, with the numbers of their rules: the walk has come to an entry, and the rules from there on are met
pub record Split (keys targets : List ℕ) (name lowest : ℕ) (met numbers index : List ℕ) (count least at : ℕ) : Type 0 where
  pub relation : Relation keys targets name lowest at
  pub low : least ≤ lowest
  pub found : least < lowest → repeated keys least ≡ true
  pub none : (i k : ℕ) → at ≤ i → i < k → k < least → get_or keys i 0 % 64 ≡ name → get_or keys i 0 ≡ get_or keys k 0 → ⊥
  pub entered : Entered 251 met index count
  pub places : length numbers ≡ 256
  pub space : count + at ≤ 256
  pub later : (p : ℕ) → p < count → (at ≤ get_or numbers p 0) × (get_or keys (get_or numbers p 0) 0 ≡ get_or met p 0)
  pub falling : (p q : ℕ) → p < q → q < count → get_or numbers q 0 < get_or numbers p 0
  pub all_met : (k : ℕ) → at ≤ k → k < relation.gathered.count → get_or keys k 0 % 64 ≡ name → (p : ℕ) × (p < count) × (get_or numbers p 0 ≡ k)

module _ {keys targets : List ℕ} {name lowest : ℕ} where
  pub split-start : Gathered keys targets lowest → name < 64
      → Split keys targets name lowest (replicate 256 0) (replicate 256 0) (replicate 507 0) 0 lowest (get_or targets name 0)
  unfolding relation-start
  split-start gathered small =
      let last = last_of gathered small in
      record {
        relation = relation-start gathered small;
        low = omega arith;
        found = λ l. absurd (omega arith);
        none = λ i k l j p e. absurd (last.none_later i l (omega (arith, gathered.low)) e);
        entered = entered-none 251 (omega arith);
        places = length-replicate {A = ℕ} 256 0;
        space = omega (arith, last.low, gathered.entered.linked.space, gathered.entered.entries);
        later = λ p l. absurd (omega arith);
        falling = λ p q l j. absurd (omega arith);
        all_met = λ k l j e. absurd (last.none_later k l j e);
      }

  module _ {met numbers index : List ℕ} {count least at : ℕ} (so_far : Split keys targets name lowest met numbers index count least at) where
    pub split-end : at ≡ 0 → Narrowed keys name lowest least
    split-end z =
        record {
          low = so_far.low;
          found = so_far.found;
          none = λ k l e. among_none keys (get_or keys k 0) k (λ i p d. so_far.none i k (omega arith) p l (ap (λ (x : ℕ). x % 64) d ∙ e) d);
        }

    -- the rule at this entry goes into the lists, and the number is lowered to the rule whose key was met last, if there is one
    module _ (some : 0 < at) {entry least' : ℕ} (met-last : Latest (λ k. get_or met k 0) (get_or keys (at - 1) 0) count entry)
        (lowered : Lowered numbers entry least least') where
      own : get_or keys (at - 1) 0 % 64 ≡ name
      own = so_far.relation.here.own some ∙ own_name so_far.relation

      -- the number is a repeat
      found_now : least' < least → repeated keys least' ≡ true
      found_now l =
          let some-met : 0 < entry = (lowered.found l).0 in
          let p : entry - 1 < count = omega (arith, met-last.low) in
          let e : least' ≡ get_or numbers (entry - 1) 0 = (lowered.found l).1 in
          among-found keys (get_or keys least' 0) least' (at - 1) (rw e (omega (arith, (so_far.later (entry - 1) p).0)))
          (sym (met-last.own some-met) ∙ sym (so_far.later (entry - 1) p).1 ∙ ap (λ (n : ℕ). get_or keys n 0) (sym e))

      -- no rule after this one that is below the number has its key
      judged : (k : ℕ) → at - 1 < k → k < least' → get_or keys k 0 ≡ get_or keys (at - 1) 0 → ⊥
      judged k l j e =
          let m = so_far.all_met k (omega arith) (omega (arith, lowered.low, so_far.low, so_far.relation.gathered.low)) (ap (λ (x : ℕ). x % 64) e ∙ own) in
          let at_place : get_or met m.0 0 ≡ get_or keys (at - 1) 0
          = sym (so_far.later m.0 m.1).1 ∙ ap (λ (n : ℕ). get_or keys n 0) m.2 ∙ e in
          by_place m.0 m.1 m.2 at_place (lt_or_le m.0 entry)
        where
          before : (p : ℕ) → get_or numbers p 0 ≡ k → p < entry → (p < entry - 1) ⊎ (entry - 1 ≤ p) → ⊥
          before p e q (inl r) = omega (arith, lowered.own (omega arith), so_far.falling p (entry - 1) r (omega (arith, met-last.low)))
          before p e q (inr r) =
              let z : p ≡ entry - 1 = omega arith in
              let f : get_or numbers (entry - 1) 0 ≡ k = rw (← z) e in omega (arith, lowered.own (omega arith))

          by_place : (p : ℕ) → p < count → get_or numbers p 0 ≡ k → get_or met p 0 ≡ get_or keys (at - 1) 0 → (p < entry) ⊎ (entry ≤ p) → ⊥
          by_place p l e d (inl q) = before p e q (lt_or_le p (entry - 1))
          by_place p l e d (inr q) = met-last.none_later p q l d

      pub split-next : {met' index' : List ℕ} → met' ≡ set met count (get_or keys (at - 1) 0) → Entered 251 met' index' (count + 1)
          → Split keys targets name lowest met' (set numbers count (at - 1)) index' (count + 1) least' (get_or targets (64 + (at - 1)) 0)
      unfolding relation-next
      split-next stored entered =
          record {
            relation = relation-next so_far.relation some;
            low = omega (arith, so_far.low, lowered.low);
            found = found-lower keys so_far.found lowered.low found_now;
            none = λ i k l j p e d. by-rule i k j p e d (relation-met so_far.relation some i l e);
            entered = entered;
            places = simp length-set so_far.places;
            space = omega (arith, so_far.space, less);
            later = λ p l. rw stored (by_place p l (lt_or_le p count));
            falling = λ p q l j. fall p q l (lt_or_le q count) j;
            all_met = λ k l p e. of_rule k p e (relation-met so_far.relation some k l e);
          }
        where
          less : get_or targets (64 + (at - 1)) 0 < at
          less = relation-less so_far.relation some

          room : count < 256
          room = omega (arith, so_far.space)

          number-new : get_or (set numbers count (at - 1)) count 0 ≡ at - 1
          number-new = get_or-set_same numbers count (at - 1) 0 (omega (arith, room, so_far.places))

          number_old : (p : ℕ) → p < count → get_or (set numbers count (at - 1)) p 0 ≡ get_or numbers p 0
          number_old p l = get_or-set_other numbers count p (at - 1) 0 (omega arith)

          by-rule : (i k : ℕ) → i < k → k < least' → get_or keys i 0 % 64 ≡ name → get_or keys i 0 ≡ get_or keys k 0 → (i ≡ at - 1) ⊎ (at ≤ i) → ⊥
          by-rule i k j p e d (inl q) = judged k (omega arith) p (sym d ∙ ap (λ (n : ℕ). get_or keys n 0) q)
          by-rule i k j p e d (inr q) = so_far.none i k q j (omega (arith, lowered.low)) e d

          by_place : (p : ℕ) → p < count + 1 → (p < count) ⊎ (count ≤ p)
              → (get_or targets (64 + (at - 1)) 0 ≤ get_or (set numbers count (at - 1)) p 0)
              × (get_or keys (get_or (set numbers count (at - 1)) p 0) 0 ≡ get_or (set met count (get_or keys (at - 1) 0)) p 0)
          by_place p l (inl q) =
              let was = so_far.later p q in
              rw (number_old p q, get_or-set_other met count p (get_or keys (at - 1) 0) 0 (omega arith)) (omega (arith, less, was.0), was.1)
          by_place p l (inr q) =
              let z : p ≡ count = omega arith in
              rw (z, number-new, get_or-set_same met count (get_or keys (at - 1) 0) 0 (omega (arith, room, so_far.entered.places))) (omega (arith, less), refl)

          fall : (p q : ℕ) → p < q → (q < count) ⊎ (count ≤ q) → q < count + 1
              → get_or (set numbers count (at - 1)) q 0 < get_or (set numbers count (at - 1)) p 0
          fall p q l (inl r) j = rw (number_old q r, number_old p (omega arith)) (so_far.falling p q l r)
          fall p q l (inr r) j =
              let z : q ≡ count = omega arith in
              rw (z, number-new, number_old p (omega arith)) (omega (arith, (so_far.later p (omega arith)).0))

          of_rule : (k : ℕ) → k < so_far.relation.gathered.count → get_or keys k 0 % 64 ≡ name → (k ≡ at - 1) ⊎ (at ≤ k)
              → (p : ℕ) × (p < count + 1) × (get_or (set numbers count (at - 1)) p 0 ≡ k)
          of_rule k p e (inl q) = (count, omega arith, number-new ∙ sym q)
          of_rule k p e (inr q) = let m = so_far.all_met k q p e in (m.0, omega (arith, m.1), number_old m.0 m.1 ∙ m.2)
