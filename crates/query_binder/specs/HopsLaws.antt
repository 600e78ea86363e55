-- Laws of hops: a walk along a list of the index adds the hops by one label; those by silent transitions, ahead and back are all the hops of a pair.
use Rattle.std.specs.Prelude.{List, ◌⊎◌, ◌≡◌, refl, ℕ, suc, ◌+◌, ◌*◌, ◌-◌, ◌<◌, ◌≤◌, length, get_or}
use Rattle.std.proofs.Common.{inl, inr, ap, arith}
use Rattle.roles.specs.Role.{Chain, inv}
use Rattle.networks.specs.Network.{Link}
use Rattle.networks.specs.LaidChain.{laid}
use Rattle.networks.specs.LaidChainLaws.{laid-member, laid-place}
use Rattle.tables.specs.Tables.{epsilon}
use Rattle.table_trails.specs.TableTrails.{Hop}
use Rattle.table_trails.specs.TableTrails.Hop.{quiet, ahead, back}
use Rattle.linked_lists.specs.LinkedLists.{Latest}
use Rattle.linked_lists.specs.LinkedListsLaws as linked
use Rattle.query_causes.specs.Query.{transitions_in}
use Rattle.query_simulation.specs.TransitionIndex.{slot, slot_at}
use Rattle.query_simulation.specs.Transitions.{from_at, label_at, to_at, transition_count}
use Rattle.query_simulation.specs.TransitionsLaws.{Numbered, arrow-at, numbered}
use Rattle.query_binder.specs.PairSets.{pair, state_of, place_of, PairSet, Gains}
use Rattle.query_binder.specs.PairSetsLaws.{gains-none, gains_as, gains_on}
use Rattle.query_binder.specs.TrailIndex.{Indexed}
use Rattle.query_binder.specs.Hops.{Meets, By, Listed, Walked, Ahead, Back, Hops}

-- a pair is that of its state and its place
pub pair-state : (y q k : ℕ) → k < 32 → y ≡ pair q k → state_of y ≡ q
pair-state y q k l e = omega arith

pub pair_place : (y q k : ℕ) → k < 32 → y ≡ pair q k → place_of y ≡ k
pair_place y q k l e = omega arith

-- a transition has the label, or not
module _ (moves : List ℕ) (k a i : ℕ) {room stamp : ℕ} {s : List ℕ} {count : ℕ} where
  pub met-same : {t : List ℕ} {more : ℕ} → label_at moves k ≡ a → Gains room stamp (λ y. y ≡ pair (to_at moves k) i) s count t more
      → Gains room stamp (Meets moves k a i) s count t more
  met-same e = gains_as (λ y d. (e, d)) (λ y h. h.1)

  pub met-other : (label_at moves k ≡ a → ⊥) → PairSet room stamp s count → Gains room stamp (Meets moves k a i) s count s count
  met-other e good = gains-none good (Meets moves k a i) (λ y h. absurd (e h.0))

module _ {room : ℕ} {moves index : List ℕ} (indexed : Indexed room moves index (transition_count moves)) {stamp p a i : ℕ} {s : List ℕ} {count : ℕ}
  where
    -- a walk along the list for p and a begins with no transition met
    pub walked_start : slot p a < 2 * room → PairSet room stamp s count → Walked moves room stamp p a i (get_or index (slot p a) 0) s count s count
    walked_start small good =
        let here : Latest (slot_at moves) (slot p a) (transition_count moves) (get_or index (slot p a) 0) = indexed.linked.last (slot p a) small in
        record {
          low = here.low;
          own = here.own;
          gains = gains-none good _ (λ y h. absurd (here.none_later h.number h.later h.inside h.own));
        }

    -- one more transition is met
    module _ {t : List ℕ} {more entry : ℕ} (so_far : Walked moves room stamp p a i entry s count t more) (some : 0 < entry) where
      pub next-less : get_or index (2 * room + (entry - 1)) 0 < entry
      next-less =
          linked.next-less (slot_at moves) (2 * room) index (transition_count moves) indexed.linked (slot p a) entry so_far.low so_far.own some

      next-own : 0 < get_or index (2 * room + (entry - 1)) 0 → slot_at moves (get_or index (2 * room + (entry - 1)) 0 - 1) ≡ slot p a
      next-own =
          linked.next-own (slot_at moves) (2 * room) index (transition_count moves) indexed.linked (slot p a) entry so_far.low so_far.own some

      met : (k : ℕ) → get_or index (2 * room + (entry - 1)) 0 ≤ k → slot_at moves k ≡ slot p a → (k ≡ entry - 1) ⊎ (entry ≤ k)
      met = linked.met (slot_at moves) (2 * room) index (transition_count moves) indexed.linked (slot p a) entry so_far.low so_far.own some

      pub walked_more : {u : List ℕ} {all : ℕ} → Gains room stamp (Meets moves (entry - 1) a i) t more u all
          → Walked moves room stamp p a i (get_or index (2 * room + (entry - 1)) 0) s count u all
      walked_more one =
          record {
            low = omega (arith, next-less, so_far.low);
            own = next-own;
            gains = gains_as to-listed from-listed (gains_on so_far.gains one);
          }
        where
          to-listed : (y : ℕ) → Listed moves p a i entry y ⊎ Meets moves (entry - 1) a i y
              → Listed moves p a i (get_or index (2 * room + (entry - 1)) 0) y
          to-listed y (inl h) = record { number = h.number; later = omega (arith, next-less, h.later); inside = h.inside; own = h.own; meets = h.meets }
          to-listed y (inr h) =
              record { number = entry - 1; later = omega (arith, next-less); inside = omega (arith, so_far.low); own = so_far.own some; meets = h }

          from-listed : (y : ℕ) → Listed moves p a i (get_or index (2 * room + (entry - 1)) 0) y
              → Listed moves p a i entry y ⊎ Meets moves (entry - 1) a i y
          from-listed y h = by_number (met h.number h.later h.own)
            where
              by_number : (h.number ≡ entry - 1) ⊎ (entry ≤ h.number) → Listed moves p a i entry y ⊎ Meets moves (entry - 1) a i y
              by_number (inl e) = inr (rw e at h.meets)
              by_number (inr l) = inl (record { number = h.number; later = l; inside = h.inside; own = h.own; meets = h.meets })

    -- every transition from p with the label a has been met
    pub walked_all : {t : List ℕ} {more : ℕ} → i < 32 → Walked moves room stamp p a i 0 s count t more
        → Gains room stamp (By moves p a i) s count t more
    walked_all near all = gains_as to-by from-by all.gains
      where
        to-by : (y : ℕ) → Listed moves p a i 0 y → By moves p a i y
        to-by y h =
            let label : label_at moves h.number ≡ a = h.meets.0 in
            let from : from_at moves h.number ≡ p = omega (arith, h.own, label) in (
              pair_place y (to_at moves h.number) i near h.meets.1,
              rw (pair-state y (to_at moves h.number) i near h.meets.1, ← from, ← label) (arrow-at moves h.number h.inside),
            )

        from-by : (y : ℕ) → By moves p a i y → Listed moves p a i 0 y
        from-by y h =
            let n : Numbered moves p a (state_of y) = numbered moves p a (state_of y) h.1 in
            record {
              number = n.number;
              later = omega arith;
              inside = n.inside;
              own = rw (n.from_is, n.label_is) refl;
              meets = (n.label_is, omega (arith, n.to_is, h.0));
            }

-- the hops ahead and back are those by one label
module _ (moves : List ℕ) (w : Chain) (p i : ℕ) {room stamp : ℕ} {s : List ℕ} {count : ℕ} where
  pub gains-ahead : {t : List ℕ} {more : ℕ} → i < length w → get_or w i 0 < epsilon → Gains room stamp (By moves p (get_or w i 0) (i + 1)) s count t more
      → Gains room stamp (Ahead moves w p i) s count t more
  gains-ahead l small = gains_as (λ y h. (l, omega (arith, h.0), small, h.1)) (λ y h. (omega (arith, h.1), h.3))

  pub ahead_none : length w ≤ i → PairSet room stamp s count → Gains room stamp (Ahead moves w p i) s count s count
  ahead_none l good = gains-none good _ (λ y h. absurd (let f : ⊥ = omega (arith, h.0) in f))

  pub gains-back : {t : List ℕ} {more : ℕ} → 0 < i → i ≤ length w → inv (get_or w (i - 1) 0) < epsilon
      → Gains room stamp (By moves p (inv (get_or w (i - 1) 0)) (i - 1)) s count t more → Gains room stamp (Back moves w p i) s count t more
  gains-back some l small =
      gains_as (λ y h. (omega (arith, h.0), omega (arith, h.0), rw h.0 small, rw h.0 h.1))
      (λ y h. let e : place_of y ≡ i - 1 = omega (arith, h.0) in (e, rw e at h.3))

  pub back_none : i ≡ 0 → PairSet room stamp s count → Gains room stamp (Back moves w p i) s count s count
  back_none e good = gains-none good _ (λ y h. absurd (let f : ⊥ = omega (arith, e, h.0) in f))

  pub back-past : length w < i → PairSet room stamp s count → Gains room stamp (Back moves w p i) s count s count
  back-past l good = gains-none good _ (λ y h. absurd (let f : ⊥ = omega (arith, h.0, h.1) in f))

-- the hops of a pair, kind by kind
module _ (moves : List ℕ) (w : Chain) where
  to-hop : (p i y : ℕ) → (By moves p 128 i y ⊎ Ahead moves w p i y) ⊎ Back moves w p i y
      → Hop (transitions_in moves) (laid w) p i (state_of y) (place_of y)
  to-hop p i y (inl (inl (e, m))) = rw e (quiet m)
  to-hop p i y (inl (inr (l, e, small, m))) = rw e (ahead (record { from = i; role = get_or w i 0; to = suc i }) (laid-member w i l) small m)
  to-hop p i y (inr (e, l, small, m)) =
      rw e (back (record { from = place_of y; role = get_or w (place_of y) 0; to = suc (place_of y) }) (laid-member w (place_of y) l) small m)

  from-hop : {p i q k : ℕ} → Hop (transitions_in moves) (laid w) p i q k → (y : ℕ) → state_of y ≡ q → place_of y ≡ k
      → (By moves p 128 i y ⊎ Ahead moves w p i y) ⊎ Back moves w p i y
  from-hop (quiet m) y d e = inl (inl (e, rw d m))
  from-hop (ahead l m small n) y d e =
      let (j, h, f) = laid-place w l m in
      let source : l.from ≡ j = ap (λ (x : Link). x.from) f in
      let role : l.role ≡ get_or w j 0 = ap (λ (x : Link). x.role) f in
      let target : l.to ≡ suc j = ap (λ (x : Link). x.to) f in
      inl (inr (rw (source, d) (h, rw target at e, rw role at small, rw role at n)))
  from-hop (back l m small n) y d e =
      let (j, h, f) = laid-place w l m in
      let source : l.from ≡ j = ap (λ (x : Link). x.from) f in
      let role : l.role ≡ get_or w j 0 = ap (λ (x : Link). x.role) f in
      let target : l.to ≡ suc j = ap (λ (x : Link). x.to) f in
      inr (rw (target, d) (rw (rw source at e) (refl, h, rw role at small, rw role at n)))

  pub gains_hops : (x : ℕ) {room stamp : ℕ} {s : List ℕ} {a : ℕ} {t : List ℕ} {b : ℕ} {u : List ℕ} {c : ℕ} {v : List ℕ} {d : ℕ}
      → Gains room stamp (By moves (state_of x) 128 (place_of x)) s a t b → Gains room stamp (Ahead moves w (state_of x) (place_of x)) t b u c
      → Gains room stamp (Back moves w (state_of x) (place_of x)) u c v d → Gains room stamp (Hops moves w x) s a v d
  gains_hops x f g h = gains_as (λ y. to-hop (state_of x) (place_of x) y) (λ y e. from-hop e y refl refl) (gains_on (gains_on f g) h)
