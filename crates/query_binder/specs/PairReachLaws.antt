-- Laws of gathered pairs: the first, the hops of one more, and what the whole set says.
use Rattle.std.specs.Prelude.{true, List, ◌⊎◌, ◌≡◌, refl, ℕ, ◌+◌, ◌*◌, ◌<◌, ◌≤◌, eqb, length, get_or}
use Rattle.std.proofs.Common.{inl, inr, ap, arith}
use Rattle.base.specs.Reflects.{Reflects, decides_yes}
use Rattle.base.specs.Truth.{lt_or_le}
use Rattle.roles.specs.Role.{Chain}
use Rattle.networks.specs.Network.{Link}
use Rattle.networks.specs.LaidChain.{laid}
use Rattle.networks.specs.LaidChainLaws.{laid-place}
use Rattle.table_trails.specs.TableTrails.{Hop, Leads}
use Rattle.table_trails.specs.TableTrails.Hop.{quiet, ahead, back}
use Rattle.table_trails.specs.TableTrails.Leads.{stop, hop}
use Rattle.query_causes.specs.Query.{transitions_in}
use Rattle.query_binder.specs.Hops.{Hops}
use Rattle.query_binder.specs.HopsLaws.{pair-state, pair_place}
use Rattle.query_binder.specs.PairSets.{pair, state_of, place_of, Member, Gains}
use Rattle.query_binder.specs.PairSetsLaws.{still-member, marked_decides}
use Rattle.query_binder.specs.PairReach.{Reaching}

module _ {moves : List ℕ} {w : Chain} {room stamp head begin : ℕ} where
  pub reaching-start : begin < 32 → {s t : List ℕ} {count : ℕ} → Gains room stamp (λ y. y ≡ pair head begin) s 0 t count
      → Reaching moves w room stamp head begin 0 t count
  reaching-start near {t = t} g =
      record {
        good = g.good;
        done = omega arith;
        start = g.there (pair head begin) refl;
        sound = λ i l u j v.
            let e = g.came i (omega arith) l in
            rw (pair-state (get_or t i 0) head begin near e, pair_place (get_or t i 0) head begin near e) at v;
        closed = λ i l. absurd (omega arith);
      }

  -- the hops of one more member are added
  module _ {n : ℕ} {s : List ℕ} {count : ℕ} (so_far : Reaching moves w room stamp head begin n s count) where
    pub reaching-more : n < count → {t : List ℕ} {more : ℕ} → Gains room stamp (Hops moves w (get_or s n 0)) s count t more
        → Reaching moves w room stamp head begin (n + 1) t more
    reaching-more inside {t} {more} g =
        record {
          good = g.good;
          done = omega (arith, g.grows);
          start = still-member g so_far.start;
          sound = λ i l u j v. sound i l u j v (lt_or_le i count);
          closed = λ i l y h. closed i l y h (lt_or_le i n);
        }
      where
        sound : (i : ℕ) → i < more → (u j : ℕ) → Leads (transitions_in moves) (laid w) u j (state_of (get_or t i 0)) (place_of (get_or t i 0))
            → (i < count) ⊎ (count ≤ i) → Leads (transitions_in moves) (laid w) u j head begin
        sound i l u j v (inl k) = so_far.sound i k u j (rw (g.kept i k) at v)
        sound i l u j v (inr k) = so_far.sound n inside u j (hop (g.came i k l) v)

        closed : (i : ℕ) → i < n + 1 → (y : ℕ) → Hops moves w (get_or t i 0) y → (i < n) ⊎ (n ≤ i) → Member t more y
        closed i l y h (inl b) = still-member g (so_far.closed i b y (rw (g.kept i (omega arith)) at h))
        closed i l y h (inr b) = let e : i ≡ n = omega arith in g.there y (rw (e, g.kept n inside) at h)

    module _ (t j : ℕ) (small : t < room) (near : j < 32) where
      -- a member is led to
      found : Member s count (pair t j) → Leads (transitions_in moves) (laid w) t j head begin
      found m =
          so_far.sound m.place m.inside t j
          (rw (pair-state (get_or s m.place 0) t j near m.here, pair_place (get_or s m.place 0) t j near m.here) stop)

      pub reaching-found : get_or s (32 * room + pair t j) 0 ≡ stamp → Reflects true (Leads (transitions_in moves) (laid w) t j head begin)
      reaching-found e = decides_yes _ (found (so_far.good.known (pair t j) (omega arith) e))

      -- once the hops of every member are in, what is led to is a member
      module _ (all : count ≤ n) (few : length w ≤ 16) where
        hop-near : {p i q k : ℕ} → i < 32 → Hop (transitions_in moves) (laid w) p i q k → k < 32
        hop-near l (quiet m) = l
        hop-near l (ahead k m h n) = let (i, b, e) = laid-place w k m in rw (ap (λ (x : Link). x.to) e) (omega (arith, b, few))
        hop-near l (back k m h n) = let (i, b, e) = laid-place w k m in rw (ap (λ (x : Link). x.from) e) (omega (arith, b, few))

        onward : {p i : ℕ} → i < 32 → Leads (transitions_in moves) (laid w) t j p i → Member s count (pair p i) → Member s count (pair t j)
        onward l stop m = m
        onward {p} {i} l (hop {q = q} {k = k} h v) m =
            let next = hop-near l h in
            let here : (state_of (get_or s m.place 0) ≡ p) × (place_of (get_or s m.place 0) ≡ i) =
            (pair-state _ p i l m.here, pair_place _ p i l m.here) in
            let there : (state_of (pair q k) ≡ q) × (place_of (pair q k) ≡ k) = (pair-state _ q k next refl, pair_place _ q k next refl) in
            onward next v (so_far.closed m.place (omega (arith, m.inside)) (pair q k) (rw (here.0, here.1, there.0, there.1) h))

        pub reaching_decides : begin < 32
            → Reflects (eqb (get_or s (32 * room + pair t j) 0) stamp) (Leads (transitions_in moves) (laid w) t j head begin)
        reaching_decides l =
            let d = marked_decides so_far.good (pair t j) (omega arith) in
            record { holds = λ h. found (d.holds h); fails = λ h v. d.fails h (onward l v so_far.start) }
