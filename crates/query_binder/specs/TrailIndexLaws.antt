-- Laws of the index: zeros hold no transition, and one more enters.
use Rattle.std.specs.Prelude.{List, ◌≡◌, ℕ, ◌+◌, ◌*◌, ◌<◌, ◌≤◌, length, get_or, set, replicate}
use Rattle.std.proofs.Common.{arith, length-set}
use Rattle.std.proofs.lemmas.List.{length-replicate, get_or-replicate}
use Rattle.linked_lists.specs.LinkedListsLaws.{linked-none, linked-more}
use Rattle.query_simulation.specs.TransitionIndex.{slot_at}
use Rattle.query_simulation.specs.Transitions.{transition_count, Fit}
use Rattle.query_binder.specs.TrailIndex.{Indexed}

module _ {room : ℕ} {moves : List ℕ} where
  pub indexed-zeros : (size : ℕ) → room ≤ 2048 → Fit room moves → transition_count moves ≤ 5120 → 2 * room + transition_count moves ≤ size
      → Indexed room moves (replicate size 0) 0
  indexed-zeros size low fit few space =
      let long : length (replicate {A = ℕ} size 0) ≡ size = length-replicate {A = ℕ} size 0 in
      record {
        low = low;
        fit = fit;
        few = few;
        size = omega (arith, long);
        linked =
            linked-none (slot_at moves) (2 * room) (replicate size 0) (omega (arith, long))
            (λ x l. get_or-replicate {A = ℕ} size x 0 0 (omega arith));
      }

  -- one more transition enters
  module _ {index : List ℕ} {k list : ℕ} (so_far : Indexed room moves index k) (l : k < transition_count moves) (e : list ≡ slot_at moves k) where
    -- its list is one of them
    pub slot-below : list < 2 * room
    slot-below = let f = so_far.fit k l in omega (arith, e, f.from_fits, f.label_fits)

    pub indexed-next : Indexed room moves (set (set index (2 * room + k) (get_or index list 0)) list (k + 1)) (k + 1)
    indexed-next =
        rw e
        (record {
          low = so_far.low;
          fit = so_far.fit;
          few = so_far.few;
          size = simp length-set so_far.size;
          linked =
              linked-more (slot_at moves) (2 * room) index k so_far.linked (omega (arith, so_far.size)) (rw e at slot-below);
        })
