-- Levels found by masks that hold the gathered order are those of the rules.
use Rattle.std.specs.Prelude.{Bool, List, ◌⊎◌, ◌≡◌, ℕ, suc, ◌<◌, ◌≤◌, length, get_or}
use Rattle.std.proofs.Common.{inl, inr, sym, ◌∙◌, le_antisymm, arith, ext_get_or}
use Rattle.base.specs.Truth.{lt_or_le}
use Rattle.base.specs.Writing.{over}
use Rattle.base.specs.WritingLaws.{over-length, over-new, over_old}
use Rattle.roles.specs.Rule.{Rule}
use Rattle.roles.specs.Named.{Named}
use Rattle.name_sets.specs.Mask.{has, Holds, count}
use Rattle.name_sets.specs.MaskLaws.{count_same}
use Rattle.order.specs.Regular.{holds}
use Rattle.order.specs.ClosureLaws.{Closed, Forced, forced-lower}
use Rattle.order.specs.RankLaws.{rank-lower}
use Rattle.order.specs.Depth.{highest, level, levels, depth}
use Rattle.order.specs.DepthLaws.{forced-low, forced_high, levels-length, level-at, levels-longest, highest-at, highest-met}
use Rattle.order.specs.Longest.{Longest, longest-one}
use Rattle.order_levels.specs.Levels.{rank, Under, LeveledBy}

module _ (n : ℕ) (ρs : List Rule) (named : Named n ρs) (few : n ≤ 64) {lower : ℕ → ℕ → Bool} (c : Closed ρs lower) {masks : List ℕ} (size : length masks ≡ n)
    (h : Holds masks lower) where
  rank-count : (x : ℕ) → x < n → rank masks x ≡ count 64 (λ y. lower y x)
  rank-count x p = count_same 64 (has (get_or masks x 0)) (λ y. lower y x) (λ y q. h.bits x y (omega arith) q)

  -- what the rules force below a name is under it in the masks, and nothing else is
  forced-under : (y x : ℕ) → Forced ρs y x → Under masks y x
  forced-under y x f =
      let p : y < n = forced-low n ρs named f in
      let q : x < n = forced_high n ρs named f in
      let l = forced-lower (holds lower) ρs c.order f in
      record {
        masked = rw size p;
        within = h.bits x y (omega arith) (omega arith) ∙ l;
        lower = rw (rank-count y p, rank-count x q) (rank-lower 64 ρs lower c.order y x (omega arith) l);
      }

  under-forced : (y x : ℕ) → x < n → Under masks y x → Forced ρs y x
  under-forced y x p u = c.forced y x (sym (h.bits x y (omega arith) (omega (arith, u.masked, size))) ∙ u.within)

  module _ {found : List ℕ} {highest-found : ℕ} (l : LeveledBy masks found highest-found) where
    longest : Longest n (Forced ρs) (λ x. get_or found x 0)
    longest =
        record {
          rises = λ y x f. l.longest.rises y x (forced-under y x f);
          reached = λ x p. by_case x p (l.longest.reached x (rw size p));
        }
      where
        by_case : (x : ℕ) → x < n → (get_or found x 0 ≡ 1) ⊎ ((y : ℕ) × (y < length masks) × Under masks y x × (get_or found x 0 ≡ suc (get_or found y 0)))
            → (get_or found x 0 ≡ 1) ⊎ ((y : ℕ) × (y < n) × Forced ρs y x × (get_or found x 0 ≡ suc (get_or found y 0)))
        by_case x p (inl e) = inl e
        by_case x p (inr (y, q, u, e)) = inr (y, rw size at q, under-forced y x p u, e)

    level-found : (x : ℕ) → x < n → get_or found x 0 ≡ level n ρs x
    level-found = longest-one longest (levels-longest n ρs named c)

    -- a level for each name, over 64 zeros
    pub levels-found : (zeros : List ℕ) → length zeros ≡ 64 → ((x : ℕ) → x < 64 → get_or zeros x 0 ≡ 0) → found ≡ over (levels n ρs) zeros
    levels-found zeros long zero-at =
        ext_get_or 0 found (over (levels n ρs) zeros) (l.size ∙ sym (over-length (levels n ρs) zeros (rw (levels-length, long) few) ∙ long))
        (λ x p. by_place x (rw l.size at p) (lt_or_le x n))
      where
        by_place : (x : ℕ) → x < 64 → (x < n) ⊎ (n ≤ x) → get_or found x 0 ≡ get_or (over (levels n ρs) zeros) x 0
        by_place x p (inl q) = level-found x q ∙ sym (over-new (levels n ρs) zeros x (rw levels-length q) ∙ level-at n ρs x q)
        by_place x p (inr q) = l.others x (rw size q) ∙ sym (over_old (levels n ρs) zeros x (rw levels-length q) ∙ zero-at x p)

    pub depth-found : highest-found ≡ depth n ρs
    depth-found = l.depth_is ∙ le_antisymm (by-found (highest-met found)) (by-given (highest-met (levels n ρs)))
      where
        by_place : (x : ℕ) → (x < n) ⊎ (n ≤ x) → get_or found x 0 ≤ depth n ρs
        by_place x (inl q) = rw (level-found x q, ← level-at n ρs x q) (highest-at (levels n ρs) x (rw levels-length q))
        by_place x (inr q) = omega (arith, l.others x (rw size q))

        by-found : (highest found ≡ 0) ⊎ ((x : ℕ) × (x < length found) × (highest found ≡ get_or found x 0)) → highest found ≤ depth n ρs
        by-found (inl e) = omega arith
        by-found (inr (x, p, e)) = rw e (by_place x (lt_or_le x n))

        by-given : (depth n ρs ≡ 0) ⊎ ((x : ℕ) × (x < length (levels n ρs)) × (depth n ρs ≡ get_or (levels n ρs) x 0)) → depth n ρs ≤ highest found
        by-given (inl e) = omega arith
        by-given (inr (x, p, e)) =
            let q : x < n = rw levels-length at p in
            rw (e, level-at n ρs x q, ← level-found x q) (highest-at found x (omega (arith, l.size)))
