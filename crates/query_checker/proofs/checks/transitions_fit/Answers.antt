-- `transitions_fit` meets its contract: block by block, the rest fits exactly where all do.
use Rattle.std.proofs.Common.{List, ◌≡◌, ◌⊎◌, inl, inr, ℕ, ◌+◌, ◌*◌, ◌/◌, ◌<◌, ◌≤◌, length, sym, ◌∙◌, arith}
use Rattle.base.specs.Truth.{lt_or_le}
use Rattle.query_simulation.specs.TablesLaws.{fit_from, moves-end}
use Rattle.query_checker.proofs.checks.transitions_fit.Goals as goal

-- a block ends where the next begins, or with the last transition
stepped : (m : List ℕ) (b end : ℕ) → (64 * b + 64 ≤ length m / 3 → end ≡ 64 * b + 64) → (length m / 3 < 64 * b + 64 → end ≡ length m / 3)
    → fit_from m (3 * end) ≡ fit_from m (3 * (64 * b)) → fit_from m (3 * (64 * (b + 1))) ≡ fit_from m (3 * (64 * b))
stepped m b end whole last same = by_place (lt_or_le (length m / 3) (64 * b + 64))
  where
    by_place : (length m / 3 < 64 * b + 64) ⊎ (64 * b + 64 ≤ length m / 3) → fit_from m (3 * (64 * (b + 1))) ≡ fit_from m (3 * (64 * b))
    by_place (inl l) =
        let e : end ≡ length m / 3 = last l in
        moves-end m (3 * (64 * (b + 1))) (omega arith) ∙ sym (moves-end m (3 * end) (omega arith)) ∙ same
    by_place (inr l) =
        let e : 3 * (64 * (b + 1)) ≡ 3 * end = omega (arith, whole l) in
        rw e same

pub loop-block-preserved : goal.loop-block-preserved
loop-block-preserved c =
    let f : c.min-from.result ≡ 64 * c.loop-block.block = omega arith in
    stepped c.args.moves.now c.loop-block.block c.min.result (λ l. omega arith) (λ l. omega arith) (rw f at (c.if-not-span_fits.ensures {u = tt}))
    ∙ c.loop-block.invariant

pub returns : goal.returns
returns c = sym (moves-end c.args.moves.now (3 * (64 * c.loop-block.block)) (omega arith)) ∙ c.loop-block.invariant
