-- `transitions_fit` meets its contract. The invariant: the transitions from a block on fit exactly where all do.
use Rattle.std.specs.Prelude.{◌≡◌, ◌*◌}
use Rattle.query_causes.specs.Query.{transitions_in, transitions_fit}
use Rattle.query_simulation.specs.TablesLaws.{fit_from}
use Rattle.query_checker.proofs.checks.transitions_fit.Given as goal

abbrev pub invariant-loop-block : goal.invariant-loop-block
invariant-loop-block l = fit_from l.moves (3 * (64 * l.block)) ≡ transitions_fit (transitions_in l.moves)
