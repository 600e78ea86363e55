-- `span_fits` meets its contract. The invariant: those before number k fit, and those from it on, exactly where those from the first on do.
use Rattle.std.specs.Prelude.{◌&&◌, ◌≡◌, ◌*◌}
use Rattle.query_simulation.specs.TablesLaws.{fit_from}
use Rattle.query_checker.proofs.checks.span_fits.Given as goal

abbrev pub invariant-loop-k : goal.invariant-loop-k
invariant-loop-k l = (l.fit && fit_from l.moves (3 * l.k)) ≡ fit_from l.moves (3 * l.from)
