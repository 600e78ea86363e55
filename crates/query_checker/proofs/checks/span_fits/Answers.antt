-- `span_fits` meets its contract: each transition moves its tests from those ahead to those passed.
use Rattle.std.proofs.Common.{Bool, true, false, ◌≡◌, ◌&&◌, ◌+◌, ◌*◌, refl, sym, ap, ◌∙◌, arith}
use Rattle.query_simulation.specs.TablesLaws.{fit_from, spelled}
use Rattle.query_checker.proofs.checks.span_fits.Goals as goal

moved : (f a b c r : Bool) → ((((f && a) && b) && c) && r) ≡ (f && (((a && b) && c) && r))
moved true a b c r = refl
moved false a b c r = refl

pub loop-k-preserved : goal.loop-k-preserved
loop-k-preserved c =
    let m = c.args.moves.now in
    let i = 3 * c.loop-k.k in
    let e : 3 * (c.loop-k.k + 1) ≡ i + 3 = omega arith in
    rw e
    (moved c.loop-k.fit _ _ _ (fit_from m (i + 3))
    ∙ sym (ap (λ (r : Bool). c.loop-k.fit && r) (spelled m i (omega arith)))
    ∙ c.loop-k.invariant)
