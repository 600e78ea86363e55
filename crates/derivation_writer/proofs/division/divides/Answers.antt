-- `divides` meets its contract.
use mathlib.Core.List.{List}
use mathlib.Core.Path.{◌≡◌, sym, ap, ◌∙◌, subst}
use Prim.Native.Nat.{ℕ, ◌+◌, ◌-◌}
use native.Mathlib.Omega.{arith}
use lib.ListN.{length, get_or, take, drop, length-drop}
use Rattle.std.proofs.lemmas.List.{get_or-drop}
use Rattle.base.specs.Part.{part-behind}
use Rattle.name_sets.specs.Mask.{has}
use Rattle.base.specs.Reflects.{Reflects}
use Rattle.derivation_charts.specs.Chart.{starts_of, Found, Splits}
use Rattle.derivation_charts.specs.ReachingLaws.{reach-one}
use Rattle.derivation_writer.specs.DivisionLaws.{divides_rest, last-splits}
use Rattle.derivation_writer.proofs.division.divides.Goals as goal

pub returns-in_default : goal.returns-in_default
returns-in_default c =
    divides_rest (sym c.derives.ensures ∙ c.if-not-derives.false)
    (subst (λ (v : List ℕ). Reflects c.has.result (Splits (Found c.args.chart.now) v c.args.m c.args.end)) (part-behind c.args.left.now (c.args.t + 1))
    (reach-one _ _ c.args.m _ c.requires.1 (rw (c.has.ensures, ← c.single.ensures) (c.reach.ensures c.args.end))))

pub returns-in-len1 : goal.returns-in-len1
returns-in-len1 c =
    let after = c.args.t + 1 in
    let left = c.args.left.now in
    let behind : take (length left - after) (drop after left) ≡ drop after left = part-behind left after in
    let first : get_or (take (length left - after) (drop after left)) 0 0 ≡ get_or left after 0 =
    ap (λ (v : List ℕ). get_or v 0 0) behind ∙ get_or-drop after left 0 0 ∙ ap (λ (k : ℕ). get_or left k 0) (omega arith) in
    divides_rest (sym c.derives.ensures ∙ c.if-not-derives.false)
    (last-splits _ _ after _ _ (omega (arith, ap length behind, length-drop after left))
    (c.derives-in-len1.ensures ∙ ap (λ (r : ℕ). has (starts_of c.args.chart.now (c.args.end - c.args.m) r) c.args.m) first))
