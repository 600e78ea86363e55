use Prim.Native.Nat.{◌+◌}
use native.Mathlib.Omega.{arith}
use Rattle.derivation_writer.specs.Division.{Cutting}
use Rattle.derivation_writer.specs.DivisionLaws.{cut-last, cutting_start, cutting_next}
use Rattle.derivation_writer.proofs.division.cut.Goals as goal
use Rattle.derivation_writer.proofs.division.cut.Goals.{Else-t-left}

pub returns-then-t-left : goal.returns-then-t-left
returns-then-t-left c = cut-last _ _ c.args.t _ _ c.if-t-left.true c.requires.t_in_bounds.1 c.requires.splits

pub returns-then-divides : goal.returns-then-divides
returns-then-divides c =
    let both = c.divides.ensures.holds c.if-divides.true in
    record { near = omega (arith, c.requires.t_in_bounds.1); found = both.0; behind = both.1 }

pub loop-m-preserved : goal.loop-m-preserved
loop-m-preserved c = cutting_next c.loop-m.invariant (c.divides.ensures.fails c.if-divides.false)

pub returns : goal.returns
returns c = let so_far = c.loop-m.invariant in absurd (let f : ⊥ = omega (arith, so_far.later, so_far.less) in f)

start : (c : Else-t-left) → let entry = c.args in Cutting entry.chart.now entry.left.now entry.t entry.i entry.end (entry.i + 1)
start c = cutting_start c.requires.t_in_bounds.0 c.if-t-left.false c.requires.splits

pub loop-m-init : goal.loop-m-init
loop-m-init c = start c

pub overflow_step-m : goal.overflow_step-m
overflow_step-m c = let so_far = start c in omega (arith, so_far.later, so_far.less, c.requires.t_in_bounds.1)
