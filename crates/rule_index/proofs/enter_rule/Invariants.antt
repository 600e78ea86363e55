-- `enter_rule` meets its contract. The invariant: after the five numbers of the shape, the first `i` inner roles are copied.
use Rattle.rule_index.specs.Filling.{Copied}
use Rattle.rule_index.proofs.enter_rule.Given as goal

abbrev pub invariant-loop-i : goal.invariant-loop-i
invariant-loop-i l = Copied l.left l.start l.k l.i l.initial.index l.index
