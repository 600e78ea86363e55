-- `link` meets its contract. The invariant: the rules from `k` on are linked, and all else is as it was.
use Rattle.std.specs.Prelude.{List}
use Rattle.roles.specs.Rule.{Rule}
use Rattle.rule_index.specs.Filling.{Linkable, Linking}
use Rattle.rule_index.proofs.link.Given as goal

abbrev pub invariant-loop-k : goal.invariant-loop-k
invariant-loop-k l = (ρs : List Rule) → Linkable ρs l.rules l.initial.index → Linking ρs l.k l.initial.index l.index
