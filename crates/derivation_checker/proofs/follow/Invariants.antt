-- `follow` meets its contract. The invariant: the steps before k are followed.
use Rattle.derivation_checker.specs.Following.{Following}
use Rattle.derivation_checker.proofs.follow.Given as goal

abbrev pub invariant-loop-k : goal.invariant-loop-k
invariant-loop-k l = Following l.table l.header.rules l.role l.steps l.links l.size l.k
