-- `reached` meets its contract. The invariant: what the roles reach is in the mask, or is what the roles left reach.
use Rattle.order_masks.specs.ReachLaws.{Reaching}
use Rattle.order_checker.proofs.masks.reached.Given as goal

abbrev pub invariant-loop-role : goal.invariant-loop-role
invariant-loop-role l = Reaching l.masks l.roles l.lower l.role-index
