-- `absorb` meets its contract. The invariant: since the name itself has absorbed the set, the masks passed have grown, the others are as they were.
use Rattle.order_masks.specs.AbsorbLaws.{Absorbing}
use Rattle.order_checker.proofs.masks.absorb.Given as goal

abbrev pub invariant-loop-mask : goal.invariant-loop-mask
invariant-loop-mask l = Absorbing l.initial.masks l.right l.lower l.masks l.mask-index
