use mathlib.Core.Path.{ap}
use Prim.Native.Nat.{ℕ}
use lib.Bits.{and_mask}
use lib.Dec.{eqb}
use Rattle.roles.specs.Role.{polarity}
use Rattle.role_bytes.proofs.is_inverse.Goals as goal

-- `is_inverse` meets its contract: the masked bit is the remainder by 2.
pub returns : goal.returns
unfolding polarity
returns c = ap (λ (n : ℕ). eqb n 1) (and_mask c.args.role 1)
