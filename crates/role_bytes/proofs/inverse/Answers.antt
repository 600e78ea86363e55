use native.Mathlib.Omega.{arith}
use lib.Bits.{and_mask, xor_add_and}
use Rattle.roles.specs.Role.{inv}
use Rattle.role_bytes.proofs.inverse.Goals as goal

-- `inverse` meets its contract: flipping bit 0 adds 1 to an even role and takes 1 from an odd one.
pub returns : goal.returns
unfolding inv
returns c = omega (arith, xor_add_and c.args.role 1, and_mask c.args.role 1)
