-- `inverse_code` meets its contract. The invariant: the code is that of the inverse of the roles read.
use Rattle.std.proofs.Common.{◌≡◌, take}
use Rattle.roles.specs.Role.{inv_chain}
use Rattle.rule_keys.specs.Key.{code as code_of_lem}
use Rattle.rule_keys.proofs.inverse_code.Given as goal

abbrev pub invariant-loop-role : goal.invariant-loop-role
invariant-loop-role l = l.code ≡ code_of_lem (inv_chain (take l.role-index l.chain))
