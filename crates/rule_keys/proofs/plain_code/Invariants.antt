-- `plain_code` meets its contract. The invariant: the code is that of the roles from i on.
use Rattle.std.proofs.Common.{◌≡◌, drop}
use Rattle.rule_keys.specs.Key.{code as code_of_lem}
use Rattle.rule_keys.proofs.plain_code.Given as goal

abbrev pub invariant-loop-i : goal.invariant-loop-i
invariant-loop-i l = l.code ≡ code_of_lem (drop l.i l.chain)
