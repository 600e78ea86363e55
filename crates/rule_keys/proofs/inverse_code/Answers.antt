use Rattle.std.proofs.Common.{refl, sym, arith}
use Rattle.roles.specs.RoleLaws.{inv_chain_nil}
use Rattle.rule_keys.specs.Key.{code as code_of_lem}
use Rattle.rule_keys.specs.CodeLaws.{inverse-front, inverse-next}
use Rattle.rule_keys.proofs.inverse_code.Goals as goal

pub loop-role-init : goal.loop-role-init
unfolding code_of_lem
loop-role-init c = rw inv_chain_nil refl

pub overflow_mul-code : goal.overflow_mul-code
overflow_mul-code c = omega (arith, inverse-front c.args.chain.now (λ k p. omega (arith, c.type_inv.chain k)) c.requires c.loop-role.role-index (omega arith))

pub overflow_add-code : goal.overflow_add-code
overflow_add-code c =
    omega (arith, inverse-front c.args.chain.now (λ k p. omega (arith, c.type_inv.chain k)) c.requires c.loop-role.role-index (omega arith), c.inverse.type_inv)

pub loop-role-preserved : goal.loop-role-preserved
loop-role-preserved c =
    rw (c.loop-role.invariant, c.inverse.ensures) (sym (inverse-next c.args.chain.now (λ k p. omega (arith, c.type_inv.chain k)) c.requires c.loop-role.role-index (omega arith)))
