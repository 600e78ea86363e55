use Rattle.std.proofs.Common.{◌-◌, sym, ap, arith}
use Rattle.std.proofs.Math.Seq.{drop-length}
use Rattle.rule_keys.specs.Key.{code as code_of_lem}
use Rattle.rule_keys.specs.CodeLaws.{code-rest, code-next}
use Rattle.rule_keys.proofs.plain_code.Goals as goal

pub loop-i-init : goal.loop-i-init
unfolding code_of_lem
loop-i-init c = sym (ap code_of_lem (drop-length c.args.chain.now))

pub overflow_mul-code : goal.overflow_mul-code
overflow_mul-code c = omega (arith, code-rest c.args.chain.now (λ k p. omega (arith, c.type_inv.chain k)) c.requires c.loop-i.i (omega arith) (omega arith))

pub overflow_add-code : goal.overflow_add-code
overflow_add-code c =
    omega (arith, c.type_inv.chain (c.loop-i.i - 1), code-rest c.args.chain.now (λ k p. omega (arith, c.type_inv.chain k)) c.requires c.loop-i.i (omega arith) (omega arith))

pub loop-i-preserved : goal.loop-i-preserved
loop-i-preserved c =
    rw c.loop-i.invariant (sym (code-next c.args.chain.now (λ k p. omega (arith, c.type_inv.chain k)) c.requires c.loop-i.i (omega arith) (omega arith)))
