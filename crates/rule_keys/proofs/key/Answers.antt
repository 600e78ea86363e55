-- `key` meets its contract: it codes the left side of the rule or of its inverse, whichever has a name on the right. The code takes 58 bits.
use Rattle.std.proofs.Common.{true, false, sym, ◌∙◌, arith}
use Rattle.roles.specs.RoleLaws.{name_below}
use Rattle.rule_keys.specs.CodeLaws.{code-turn}
use Rattle.rule_keys.specs.KeyLaws.{keyed-some}
use Rattle.rule_keys.proofs.key.Goals as goal

pub overflow_mul-result : goal.overflow_mul-result
overflow_mul-result c =
    let below = code-turn c.args.left.now (λ k p. omega (arith, c.type_inv.left k)) (omega arith) true in
    omega (arith, c.inverse_code.ensures, below)

pub overflow_add-result : goal.overflow_add-result
overflow_add-result c =
    let below = code-turn c.args.left.now (λ k p. omega (arith, c.type_inv.left k)) (omega arith) true in
    let low = name_below c.args.right 128 (omega arith) in
    omega (arith, c.inverse_code.ensures, c.name.ensures, low, below)

pub returns-then-is_inverse : goal.returns-then-is_inverse
returns-then-is_inverse c =
    rw (c.inverse_code.ensures, c.name.ensures) (keyed-some _ _ true (omega arith) (sym c.is_inverse.ensures ∙ c.if-is_inverse.true))

pub overflow_mul-result-else-is_inverse : goal.overflow_mul-result-else-is_inverse
overflow_mul-result-else-is_inverse c =
    let below = code-turn c.args.left.now (λ k p. omega (arith, c.type_inv.left k)) (omega arith) false in
    omega (arith, c.plain_code.ensures, below)

pub overflow_add-result-else-is_inverse : goal.overflow_add-result-else-is_inverse
overflow_add-result-else-is_inverse c =
    let below = code-turn c.args.left.now (λ k p. omega (arith, c.type_inv.left k)) (omega arith) false in
    let low = name_below c.args.right 128 (omega arith) in
    omega (arith, c.plain_code.ensures, c.name-else-is_inverse.ensures, low, below)

pub returns-else-is_inverse : goal.returns-else-is_inverse
returns-else-is_inverse c =
    rw (c.plain_code.ensures, c.name-else-is_inverse.ensures) (keyed-some _ _ false (omega arith) (sym c.is_inverse.ensures ∙ c.if-is_inverse.false))
