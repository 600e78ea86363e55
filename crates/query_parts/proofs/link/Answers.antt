-- `link` meets its contract: the links of an inverse are those of the chain from its end, each inverted.
use mathlib.Core.Path.{sym, ◌∙◌}
use Rattle.query_simulation.specs.AskedLaws.{asked-past, asked-name, asked-inverse}
use Rattle.query_parts.proofs.link.Goals as goal

pub returns-then-chain-i : goal.returns-then-chain-i
returns-then-chain-i c = sym (asked-past _ _ c.if-chain-i.true)

pub returns-then-is_inverse : goal.returns-then-is_inverse
returns-then-is_inverse c = c.inverse.ensures ∙ asked-inverse _ _ _ c.if-chain-i.false (sym c.is_inverse.ensures ∙ c.if-is_inverse.true)

pub returns-else-is_inverse : goal.returns-else-is_inverse
returns-else-is_inverse c = asked-name _ _ _ c.if-chain-i.false (sym c.is_inverse.ensures ∙ c.if-is_inverse.false)
