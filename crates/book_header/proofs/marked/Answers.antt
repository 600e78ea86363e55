use Rattle.std.proofs.Common.{ap, ◌∙◌}
use Rattle.refusals.specs.Check.{check}
use Rattle.roles.specs.ChainParts.{pointwise_turned}
use Rattle.book_header.proofs.marked.Goals as goal

pub returns : goal.returns
returns c = c.from.ensures ∙ ap check (c.starts_with.ensures.value ∙ pointwise_turned _ _)
