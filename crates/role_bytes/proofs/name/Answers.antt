use borrow.Author.Rules.{rules}
use Rattle.roles.specs.Role.{name}
use Rattle.role_bytes.proofs.name.Goals as goal

-- `name` meets its contract: a shift by 1 halves.
pub returns : goal.returns
unfolding name
returns c = search rules
