-- What the program answers a question about an accepted book with, in document 02's words.
use Rattle.std.specs.Prelude.{Bool, ℕ}
use Rattle.roles.specs.Role.{Chain}
use Rattle.roles.specs.Rule.{Book}
use Rattle.base.specs.Decision.{Decision}
use Rattle.base.specs.Result.{Result}
use Rattle.networks.specs.Network.{Binds}
use Rattle.query_causes.specs.Query.{short_question}

-- the answer to a question about an accepted book: the first refusal met; else yes, exactly where the chain binds the role
abbrev pub DecidedByBinding : Book → ℕ → Chain → Result Bool → Type 0
DecidedByBinding b r w = Decision (short_question b.names r w tt) (Binds b.rules r w)
