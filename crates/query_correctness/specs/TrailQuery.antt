-- A question put to tables that are read along trails: at most 16 links, and the answer.
use Rattle.std.specs.Prelude.{Bool, List, ℕ}
use Rattle.base.specs.Decision.{Decision}
use Rattle.base.specs.Result.{Result, and_then}
use Rattle.roles.specs.Role.{Chain}
use Rattle.query_causes.specs.Query.{transitions_in, short_chain, query}
use Rattle.table_trails.specs.TableTrails.{TablesBind}

-- causes 12, 13, 14 and 15, in this order
abbrev pub short_query : (heads moves : List ℕ) → ℕ → Chain → Result (Unit {0})
short_query heads moves r w = and_then (query heads moves r w) (λ _. short_chain w tt)

-- the answer to a question: the first refusal met; else yes, exactly where hops lead from the name's initial state to its final one
abbrev pub AnsweredByTrails : (heads moves : List ℕ) → ℕ → Chain → Result Bool → Type 0
AnsweredByTrails heads moves r w = Decision (short_query heads moves r w) (TablesBind heads (transitions_in moves) r w)
