-- The number of each cause that refuses a question put to tables, 12 to 14, and the value returned beside it.
use Rattle.std.specs.Prelude.{ℕ}
use Rattle.refusals.specs.declared.query.QueryRefusal.{QueryRefusal}
use Rattle.refusals.specs.declared.query.QueryRefusal.TheVariants.{Tables, Chain, Role}

abbrev pub query_cause : QueryRefusal → ℕ
query_cause Tables = 12
query_cause Chain = 13
query_cause Role = 14

abbrev pub query_value : QueryRefusal → ℕ
query_value refusal = 0
