-- What many questions, put to the same tables, go by: the names of the tables, the number of the cause that refuses a question, and the bytes that
-- it takes.
use Rattle.std.specs.Prelude.{cond, List, ℕ, ◌+◌, ltb, length}
use Rattle.roles.specs.Role.{Chain}
use Rattle.base.specs.Result.{Result, demand}
use Rattle.base.specs.Result.Result.{refused, ok}
use Rattle.query_causes.specs.Query.{tables_fit, question}
use Rattle.query_causes.specs.Input.{links_of, is_whole}

-- how many names tables have, or 0 where they do not fit
abbrev pub names_in : (heads moves : List ℕ) → ℕ
names_in heads moves = cond (tables_fit heads moves) (length heads) 0

-- causes 12, 13 and 14, in this order, for so many names: tables that fit have one
abbrev pub query_for : ℕ → ℕ → Chain → Result (Unit {0})
query_for n r w = demand (ltb 0 n) 12 0 (question n r w)

-- the number of the cause, or 0 where none refuses
abbrev pub cause_of : Result (Unit {0}) → ℕ
cause_of (refused cause value) = cause
cause_of (ok a) = 0

-- how many bytes the question at the front of an input takes, or 0 where it is not whole
abbrev pub whole_size : List ℕ → ℕ
whole_size s = cond (is_whole s) (3 + links_of s) 0
