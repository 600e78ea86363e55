-- What a build says of a book that passes causes 1 to 8, by the sizes of its tables and what is lent for them.
use Rattle.std.specs.Prelude.{cond, ◌&&◌, ℕ, ◌*◌, leb, Result, Ok, Err}
use Rattle.refusals.specs.declared.build.BuildRefusal.{BuildRefusal}
use Rattle.refusals.specs.declared.build.BuildRefusal.TheVariants.{States, Transitions, Short}
use Rattle.table_limits.specs.declared.Counts.{Counts}

-- causes 9 to 11, in this order: the first that refuses tables of so many names, states and transitions, or their counts with the depth
unfoldable pub limited : (names states transitions depth heads moves : ℕ) → Result Counts BuildRefusal
limited names states transitions depth heads moves =
    cond (leb states 2048)
    (cond (leb transitions 5120)
    (cond (leb names heads && leb (3 * transitions) moves)
    (Ok (record { names = names; states = states; transitions = transitions; depth = depth }))
    (Err Short))
    (Err Transitions))
    (Err States)
