-- `states_low` meets its contract. The invariant: the states of the transitions passed are below 64.
use Rattle.query_binder.specs.SmallTables.{LowStates}
use Rattle.query_binder.proofs.small_tables.states_low.Given as goal

abbrev pub invariant-loop-k : goal.invariant-loop-k
invariant-loop-k l = LowStates l.moves l.k
