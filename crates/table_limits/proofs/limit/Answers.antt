-- `limit` meets its contract: the checks of causes 9 to 11, in this order.
use borrow.Author.Rules.{rules}
use Rattle.table_limits.specs.LimitsLaws.{limited-states, limited-transitions, limited-short, limited-built}
use Rattle.table_limits.proofs.limit.Goals as goal

pub returns-in_default : goal.returns-in_default
returns-in_default c = search (rules, limited-states)

pub returns-in_default-few_transitions : goal.returns-in_default-few_transitions
returns-in_default-few_transitions c = search (rules, limited-transitions)

pub returns-in_default-long_enough : goal.returns-in_default-long_enough
returns-in_default-long_enough c = search (rules, limited-short)

pub returns : goal.returns
returns c = search (rules, limited-built)
