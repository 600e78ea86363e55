-- The rule at a place of a book's bytes, with its key and the place after it.
use Rattle.std.specs.Prelude.{List, ℕ}
use Rattle.book_format.specs.Place.{rule_at, next_at}
use Rattle.rule_keys.specs.Key.{key}
use Rattle.book_reader.specs.declared.keyed_rule.KeyedRule.{KeyedRule}

abbrev pub keyed_at : List ℕ → ℕ → KeyedRule
keyed_at s at = record { key = key (rule_at s at); right = (rule_at s at).right; next = record { at = next_at s at } }
