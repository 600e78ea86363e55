-- What the cursor hands out at a place of a book's bytes, and the rule that an entry stands for.
use Rattle.std.specs.Prelude.{cond, List, ℕ, ◌+◌, get_or, take, drop, Some, None, Option}
use Rattle.roles.specs.Rule.{Rule}
use Rattle.book_format.specs.Place.{size_at, next_at, whole_at}
use Rattle.book_cursor.specs.declared.Entry.{Entry}
use Rattle.book_cursor.specs.declared.Cursor.{Cursor}

-- where the rule at a place lies
abbrev pub entry_at : List ℕ → ℕ → Entry
entry_at s at = record { right = get_or s at 0; start = at + 2; size = size_at s at }

-- the rule that an entry stands for
unfoldable pub entry_rule : List ℕ → Entry → Rule
entry_rule s e = record { left = take e.size (drop e.start s); right = e.right }

-- a rule, with the cursor past it
abbrev pub rule_and_next : Entry → Cursor → Option (Entry × Cursor)
rule_and_next e next = Some (e, next)

-- a whole rule with the cursor past it, or none
abbrev pub step_at : List ℕ → ℕ → Option (Entry × Cursor)
step_at s at = cond (whole_at s at) (rule_and_next (entry_at s at) (record { at = next_at s at })) None
