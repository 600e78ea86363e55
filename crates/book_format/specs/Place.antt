-- Where the rules of a book stand in its bytes, and which part holds the left side of a rule.
use Rattle.std.specs.Prelude.{Bool, false, cond, ◌&&◌, List, [], ◌∷◌, ◌++◌, ℕ, zero, suc, ◌+◌, leb, ltb, length, get_or, take, drop}
use Rattle.roles.specs.Role.{Chain}
use Rattle.roles.specs.Rule.{Rule, Book}
use Rattle.base.specs.Result.{Result}
use Rattle.base.specs.Result.Result.{refused, ok}
use Rattle.book_format.specs.Format.{decode}

-- of a rule that begins at a place: its length, the place of the rule after it, the rule itself, and whether it is whole
abbrev pub size_at : List ℕ → ℕ → ℕ
size_at s at = get_or s (at + 1) 0

abbrev pub next_at : List ℕ → ℕ → ℕ
next_at s at = at + 2 + size_at s at

unfoldable pub rule_at : List ℕ → ℕ → Rule
rule_at s at = record { left = take (size_at s at) (drop (at + 2) s); right = get_or s at 0 }

unfoldable pub whole_at : List ℕ → ℕ → Bool
whole_at s at = leb (at + 2) (length s) && leb 1 (size_at s at) && leb (size_at s at) 8 && leb (next_at s at) (length s)

-- where rule k begins
unfoldable pub rule_place : List ℕ → ℕ → ℕ
rule_place s zero = 8
rule_place s (suc k) = next_at s (rule_place s k)

-- the first k rules
unfoldable pub first_rules : List ℕ → ℕ → List Rule
first_rules s zero = []
first_rules s (suc k) = first_rules s k ++ (rule_at s (rule_place s k) ∷ [])

-- whether causes 1 to 6 let the book pass and it has a rule k
unfoldable pub has_rule : Result Book → ℕ → Bool
has_rule (refused cause value) k = false
has_rule (ok b) k = ltb k (length b.rules)

-- the left side of rule k; none where causes 1 to 6 refuse the book or it has no such rule
unfoldable pub left_side : Result Book → ℕ → Chain
left_side (refused cause value) k = []
left_side (ok b) k = (get_or b.rules k (record { left = []; right = 0 })).left

-- the part of the bytes that holds it; the empty part where there is none
unfoldable pub left_part : List ℕ → ℕ → List ℕ
left_part s k = cond (has_rule (decode s) k) (rule_at s (rule_place s k)).left []
