-- The bytes of a book, and which books have bytes that decode to them: document 01, "Book file", from the book's side.
use Rattle.std.specs.Prelude.{true, List, [], ◌∷◌, ◌++◌, ◌≡◌, ℕ, ◌/◌, ◌%◌, ◌≤◌, length}
use Rattle.base.specs.Every.{Every}
use Rattle.roles.specs.Rule.{Rule, Book}
use Rattle.book_format.specs.Format.{mark, named}

-- the first eight bytes: the mark, version 1, the names, and the rule count with its low byte first
unfoldable pub header : (names rules : ℕ) → List ℕ
header n k = mark ++ (1 ∷ 0 ∷ n ∷ k % 256 ∷ k / 256 ∷ [])

-- a rule: its right role, its length, its left roles
unfoldable pub rule_bytes : Rule → List ℕ
rule_bytes ρ = ρ.right ∷ length ρ.left ∷ ρ.left

-- rules one after another
unfoldable pub rules_bytes : List Rule → List ℕ
rules_bytes [] = []
rules_bytes (ρ ∷ ρs) = rule_bytes ρ ++ rules_bytes ρs

unfoldable pub encode : Book → List ℕ
encode b = header b.names (length b.rules) ++ rules_bytes b.rules

-- document 01's bounds: a left side of 1 to 8 roles, roles of names below n
pub record EncodableRule (n : ℕ) (ρ : Rule) : Type 0 where
  pub some : 1 ≤ length ρ.left
  pub few : length ρ.left ≤ 8
  pub declared : named n (ρ.right ∷ ρ.left) ≡ true

-- 1 to 64 names, at most 256 rules, and each rule within its bounds
pub record Encodable (b : Book) : Type 0 where
  pub some_name : 1 ≤ b.names
  pub names_most : b.names ≤ 64
  pub rules_most : length b.rules ≤ 256
  pub rules : Every (EncodableRule b.names) b.rules
