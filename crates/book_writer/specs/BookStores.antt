-- What lent bytes hold after a rule, or the eight bytes in front of a book, were put there, and the place after a rule.
use Rattle.std.specs.Prelude.{Bool, cond, ◌&&◌, List, ◌≡◌, ℕ, ◌+◌, leb, length}
use Rattle.std.proofs.lemmas.List.Edits.{sets}
use Rattle.roles.specs.Rule.{Rule}
use Rattle.book_format.specs.Encode.{header, rule_bytes}

-- whether the rule's length is one that a byte holds and there is room for the rule from a place on
abbrev pub has_room : List ℕ → ℕ → Rule → Bool
has_room s at ρ = leb (length ρ.left) 255 && leb (at + 2 + length ρ.left) (length s)

-- the bytes with a rule at a place, and the place after it; the bytes and the place themselves where there is no room
unfoldable pub put_rule : List ℕ → ℕ → Rule → List ℕ
put_rule s at ρ = cond (has_room s at ρ) (sets s at (rule_bytes ρ)) s

unfoldable pub after_rule : List ℕ → ℕ → Rule → ℕ
after_rule s at ρ = cond (has_room s at ρ) (at + 2 + length ρ.left) at

-- both, as what they became
pub record RulePut (s : List ℕ) (at : ℕ) (ρ : Rule) (s' : List ℕ) (at' : ℕ) : Type 0 where
  pub bytes : s' ≡ put_rule s at ρ
  pub place : at' ≡ after_rule s at ρ

-- the bytes with the first eight of a book; the bytes themselves where there are fewer
unfoldable pub put_header : List ℕ → (names rules : ℕ) → List ℕ
put_header s n k = cond (leb 8 (length s)) (sets s 0 (header n k)) s
