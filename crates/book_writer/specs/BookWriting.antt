-- A book in the making, which callers of the writer carry from rule to rule, and a book that is written.
use Rattle.std.specs.Prelude.{List, ◌++◌, ◌≡◌, ℕ, ◌+◌, ◌*◌, ◌≤◌, length, drop}
use Rattle.std.proofs.lemmas.List.Edits.{sets}
use Rattle.roles.specs.Rule.{Rule, Book}
use Rattle.book_format.specs.Encode.{rules_bytes, encode}

-- the rules so far stand from byte 8 on over what was there, and the place is past them; none takes over ten bytes
pub record Writing (old s : List ℕ) (at : ℕ) (ρs : List Rule) : Type 0 where
  pub bytes : s ≡ sets old 8 (rules_bytes ρs)
  pub place : at ≡ 8 + length (rules_bytes ρs)
  pub most : at ≤ 8 + 10 * length ρs
  pub fits : at ≤ length old

-- the book's encoding stands at the front, and the bytes after it are as they were
pub record Written (old s : List ℕ) (size : ℕ) (b : Book) : Type 0 where
  pub bytes : s ≡ encode b ++ drop size old
  pub ends : size ≡ length (encode b)
