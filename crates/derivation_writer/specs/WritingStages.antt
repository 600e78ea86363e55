-- What the stages of writing are given, and what is left to promise: room for the search, a chart, a book that is asked.
use Rattle.std.specs.Prelude.{List, ℕ, ◌*◌, ◌<◌, ◌≤◌, length}
use Rattle.roles.specs.Role.{Chain}
use Rattle.roles.specs.Rule.{Book}
use Rattle.book_format.specs.DecodeLaws.{Decoded}
use Rattle.derivation_search.specs.Searched.{Searched}
use Rattle.derivation_writer.specs.WritesDerivation.{Derivation, lent_enough, Writes}

-- so many numbers are room for the rules of a book and for a chart over its roles
abbrev pub Roomy : List ℕ → (table chart : ℕ) → Type 0
Roomy s table chart = (b : Book) → Decoded s b → (32 * length b.rules ≤ table) × (291 * (2 * b.names) ≤ chart)

-- what is searched for a question that names a role of a book
pub record SearchedFor (b : Book) (r : ℕ) (w : Chain) (table chart : List ℕ) : Type 0 where
  pub named : r < 2 * b.names
  pub searched : Searched b.rules (2 * b.names) w table chart

-- what is left to promise for a book that is asked
abbrev pub Gives : Book → ℕ → Chain → List ℕ → List ℕ → Derivation → Type 0
Gives b r w old = Writes (lent_enough (length old) b) r w old
