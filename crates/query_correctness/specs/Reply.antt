-- Demand 3 in document 01's words: what a question is answered with, about an accepted book and from a book's bytes.
use Rattle.std.specs.Prelude.{Bool, List, ◌≡◌, ℕ}
use Rattle.roles.specs.Role.{Chain}
use Rattle.roles.specs.Rule.{Book}
use Rattle.roles.specs.Derivation.{Derives}
use Rattle.base.specs.Result.{Result, and_then}
use Rattle.base.specs.Result.Result.{refused, ok}
use Rattle.base.specs.Decision.{Decision}
use Rattle.book_causes.specs.Accepted.{built, Building}
use Rattle.query_causes.specs.Query.{question}

-- the answer to a question about an accepted book: the first refusal met; else yes, exactly where finitely many replacements lead from the role
-- to the chain
abbrev pub Decided : Book → ℕ → Chain → Result Bool → Type 0
Decided b r w = Decision (question b.names r w) (Derives b.rules r w)

-- the answer from a book's bytes, where tables of so many numbers are lent: the first refusal of causes 1 to 11; else that of the book as written
pub data Replied (s : List ℕ) (heads moves : ℕ) (r : ℕ) (w : Chain) : Result Bool → Type 0 where
  refuses : (cause value : ℕ) → built s heads moves ≡ refused cause value → Replied s heads moves r w (refused cause value)
  settled : (b d : Book) (a : Result Bool) → Building s heads moves b d → Decided b r w a → Replied s heads moves r w a

-- the book whose tables a question is put to, where tables of so many numbers are lent: causes 1 to 11, then 13 and 14
abbrev pub posed : List ℕ → (heads moves : ℕ) → ℕ → Chain → Result Book
posed s heads moves r w = and_then (built s heads moves) (λ b. and_then (question b.names r w) (λ _. ok b))
