-- What writing a derivation promises: the refusals with the lent bytes as they were, no where the chain is not derived, else steps that check, written
-- over the front of the lent bytes. Which steps they are is left free.
use Rattle.std.specs.Prelude.{true, List, ◌≡◌, ℕ, ◌*◌, ◌≤◌, leb, length}
use Rattle.std.specs.Prelude.{Option, Some, None, Ok, Err}
use Rattle.std.specs.Prelude.{Result as Checked}
use Rattle.base.specs.Result.{Result, demand, and_then}
use Rattle.base.specs.Result.Result.{refused, ok}
use Rattle.base.specs.Writing.{over}
use Rattle.roles.specs.Role.{Chain}
use Rattle.roles.specs.Rule.{Book}
use Rattle.roles.specs.Derivation.{Derives}
use Rattle.refusals.specs.declared.book_query.BookQueryRefusal.{BookQueryRefusal}
use Rattle.refusals.specs.BookQueryRefusals.{book_query_cause, book_query_value}
use Rattle.derivation_steps.specs.WrittenSteps.{derivation}
use Rattle.book_questions.specs.ShortQuestion.{asked_book}

-- cause 16 for a book that is asked, where fewer than 16,384 bytes are lent
abbrev pub lent_enough : (lent : ℕ) → Book → Result Book
lent_enough lent b = demand (leb 16384 lent) 16 0 (ok b)

-- causes 1 to 8 and 13 to 15, then 16: the book that is asked
unfoldable pub writable : (lent : ℕ) → List ℕ → ℕ → Chain → Result Book
writable lent s r w = and_then (asked_book s r w) (lent_enough lent)

-- how many steps are written, none where the chain is not derived, or why the question is refused
abbrev pub Derivation : Type 0
Derivation = Checked (Option ℕ) BookQueryRefusal

-- from the lent bytes to those left and the answer
pub data Writes (checks : Result Book) (r : ℕ) (w : Chain) (old : List ℕ) : List ℕ → Derivation → Type 0 where
  refuses : (refusal : BookQueryRefusal) → checks ≡ refused (book_query_cause refusal) (book_query_value refusal)
      → Writes checks r w old old (Err refusal)
  no : (b : Book) → checks ≡ ok b → (Derives b.rules r w → ⊥) → Writes checks r w old old (Ok None)
  steps : (b : Book) → checks ≡ ok b → (s : List ℕ) (n : ℕ) → length s ≡ 4 * n → n ≤ 4096 → derivation b.rules r w s ≡ ok true
      → Writes checks r w old (over s old) (Ok (Some n))
