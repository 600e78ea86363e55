-- What the order check's answers say.
use Rattle.std.specs.Prelude.{Bool, true, false, not, List, ◌≡◌, ℕ, replicate, Ok, Err}
use Rattle.std.specs.Prelude.{Result as Answer}
use Rattle.roles.specs.Rule.{Rule, Book}
use Rattle.order.specs.Closure.{with_rule, clashes}
use Rattle.name_sets.specs.Mask.{Holds}
use Rattle.order.specs.ClosureLaws.{Closed}
use Rattle.base.specs.Result.{Result, map_result}
use Rattle.base.specs.Result.Result.{refused, ok}
use Rattle.book_format.specs.Format.{read}
use Rattle.book_causes.specs.Ordered.{ordered, Judged}
use Rattle.book_causes.specs.Accepted.{levels_of, depth_of, count_or_none, written}
use Rattle.book_header.specs.declared.Header.{Header}
use Rattle.book_decoder.specs.Verdict.{header_of}
use Rattle.refusals.specs.declared.book.BookRefusal.{BookRefusal}
use Rattle.refusals.specs.declared.check.Check.{Check}
use Rattle.refusals.specs.Check.{check}
use Rattle.refusals.specs.Said.{said}
use Rattle.refusals.specs.BookRefusals.{book_cause, book_value}
use Rattle.order_checker.specs.declared.Ordering.{Ordering}

-- a relation on names that is transitive
abbrev pub Transitive : (ℕ → ℕ → Bool) → Type 0
Transitive lower = (x y z : ℕ) → lower x y ≡ true → lower y z ≡ true → lower x z ≡ true

-- what adding a rule to masks answers, and the masks that it leaves: the order goes on unless the rule clashes with it
pub record Added (ρ : Rule) (masks : List ℕ) (r : Check) (new : List ℕ) : Type 0 where
  pub answer : (lower : ℕ → ℕ → Bool) → Transitive lower → Holds masks lower → r ≡ check (not (clashes lower ρ))
  pub leaves : (lower : ℕ → ℕ → Bool) → Transitive lower → Holds masks lower → clashes lower ρ ≡ false → Holds new (with_rule lower ρ)

-- where the book passes, the masks hold the order that its rules force
abbrev pub GatheredOrder : List ℕ → Result Header → List ℕ → Type 0
GatheredOrder s (refused cause value) masks = Unit
GatheredOrder s (ok h) masks = (b : Book) → ordered s ≡ ok b → (lower : ℕ → ℕ → Bool) × Closed b.rules lower × Holds masks lower

-- what the order check says of a book: passed by its header, or refused by its number and value
abbrev pub header_said : Answer Ordering BookRefusal → Result Header
header_said r = map_result (λ (o : Ordering). o.header) (said book_cause book_value r)

-- its levels and its depth: 0 of a book that is refused
abbrev pub levels_in : Answer Ordering BookRefusal → List ℕ
levels_in (Ok ordering) = ordering.levels
levels_in (Err refusal) = replicate 64 0

abbrev pub depth_in : Answer Ordering BookRefusal → ℕ
depth_in (Ok ordering) = ordering.depth
depth_in (Err refusal) = 0

-- the answer of the order check
pub record Ordered (s : List ℕ) (r : Answer Ordering BookRefusal) : Type 0 where
  -- causes 1 to 8
  pub verdict : header_said r ≡ map_result header_of (ordered s)
  -- cause 8 is given exactly where there is no regular order, by the last rule of the shortest front part that has none
  pub judged : (b : Book) → read s ≡ ok b → Judged b (ordered s)
  -- the levels of the names of a book that passes, over zeros, and the highest of them; zeros alone where it is refused
  pub levels : levels_in r ≡ written (ordered s) levels_of (replicate 64 0)
  pub depth : depth_in r ≡ count_or_none depth_of (ordered s)
