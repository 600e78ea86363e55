-- Cause 8, of a book and of bytes: the book, if it has a regular order. The order is gathered rule by rule; `OrderedLaws` shows that this passes
-- exactly where a regular order exists and else names the last rule of the shortest front part that has none.
use Rattle.std.specs.Prelude.{Bool, not, List, [], ◌∷◌, ℕ, suc, ◌<◌, ◌≤◌, length, take}
use Rattle.roles.specs.Rule.{Rule, Book}
use Rattle.order.specs.Closure.{no_order, with_rule, clashes}
use Rattle.order.specs.Regular.{Regular}
use Rattle.base.specs.Result.{Result, demand, and_then}
use Rattle.base.specs.Result.Result.{refused, ok}
use Rattle.book_format.specs.Format.{decode, distinct_book}

-- the rules from a number on, after those that gave the order so far
unfoldable pub order_from : Book → (ℕ → ℕ → Bool) → (number : ℕ) → List Rule → Result Book
order_from b lower number [] = ok b
order_from b lower number (ρ ∷ ρs) = demand (not (clashes lower ρ)) 8 number (order_from b (with_rule lower ρ) (suc number) ρs)

-- cause 8 of a book
abbrev pub order_book : Book → Result Book
order_book b = order_from b no_order 0 b.rules

-- causes 7 and 8 of a book, wherever it comes from
abbrev pub ordered_book : Book → Result Book
ordered_book b = and_then (distinct_book b) order_book

-- causes 1 to 8: the book that the bytes are, judged so
unfoldable pub ordered : List ℕ → Result Book
ordered s = and_then (decode s) ordered_book

-- what document 01 asks of cause 8, for a well-formed book
pub data Judged (b : Book) : Result Book → Type 0 where
  -- there is a regular order
  has_order : Regular b.rules → Judged b (ok b)
  -- every front part of k rules or fewer has one, and the front part that ends with rule k has none
  none : (k : ℕ) → k < length b.rules → ((j : ℕ) → j ≤ k → Regular (take j b.rules)) → (Regular (take (suc k) b.rules) → ⊥)
      → Judged b (refused 8 k)
