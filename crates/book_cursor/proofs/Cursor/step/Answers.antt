use native.Mathlib.Omega.{arith}
use Rattle.book_cursor.specs.CursorLaws.{step-malformed, step-whole}
use Rattle.book_cursor.proofs.Cursor.step.Goals as goal

pub returns : goal.returns
returns c = step-whole _ _ (record { short = omega arith; some = omega arith; few = omega arith; fits = omega arith })

pub returns-then-book-lt2 : goal.returns-then-book-lt2
returns-then-book-lt2 c = step-malformed _ _ (λ w. omega arith)

pub returns-then-book-at : goal.returns-then-book-at
returns-then-book-at c = step-malformed _ _ (λ w. omega arith)

pub returns-then-size-lt1 : goal.returns-then-size-lt1
returns-then-size-lt1 c = step-malformed _ _ (λ w. omega arith)

pub returns-then-size-gt8 : goal.returns-then-size-gt8
returns-then-size-gt8 c = step-malformed _ _ (λ w. omega arith)

pub returns-then-book-start : goal.returns-then-book-start
returns-then-book-start c = step-malformed _ _ (λ w. omega arith)
