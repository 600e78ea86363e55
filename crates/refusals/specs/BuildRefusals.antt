-- The number of each cause that refuses a build, 1 to 11, and the value returned beside it.
use Rattle.std.specs.Prelude.{ℕ}
use Rattle.refusals.specs.BookRefusals.{book_cause, book_value}
use Rattle.refusals.specs.declared.build.BuildRefusal.{BuildRefusal}
use Rattle.refusals.specs.declared.build.BuildRefusal.TheVariants.{Book, States, Transitions, Short}

abbrev pub build_cause : BuildRefusal → ℕ
build_cause (Book book) = book_cause book
build_cause States = 9
build_cause Transitions = 10
build_cause Short = 11

abbrev pub build_value : BuildRefusal → ℕ
build_value (Book book) = book_value book
build_value States = 0
build_value Transitions = 0
build_value Short = 0
