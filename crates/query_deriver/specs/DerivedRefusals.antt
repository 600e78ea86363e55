-- The number of each cause that refuses a question about a book and its tables, 1 to 11, 13 and 14, and the value returned beside it.
use Rattle.std.specs.Prelude.{ℕ}
use Rattle.refusals.specs.BuildRefusals.{build_cause, build_value}
use Rattle.refusals.specs.QueryRefusals.{query_cause, query_value}
use Rattle.query_deriver.specs.declared.refusal.DerivedRefusal.{DerivedRefusal}
use Rattle.query_deriver.specs.declared.refusal.DerivedRefusal.TheVariants.{Book, Question}

abbrev pub derived_cause : DerivedRefusal → ℕ
derived_cause (Book build) = build_cause build
derived_cause (Question question) = query_cause question

abbrev pub derived_value : DerivedRefusal → ℕ
derived_value (Book build) = build_value build
derived_value (Question question) = query_value question
