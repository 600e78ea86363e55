-- `check_in` meets its contract: the refusal of the question, or what its steps give by the table of the book's rules.
use mathlib.Core.Path.{ap}
use Rattle.std.specs.Prelude.{ℕ, List, length, replicate}
use Rattle.std.proofs.lemmas.List.{length-replicate}
use Rattle.std.proofs.lemmas.Result.{err_from_is_err_and}
use Rattle.book_questions.specs.Admission.{says}
use Rattle.derivation_checker.specs.CheckingRoom.{Roomy}
use Rattle.derivation_checker.specs.CheckedLaws.{checked_refused, checked-tabled}
use Rattle.derivation_checker.proofs.check_in.Goals as goal

-- a fresh table is as long as it is declared
room : (s : List ℕ) (r : ℕ) (w : List ℕ) {table : ℕ} → Roomy s r w table → Roomy s r w (length (replicate {A = ℕ} table 0))
room s r w h b d = simp length-replicate (h b d)

pub returns-in_err-header : goal.returns-in_err-header
returns-in_err-header g c =
    let refused = err_from_is_err_and c.from_residual.result c.from_residual.ensures.1 in
    rw (refused.1, refused.2) (checked_refused c.admit.ensures (ap says c.in_err-header.was) _)

pub returns : goal.returns
returns g c = checked-tabled c.admit.ensures (ap says c.in_ok-header.was) (room _ _ _ c.requires.room) _ c.follow.ensures
