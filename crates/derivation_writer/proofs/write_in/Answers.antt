-- `write_in` meets its contract: the refusal of the question, or what is given by the search.
use Rattle.std.specs.Prelude.{ℕ, List, length, replicate}
use Rattle.std.proofs.Common.{refl}
use Rattle.std.proofs.lemmas.List.{length-replicate}
use Rattle.std.proofs.lemmas.Result.{err_from_is_err_and}
use Rattle.derivation_writer.specs.WritesLaws.{writes-refused, some-searched, writes-given}
use Rattle.derivation_writer.specs.WritingStages.{Roomy}
use Rattle.derivation_writer.proofs.write_in.Goals as goal

-- fresh arrays are as long as they are declared
room : {s : List ℕ} {table chart : ℕ} → Roomy s table chart → Roomy s (length (replicate {A = ℕ} table 0)) (length (replicate {A = ℕ} chart 0))
room h b d = simp length-replicate (h b d)

pub give-requires : goal.give-requires
give-requires g c = some-searched c.in_ok-find.ensures (room c.requires.room) refl

pub returns-in_err-find : goal.returns-in_err-find
returns-in_err-find g c =
    let refused = err_from_is_err_and c.from_residual.result c.from_residual.ensures.1 in
    rw (refused.1, refused.2) (writes-refused c.find.ensures c.in_err-find.was _)

pub returns : goal.returns
returns g c = writes-given c.in_ok-find.ensures (room c.requires.room) refl _ c.give.ensures
