-- From a build to what opening promises, and the tables that an accepted book is opened with.
use Rattle.std.specs.Prelude.{List, ◌≡◌, ℕ, ◌*◌, take, Some}
use Rattle.std.proofs.Common.{sym, ap, ◌∙◌}
use Rattle.roles.specs.Rule.{Book}
use Rattle.tables.specs.Tables.{transitions}
use Rattle.base.specs.Result.Result.{ok}
use Rattle.book_causes.specs.Accepted.{count_of, heads_of, moves_of, built}
use Rattle.base.specs.Writing.{over}
use Rattle.table_laying.specs.Pieces.{length-numbers, length-roots}
use Rattle.base.specs.WritingLaws.{over-front}
use Rattle.transcript_writer.specs.declared.opening.Tables.{Tables}
use Rattle.transcript_writer.specs.declared.opening.Opening.{Opening}
use Rattle.transcript_writer.specs.Opened.{heads_in, moves_in, Opens}

-- the numbers that count are the tables of the book
module _ {s h m line line' : List ℕ} {r : Opening} (o : Opens s h m line line' r) {t : Tables} (f : r.tables ≡ Some t) (b : Book)
    (e : built s 64 15360 ≡ ok b) where
  pub opened-heads : heads_in t ≡ heads_of b
  opened-heads =
      let names : t.names ≡ b.names = cc in
      let wrote : t.heads ≡ over (heads_of b) h = cc in
      ap (take t.names) wrote ∙ over-front t.names (heads_of b) h (names ∙ sym (length-roots b.rules b.names b.names 0 0))

  pub opened-moves : moves_in t ≡ moves_of b
  opened-moves =
      let count : t.transitions ≡ count_of b = cc in
      let wrote : t.moves ≡ over (moves_of b) m = cc in
      ap (take (3 * t.transitions)) wrote
      ∙ over-front (3 * t.transitions) (moves_of b) m
      (ap (λ (k : ℕ). 3 * k) count ∙ sym (length-numbers (transitions b.names b.rules)))
