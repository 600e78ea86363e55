-- What a build that succeeds has written: the tables of the book, at the front of the lent ones; and that an accepted book's build succeeds where
-- these are long enough.
use Rattle.std.specs.Prelude.{List, [], ◌≡◌, refl, ℕ, ◌*◌, ◌≤◌, length, take, Ok, Err}
use Rattle.std.specs.Prelude.{Result as Outcome}
use Rattle.std.proofs.Common.{sym, ap, ◌∙◌, arith}
use Rattle.base.specs.Writing.{over}
use Rattle.base.specs.WritingLaws.{over-length, over-front}
use Rattle.roles.specs.Rule.{Book}
use Rattle.tables.specs.Tables.{transitions}
use Rattle.base.specs.Result.{Result, map_result}
use Rattle.base.specs.Result.Result.{refused, ok}
use Rattle.base.specs.ResultLaws.{refused-ok, ok_injective}
use Rattle.book_causes.specs.Accepted.{count_of, heads_of, moves_of, accepted, built}
use Rattle.book_causes.specs.AcceptedLaws.{accepted-passed, accepted-built, built-accepted, enough_heads, enough_moves}
use Rattle.table_laying.specs.Pieces.{length-numbers, length-roots}
use Rattle.refusals.specs.declared.build.BuildRefusal.{BuildRefusal}
use Rattle.refusals.specs.BuildRefusals.{build_cause, build_value}
use Rattle.table_limits.specs.declared.Counts.{Counts}
use Rattle.table_builder.specs.Builds.{counts_of, says, Builds}

-- the book that a build has counted
pub record Counted (s h m : List ℕ) (c : Counts) : Type 0 where
  pub book : Book
  pub accepts : built s (length h) (length m) ≡ ok book
  pub same : c ≡ counts_of book

-- a book that stands for none
counted_none : Book
counted_none = record { names = 0; rules = [] }

module _ {s h m h' m' : List ℕ} where
  pub counted : {c : Counts} → Builds s h m h' m' (Ok c) → Counted s h m c
  counted {c} p = by_result (built s (length h) (length m)) refl p.answer
    where
      by_result : (r : Result Book) → built s (length h) (length m) ≡ r → ok c ≡ map_result counts_of r → Counted s h m c
      by_result (refused cause value) e f = absurd (refused-ok cause value c (sym f))
      by_result (ok b) e f = record { book = b; accepts = e; same = ok_injective c (counts_of b) f }

  module _ {c : Counts} (p : Builds s h m h' m' (Ok c)) where
    pub own : Counted s h m c
    own = counted p

    long_heads : own.book.names ≤ length h
    long_heads = enough_heads s (length h) (length m) own.book own.accepts

    long_moves : 3 * count_of own.book ≤ length m
    long_moves = enough_moves s (length h) (length m) own.book own.accepts

    roots : length (heads_of own.book) ≡ own.book.names
    roots = length-roots own.book.rules own.book.names own.book.names 0 0

    three : length (moves_of own.book) ≡ 3 * count_of own.book
    three = length-numbers (transitions own.book.names own.book.rules)

    names : c.names ≡ own.book.names
    names = ap (λ (k : Counts). k.names) own.same

    count : c.transitions ≡ count_of own.book
    count = ap (λ (k : Counts). k.transitions) own.same

    pub few-numbers : 3 * c.transitions ≤ 15360
    few-numbers = omega (arith, count, (accepted-passed s own.book (built-accepted s (length h) (length m) own.book own.accepts)).count)

    -- the tables after the build, and the numbers written
    wrote_heads : h' ≡ over (heads_of own.book) h
    wrote_heads = p.heads ∙ rw own.accepts refl

    wrote_moves : m' ≡ over (moves_of own.book) m
    wrote_moves = p.moves ∙ rw own.accepts refl

    pub names-lent : c.names ≤ length h'
    names-lent =
        let l : length (over (heads_of own.book) h) ≡ length h = over-length (heads_of own.book) h (rw roots long_heads) in
        rw (wrote_heads, l, names) long_heads

    pub numbers-lent : 3 * c.transitions ≤ length m'
    numbers-lent =
        let l : length (over (moves_of own.book) m) ≡ length m = over-length (moves_of own.book) m (rw three long_moves) in
        rw (wrote_moves, l, count) long_moves

    pub written-heads : take c.names h' ≡ heads_of own.book
    written-heads = ap (take c.names) wrote_heads ∙ over-front c.names (heads_of own.book) h (names ∙ sym roots)

    pub written-moves : take (3 * c.transitions) m' ≡ moves_of own.book
    written-moves =
        ap (take (3 * c.transitions)) wrote_moves
        ∙ over-front (3 * c.transitions) (moves_of own.book) m (ap (λ (k : ℕ). 3 * k) count ∙ sym three)

  -- a build that is refused says why
  pub refused-by : {x : BuildRefusal} → Builds s h m h' m' (Err x) → built s (length h) (length m) ≡ refused (build_cause x) (build_value x)
  refused-by {x} p = by_result (built s (length h) (length m)) p.answer
    where
      by_result : (t : Result Book) → says (Err x) ≡ map_result counts_of t → t ≡ refused (build_cause x) (build_value x)
      by_result (refused cause value) f = sym (ap (map_result (λ (k : Counts). counted_none)) f)
      by_result (ok b) f = absurd (refused-ok (build_cause x) (build_value x) (counts_of b) f)

-- a build tells the counts of a book, and two tables begin with the book's
pub record TablesOf (b : Book) (h m : List ℕ) (r : Outcome Counts BuildRefusal) : Type 0 where
  pub answer : r ≡ Ok (counts_of b)
  pub heads : take b.names h ≡ heads_of b
  pub moves : take (3 * count_of b) m ≡ moves_of b

-- an accepted book is built where the lent tables are long enough: its counts are told, and its tables stand at the fronts of the lent ones
pub accepted-written : (s h m h' m' : List ℕ) (r : Outcome Counts BuildRefusal) (b : Book) → Builds s h m h' m' r → accepted s ≡ ok b → b.names ≤ length h
    → 3 * count_of b ≤ length m → TablesOf b h' m' r
accepted-written s h m h' m' r b p a long_heads long_moves =
    record {
      answer = by_answer r (p.answer ∙ ap (map_result counts_of) e);
      heads =
          ap (take b.names) (p.heads ∙ rw e refl)
          ∙ over-front b.names (heads_of b) h (sym (length-roots b.rules b.names b.names 0 0));
      moves =
          ap (take (3 * count_of b)) (p.moves ∙ rw e refl)
          ∙ over-front (3 * count_of b) (moves_of b) m (sym (length-numbers (transitions b.names b.rules)));
    }
  where
    e : built s (length h) (length m) ≡ ok b
    e = accepted-built s (length h) (length m) b a long_heads long_moves

    by_answer : (r : Outcome Counts BuildRefusal) → says r ≡ ok (counts_of b) → r ≡ Ok (counts_of b)
    by_answer (Ok c) f = ap Ok (ok_injective c (counts_of b) f)
    by_answer (Err x) f = absurd (refused-ok (build_cause x) (build_value x) (counts_of b) f)
