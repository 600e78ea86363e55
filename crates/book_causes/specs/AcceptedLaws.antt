-- What each test of causes 9 to 11 settles, what an accepted book has passed, and what the lent tables decide: an accepted book is built where they
-- are long enough, and one that is not accepted is refused alike whatever is lent.
use Rattle.std.specs.Prelude.{true, false, ◌&&◌, List, ◌≡◌, ℕ, ◌*◌, ◌<◌, ◌≤◌, leb}
use Rattle.std.proofs.Math.Path.{refl}
use Rattle.std.proofs.Common.{sym, ap, ◌∙◌, subst, arith}
use borrow.Author.Tests.{le-leb, lt-leb, leb-true}
use Rattle.base.specs.Truth.{and_left, and_right}
use Rattle.roles.specs.Rule.{Book}
use Rattle.base.specs.Result.{Result, and_then}
use Rattle.base.specs.Result.Result.{refused, ok}
use Rattle.base.specs.ResultLaws.{refused-ok, ok_injective, and_then_assoc, demand_test, demand-rest}
use Rattle.book_format.specs.Format.{decode}
use Rattle.book_format.specs.ReadLaws.{read-few_names}
use Rattle.book_causes.specs.Ordered
use Rattle.book_causes.specs.Ordered.{ordered, ordered_book}
use Rattle.book_causes.specs.Source.{sourced}
use Rattle.book_causes.specs.OrderedRun.{ordered-read}
use Rattle.book_causes.specs.Accepted.{states_of, count_of, fitting, accepted_book, accepted, lent, built, Building}

-- bytes are judged by one cause after another: a book with a regular order is built from itself
pub sourced-ordered : (s : List ℕ) → sourced s ≡ ordered s
unfolding sourced ordered
sourced-ordered s = refl

accepted_then : (s : List ℕ) → accepted s ≡ and_then (ordered s) fitting
unfolding accepted ordered
accepted_then s = sym (and_then_assoc (decode s) ordered_book fitting)

built_then : (s : List ℕ) (heads moves : ℕ) → built s heads moves ≡ and_then (accepted s) (lent heads moves)
unfolding built accepted
built_then s heads moves = sym (and_then_assoc (decode s) accepted_book (lent heads moves))

-- causes 9 and 10, for a book with a regular order
module _ (s : List ℕ) where
  pub accepted-refused : (c v : ℕ) → ordered s ≡ refused c v → accepted s ≡ refused c v
  accepted-refused c v h = accepted_then s ∙ rw h refl

  module _ (b : Book) (o : ordered s ≡ ok b) where
    pub accepted-states : 2048 < states_of b → accepted s ≡ refused 9 0
    unfolding fitting
    accepted-states h = accepted_then s ∙ rw (o, lt-leb (states_of b) 2048 h) refl

    module _ (few : states_of b ≤ 2048) where
      pub accepted-count : 5120 < count_of b → accepted s ≡ refused 10 0
      unfolding fitting
      accepted-count h = accepted_then s ∙ rw (o, le-leb (states_of b) 2048 few, lt-leb (count_of b) 5120 h) refl

      pub accepted-ok : count_of b ≤ 5120 → accepted s ≡ ok b
      unfolding fitting
      accepted-ok h = accepted_then s ∙ rw (o, le-leb (states_of b) 2048 few, le-leb (count_of b) 5120 h) refl

-- what an accepted book has passed
pub record Passed (s : List ℕ) (b : Book) : Type 0 where
  pub ordered : Ordered.ordered s ≡ ok b
  pub states : states_of b ≤ 2048
  pub count : count_of b ≤ 5120

fitting-same : (d b : Book) → fitting d ≡ ok b → d ≡ b
unfolding fitting
fitting-same d b h =
    ok_injective d b (demand-rest (leb (count_of d) 5120) 10 0 _ b (demand-rest (leb (states_of d) 2048) 9 0 _ b h))

passed : (s : List ℕ) (b : Book) → ordered s ≡ ok b → fitting b ≡ ok b → Passed s b
unfolding fitting
passed s b o h =
    record {
      ordered = o;
      states = leb-true (states_of b) 2048 (demand_test (leb (states_of b) 2048) 9 0 _ b h);
      count = leb-true (count_of b) 5120 (demand_test (leb (count_of b) 5120) 10 0 _ b (demand-rest (leb (states_of b) 2048) 9 0 _ b h));
    }

pub accepted-passed : (s : List ℕ) (b : Book) → accepted s ≡ ok b → Passed s b
accepted-passed s b e = by_result (ordered s) refl (sym (accepted_then s) ∙ e)
  where
    by_result : (r : Result Book) → ordered s ≡ r → and_then r fitting ≡ ok b → Passed s b
    by_result (refused c v) f g = absurd (refused-ok c v b g)
    by_result (ok d) f g =
        let same : d ≡ b = fitting-same d b g in
        passed s b (f ∙ ap ok same) (subst (λ (d : Book). fitting d ≡ ok b) same g)

-- cause 11, where tables of so many numbers are lent
module _ (s : List ℕ) (heads moves : ℕ) where
  -- a book that is not accepted is refused by the same cause with the same value, whatever is lent
  pub built-refused : (c v : ℕ) → accepted s ≡ refused c v → built s heads moves ≡ refused c v
  built-refused c v h = built_then s heads moves ∙ rw h refl

  module _ (b : Book) where
    pub built-short : accepted s ≡ ok b → (leb b.names heads && leb (3 * count_of b) moves) ≡ false → built s heads moves ≡ refused 11 0
    built-short a h = built_then s heads moves ∙ rw (a, h) refl

    -- an accepted book is built where the lent tables are long enough
    pub accepted-built : accepted s ≡ ok b → b.names ≤ heads → 3 * count_of b ≤ moves → built s heads moves ≡ ok b
    accepted-built a h k = built_then s heads moves ∙ rw (a, le-leb b.names heads h, le-leb (3 * count_of b) moves k) refl

    -- a book that is built is accepted, and the lent tables are long enough for it
    module _ (e : built s heads moves ≡ ok b) where
      both : (accepted s ≡ ok b) × ((leb b.names heads && leb (3 * count_of b) moves) ≡ true)
      both = by_result (accepted s) refl (sym (built_then s heads moves) ∙ e)
        where
          by_result : (r : Result Book) → accepted s ≡ r → and_then r (lent heads moves) ≡ ok b
              → (accepted s ≡ ok b) × ((leb b.names heads && leb (3 * count_of b) moves) ≡ true)
          by_result (refused c v) f g = absurd (refused-ok c v b g)
          by_result (ok d) f g =
              let same : d ≡ b = ok_injective d b (demand-rest (leb d.names heads && leb (3 * count_of d) moves) 11 0 _ b g) in
              (f ∙ ap ok same, rw same at (demand_test (leb d.names heads && leb (3 * count_of d) moves) 11 0 _ b g))

      pub built-accepted : accepted s ≡ ok b
      built-accepted = both.0

      pub enough_heads : b.names ≤ heads
      enough_heads = leb-true b.names heads (and_left (leb b.names heads) (leb (3 * count_of b) moves) both.1)

      pub enough_moves : 3 * count_of b ≤ moves
      enough_moves = leb-true (3 * count_of b) moves (and_right (leb b.names heads) (leb (3 * count_of b) moves) both.1)

      -- the book that is built from is the book as written
      pub building : Building s heads moves b b
      building = record { written = ordered-read s b (accepted-passed s b built-accepted).ordered; source = e }

-- one book is written, and its tables are built from one
pub building_one : {s : List ℕ} {heads moves : ℕ} {b d b' d' : Book} → Building s heads moves b d → Building s heads moves b' d' → (b ≡ b') × (d ≡ d')
building_one p q = (ok_injective _ _ (sym p.written ∙ q.written), ok_injective _ _ (sym p.source ∙ q.source))

-- no more than 64 heads and 15,360 moves are needed: tables lent so long serve as longer ones do
pub built_enough : (heads moves heads' moves' : ℕ) → ((n : ℕ) → n ≤ 64 → leb n heads ≡ leb n heads')
    → ((n : ℕ) → n ≤ 15360 → leb n moves ≡ leb n moves') → (s : List ℕ) → built s heads moves ≡ built s heads' moves'
built_enough heads moves heads' moves' f g s =
    built_then s heads moves ∙ by_result (accepted s) refl ∙ sym (built_then s heads' moves')
  where
    by_result : (r : Result Book) → accepted s ≡ r → and_then r (lent heads moves) ≡ and_then r (lent heads' moves')
    by_result (refused c v) e = refl
    by_result (ok b) e =
        let p = accepted-passed s b e in
        rw (f b.names (read-few_names s b (ordered-read s b p.ordered)), g (3 * count_of b) (omega (arith, p.count))) refl
