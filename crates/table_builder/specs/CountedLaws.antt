-- From what was counted and then laid to what a build promises.
use Rattle.std.specs.Prelude.{Bool, cond, ◌&&◌, List, ◌⊎◌, ◌≡◌, ℕ, ◌*◌, ◌<◌, ◌≤◌, length, Ok, Err}
use Rattle.std.proofs.Math.Bool.{true, false}
use Rattle.std.proofs.Common.{inl, inr, sym, ap, ◌∙◌, subst, arith, leb-true, leb-false}
use Rattle.std.proofs.Math.Path.{refl}
use Rattle.std.proofs.Math.Dec.{leb}
use Rattle.base.specs.WritingLaws.{sets_over}
use Rattle.base.specs.Truth.{and_left, and_right, lt_or_le}
use Rattle.roles.specs.Rule.{Book}
use Rattle.base.specs.Result.{Result, map_result}
use Rattle.base.specs.Result.Result.{refused, ok}
use Rattle.base.specs.ResultLaws.{refused-ok, ok_injective}
use Rattle.book_causes.specs.Accepted.{states_of, count_of, depth_of, heads_of, moves_of, accepted, built}
use Rattle.book_causes.specs.AcceptedLaws.{accepted-states, accepted-count, accepted-ok, accepted-passed, built-refused, built-short, accepted-built, built-accepted}
use Rattle.book_causes.specs.AcceptedLaws.{enough_heads, enough_moves}
use Rattle.rule_index.specs.RuleIndex.{level_in}
use Rattle.table_laying.specs.Pieces.{length-numbers, length-roots}
use Rattle.table_sizes.specs.Sizes.{few-transitions}
use Rattle.refusals.specs.declared.build.BuildRefusal.{BuildRefusal}
use Rattle.refusals.specs.declared.build.BuildRefusal.TheVariants.{States, Transitions, Short}
use Rattle.refusals.specs.BuildRefusals.{build_cause, build_value}
use Rattle.table_limits.specs.declared.Counts.{Counts}
use Rattle.table_limits.specs.Limits.{limited}
use Rattle.table_writer.specs.declared.Place.{Place}
use Rattle.table_builder.specs.Lay.{Counted, Roots}
use Rattle.table_builder.specs.Builds.{counts_of, says, Answers, Prepared, Builds}

-- a refusal changes nothing
pub builds_refused : (s h m : List ℕ) (x : BuildRefusal) → Answers s (length h) (length m) (Err x) → Builds s h m h m (Err x)
builds_refused s h m x e = by_result (built s (length h) (length m)) refl e
  where
    by_result : (r : Result Book) → built s (length h) (length m) ≡ r → says (Err x) ≡ map_result counts_of r → Builds s h m h m (Err x)
    by_result (refused c v) f g = record { answer = e; heads = rw f refl; moves = rw f refl }
    by_result (ok b) f g = absurd (refused-ok (build_cause x) (build_value x) (counts_of b) g)

module _ (s ix : List ℕ) (names : ℕ) (p : Prepared s ix names) where
  few : states_of p.book ≤ 2048 → count_of p.book ≤ 5120
  few h = few-transitions p.book.rules (level_in ix) p.index.fits p.book.names p.book.names h

  -- what was counted
  module _ {depth : ℕ} (deep : depth ≡ depth_of p.book) (r : Place) (w : Counted p.book.rules p.book.names names r) (heads moves : ℕ) where
    abbrev counts : Counts
    counts = record { names = names; states = r.state; transitions = r.count; depth = depth }

    own : Counted p.book.rules p.book.names p.book.names r
    own = subst (λ (n : ℕ). Counted p.book.rules p.book.names n r) p.same w

    too_large : 2048 < r.state → (2048 < states_of p.book) ⊎ (states_of p.book ≤ 2048) → 2048 < states_of p.book
    too_large h (inl k) = k
    too_large h (inr k) = absurd (let e : r.state ≡ states_of p.book = own.within k in let f : ⊥ = omega arith in f)

    fits : r.state ≤ 2048 → (2048 < states_of p.book) ⊎ (states_of p.book ≤ 2048) → states_of p.book ≤ 2048
    fits h (inl k) = absurd (let f : 2048 < r.state = own.over k in let g : ⊥ = omega arith in g)
    fits h (inr k) = k

    -- cause 9
    judged-states : 2048 < r.state → Answers s heads moves (Err States)
    judged-states h =
        rw (built-refused s heads moves 9 0 (accepted-states s p.book p.ordered (too_large h (lt_or_le 2048 (states_of p.book))))) refl

    module _ (small : r.state ≤ 2048) where
      whole : states_of p.book ≤ 2048
      whole = fits small (lt_or_le 2048 (states_of p.book))

      same_count : r.count ≡ count_of p.book
      same_count = own.count whole (omega (arith, few whole))

      -- cause 10
      judged-transitions : 5120 < r.count → Answers s heads moves (Err Transitions)
      judged-transitions h = rw (built-refused s heads moves 10 0 (accepted-count s p.book p.ordered whole (rw (← same_count) h))) refl

      module _ (short : r.count ≤ 5120) where
        accepts : accepted s ≡ ok p.book
        accepts = accepted-ok s p.book p.ordered whole (rw (← same_count) short)

        -- cause 11
        judged-short : (leb names heads && leb (3 * r.count) moves) ≡ false → Answers s heads moves (Err Short)
        judged-short h = rw (built-short s heads moves p.book accepts (rw (← same_count, ← p.same) h)) refl

        judged-built : (leb names heads && leb (3 * r.count) moves) ≡ true → Answers s heads moves (Ok counts)
        judged-built h =
            let enough = leb-true names heads (and_left (leb names heads) (leb (3 * r.count) moves) h) in
            let room = leb-true (3 * r.count) moves (and_right (leb names heads) (leb (3 * r.count) moves) h) in
            let built = accepted-built s heads moves p.book accepts (rw (← p.same) enough) (rw (← same_count) room) in
            rw (built, p.same, own.within whole, same_count, deep) refl

    pub judged : Answers s heads moves (limited names r.state r.count depth heads moves)
    unfolding limited
    judged = by-states (leb r.state 2048) refl
      where
        by-lent : (small : r.state ≤ 2048) → r.count ≤ 5120 → (t : Bool) → (leb names heads && leb (3 * r.count) moves) ≡ t
            → Answers s heads moves (cond t (Ok counts) (Err Short))
        by-lent small short true h = judged-built small short h
        by-lent small short false h = judged-short small short h

        by_count : r.state ≤ 2048 → (t : Bool) → leb r.count 5120 ≡ t
            → Answers s heads moves (cond t (cond (leb names heads && leb (3 * r.count) moves) (Ok counts) (Err Short)) (Err Transitions))
        by_count small true h = by-lent small (leb-true r.count 5120 h) (leb names heads && leb (3 * r.count) moves) refl
        by_count small false h = judged-transitions small (leb-false r.count 5120 h)

        by-states : (t : Bool) → leb r.state 2048 ≡ t
            → Answers s heads moves (cond t (cond (leb r.count 5120) (cond (leb names heads && leb (3 * r.count) moves) (Ok counts) (Err Short)) (Err Transitions)) (Err States))
        by-states true h = by_count (leb-true r.state 2048 h) (leb r.count 5120) refl
        by-states false h = judged-states (leb-false r.state 2048 h)

  -- tables laid in the lent ones are what a build promises
  pub builds_laid : (h m : List ℕ) (c : Counts) → Answers s (length h) (length m) (Ok c) → (q : Place) (h' m' : List ℕ)
      → Roots p.book.rules p.book.names names q h h' m m' → Builds s h m h' m' (Ok c)
  builds_laid h m c e q h' m' v = by_result (built s (length h) (length m)) refl e
    where
      laid : Roots p.book.rules p.book.names p.book.names q h h' m m'
      laid = subst (λ (k : ℕ). Roots p.book.rules p.book.names k q h h' m m') p.same v

      written-here : built s (length h) (length m) ≡ ok p.book → Builds s h m h' m' (Ok c)
      written-here f =
          let passed = accepted-passed s p.book (built-accepted s (length h) (length m) p.book f) in
          let size = length-roots p.book.rules p.book.names p.book.names 0 0 in
          record {
            answer = e;
            heads = rw f (laid.places passed.states ∙ sets_over (heads_of p.book) h (rw size (enough_heads s (length h) (length m) p.book f)));
            moves =
                rw f
                (laid.exact passed.states (omega (arith, passed.count)) (enough_moves s (length h) (length m) p.book f)
                ∙ sets_over (moves_of p.book) m (rw length-numbers (enough_moves s (length h) (length m) p.book f)));
          }

      by_result : (r : Result Book) → built s (length h) (length m) ≡ r → says (Ok c) ≡ map_result counts_of r → Builds s h m h' m' (Ok c)
      by_result (refused cause value) f g = absurd (refused-ok cause value c (sym g))
      by_result (ok b) f g =
          let o = (accepted-passed s b (built-accepted s (length h) (length m) b f)).ordered in
          written-here (f ∙ ap ok (ok_injective b p.book (sym o ∙ p.ordered)))
