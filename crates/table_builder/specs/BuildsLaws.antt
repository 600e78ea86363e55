-- From the answer of the index to what a build promises.
use Rattle.std.specs.Prelude.{List, ◌≡◌, refl, ℕ, ◌<◌, ◌≤◌, length, Ok, Err}
use Rattle.std.specs.Prelude.{Result as Answer}
use Rattle.refusals.specs.declared.build.BuildRefusal.{BuildRefusal}
use Rattle.std.proofs.Common.{sym, ap, ◌∙◌}
use Rattle.roles.specs.Rule.{Rule, Book}
use Rattle.base.specs.Result.{Result, map_result}
use Rattle.base.specs.ResultLaws.{ok_injective, refused-ok}
use Rattle.base.specs.Result.Result.{refused, ok}
use Rattle.book_format.specs.ReadLaws.{read-few_names}
use Rattle.book_causes.specs.Accepted.{depth_of, built, count_or_none}
use Rattle.book_causes.specs.Ordered as Ordered
use Rattle.book_causes.specs.OrderedRun.{ordered-read}
use Rattle.book_causes.specs.AcceptedLaws.{accepted-refused, accepted-passed, built-refused, built-accepted}
use Rattle.refusals.specs.declared.book.BookRefusal.{BookRefusal}
use Rattle.refusals.specs.declared.build.BuildRefusal.TheVariants.{Book as ByBook}
use Rattle.book_header.specs.declared.Header.{Header}
use Rattle.refusals.specs.BookRefusals.{book_cause, book_value}
use Rattle.book_decoder.specs.Verdict.{header_of}
use Rattle.rule_index.specs.declared.Indexing.{Indexing}
use Rattle.rule_index.specs.RuleIndex.{Indexed}
use Rattle.rule_index.specs.Indexes.{Indexes, header_said, depth_in}
use Rattle.table_limits.specs.Limits.{limited}
use Rattle.table_builder.specs.Lay.{Enough, Counted, Rooted}
use Rattle.table_builder.specs.Builds.{counts_of, Answers, Checked, Prepared, Builds}
use Rattle.table_builder.specs.CountedLaws.{judged, builds_refused, builds_laid}
use Rattle.table_writer.specs.declared.Place.{Place}
use Rattle.table_limits.specs.declared.Counts.{Counts}

pub checked : {s old ix : List ℕ} {i : Answer Indexing BookRefusal} → length old ≡ 3904 → Indexes s old ix i → Checked s ix i
checked l a = (_, l, a)

module _ {s ix : List ℕ} {i : Answer Indexing BookRefusal} (a : Checked s ix i) where
  -- a book that is in order
  prepare : (b : Book) → Ordered.ordered s ≡ ok b → (names : ℕ) → names ≡ b.names → Prepared s ix names
  prepare b o names e =
      let few : b.names ≤ 64 = read-few_names s b (ordered-read s b o) in
      record {
        book = b;
        ordered = o;
        index = a.2.index b o a.1;
        same = e;
        few = rw e few;
        levels = λ x k. a.2.few b o a.1 x (rw (← e) k);
      }

  -- a book that is built, by its counts
  module _ (heads moves : ℕ) where
    counted : (c : Counts) → Answers s heads moves (Ok c) → Prepared s ix c.names
    counted c e = by_result (built s heads moves) refl e
      where
        by_result : (r : Result Book) → built s heads moves ≡ r → ok c ≡ map_result counts_of r → Prepared s ix c.names
        by_result (refused cause value) f g = absurd (refused-ok cause value c (sym g))
        by_result (ok b) f g =
            prepare b (accepted-passed s b (built-accepted s heads moves b f)).ordered c.names (ap (λ (x : Counts). x.names) (ok_injective c (counts_of b) g))

  -- a book that is refused
  pub builds-unread : {x : BookRefusal} → i ≡ Err x → {h m : List ℕ} → Builds s h m h m (Err (ByBook x))
  builds-unread {x} e {h} {m} =
      builds_refused s h m (ByBook x)
      (rw (built-refused s (length h) (length m) (book_cause x) (book_value x)
      (accepted-refused s (book_cause x) (book_value x) (by_result (Ordered.ordered s) refl (sym (ap header_said e) ∙ a.2.verdict)))) refl)
    where
      by_result : (r : Result Book) → Ordered.ordered s ≡ r → refused (book_cause x) (book_value x) ≡ map_result header_of (Ordered.ordered s)
          → Ordered.ordered s ≡ refused (book_cause x) (book_value x)
      by_result (refused c v) f g =
          let same = g ∙ ap (map_result header_of) f in
          cc (f, same)
      by_result (ok b) f g = absurd (refused-ok (book_cause x) (book_value x) (header_of b) (g ∙ ap (map_result header_of) f))

  -- a book in order, by what was found of it
  module _ {o : Indexing} (w : i ≡ Ok o) where
    prepared : Prepared s ix o.header.names
    prepared = by_result (Ordered.ordered s) refl (sym (ap header_said w) ∙ a.2.verdict)
      where
        by_result : (r : Result Book) → Ordered.ordered s ≡ r → ok o.header ≡ map_result header_of (Ordered.ordered s) → Prepared s ix o.header.names
        by_result (refused c v) f g = absurd (refused-ok c v o.header (sym (g ∙ ap (map_result header_of) f)))
        by_result (ok b) f g =
            prepare b f o.header.names
            (ap (λ (x : Header). x.names) (ok_injective o.header (header_of b) (g ∙ ap (map_result header_of) f)))

    -- what counting asks for
    pub count-ready : (0 < o.header.names → (ρs : List Rule) × Indexed ρs ix) × (o.header.names ≤ 64)
    count-ready = (λ _. (prepared.book.rules, prepared.index), prepared.few)

    -- what is said of its tables when they are counted
    module _ {end : Place} (c : (ρs : List Rule) → Indexed ρs ix → (fuel : ℕ) → Enough ix o.header.names fuel → Counted ρs fuel o.header.names end)
        (h m : List ℕ) {x : Answer Counts BuildRefusal} (k : x ≡ limited o.header.names end.state end.count o.depth (length h) (length m)) where
      answers : Answers s (length h) (length m) x
      answers =
          let p = prepared in
          let deep = ap depth_in (sym w) ∙ a.2.depth ∙ ap (count_or_none depth_of) p.ordered in
          rw k (judged s ix o.header.names p deep end (c p.book.rules p.index p.book.names p.levels) (length h) (length m))

      pub builds-limited : {r : BuildRefusal} → x ≡ Err r → Builds s h m h m (Err r)
      builds-limited {r} e = builds_refused s h m r (rw e at answers)

      -- what laying asks for, and what it leaves
      module _ {n : Counts} (e : x ≡ Ok n) where
        laid : Prepared s ix n.names
        laid = counted (length h) (length m) n (rw e at answers)

        pub roots-ready : (0 < n.names → (ρs : List Rule) × Indexed ρs ix) × (n.names ≤ 64)
        roots-ready = (λ _. (laid.book.rules, laid.index), laid.few)

        pub builds_settled : {q : Place} {h' m' : List ℕ} → Rooted ix n.names q h h' m m' → Builds s h m h' m' (Ok n)
        builds_settled {q} {h'} {m'} r =
            builds_laid s ix n.names laid h m n (rw e at answers) q h' m' (r.roots laid.book.rules laid.index laid.book.names laid.levels)
