-- The answer whole: a refused book and numbers of another length are left alone, and the three steps of filling together are the index.
use mathlib.Core.List.{List, Memᴰ}
use Rattle.std.specs.Prelude.{◌≡◌, refl, ℕ, ◌-◌, ◌<◌, ◌≤◌, length, get_or, replicate, Ok, Err}
use Rattle.std.specs.Prelude.{Result as Answer}
use Rattle.std.proofs.Common.{sym, ap, ◌∙◌, subst, arith}
use Rattle.roles.specs.Role.{name}
use Rattle.roles.specs.Rule.{Rule, Book}
use Rattle.roles.specs.Named.{Named}
use Rattle.order.specs.Shape.{shape}
use Rattle.order.specs.ClosureLaws.{inner-left}
use Rattle.base.specs.Result.{Result, map_result}
use Rattle.base.specs.Result.Result.{refused, ok}
use Rattle.base.specs.ResultLaws.{refused-ok, ok_injective, map_refused}
use Rattle.book_format.specs.Format.{read}
use Rattle.book_format.specs.Place.{rule_at, rule_place}
use Rattle.book_format.specs.FormatLaws.{get_or-first_rules}
use Rattle.book_format.specs.DecodeLaws.{Decoded, decoded}
use Rattle.book_format.specs.ReadLaws.{read-decode, read_whole, read_named, named-name, named-member, rules-named, read-few_names}
use Rattle.book_causes.specs.Accepted.{levels_of, depth_of, count_or_none, written}
use Rattle.book_causes.specs.LevelsLaws.{Fitting, fits-same, levels-fitting}
use Rattle.book_causes.specs.Ordered.{ordered}
use Rattle.book_causes.specs.OrderedRun.{ordered-read}
use Rattle.book_header.specs.declared.Header.{Header}
use Rattle.book_decoder.specs.Verdict.{header_of}
use Rattle.refusals.specs.declared.book.BookRefusal.{BookRefusal}
use Rattle.refusals.specs.BookRefusals.{book_cause, book_value}
use Rattle.order_checker.specs.declared.Ordering.{Ordering}
use Rattle.order_checker.specs.Gather.{Ordered}
use Rattle.table_languages.specs.LeftSides.{fits-apart}
use Rattle.rule_index.specs.RuleLinks.{no_rule, rule, rule-member}
use Rattle.rule_index.specs.RuleIndex.{Indexed, level_in, Recorded}
use Rattle.rule_index.specs.Filling.{Ruled, Entering, Started, Linkable, Linking}
use Rattle.rule_index.specs.FillingLaws.{recorded_kept}
use Rattle.rule_index.specs.Indexes.{Indexes}
use Rattle.rule_index.specs.declared.Indexing.{Indexing}

-- a book in order
module _ (s : List ℕ) (b : Book) (i : read s ≡ ok b) where
  d : Decoded s b
  d = decoded s b (read-decode s b i)

  few-rules : length b.rules ≤ 256
  few-rules = omega (arith, d.count, d.count_most)

  ruled : Ruled s (length b.rules)
  ruled = record { few = few-rules; whole = read_whole s b i }

  rule-there : (k : ℕ) → k < length b.rules → rule b.rules k ≡ rule_at s (rule_place s k)
  rule-there k p = rw d.rules (get_or-first_rules s _ k no_rule (omega (arith, d.count)))

  small : (k : ℕ) → k < length b.rules → (rule b.rules k).right < 128
  unfolding name
  small k p = omega (arith, named-name 64 _ _ (read_named s b i k p (rule b.rules k) (rule-there k p)))

  right-name : (ρ : Rule) → Memᴰ ρ b.rules → name ρ.right < 64
  right-name ρ m = named-name 64 _ _ (rules-named s b i ρ m)

  left-name : (ρ : Rule) → Memᴰ ρ b.rules → (q : ℕ) → Memᴰ q ρ.left → name q < 64
  left-name ρ m q j = named-member 64 _ (rules-named s b i ρ m) q (Memᴰ.tail j)

  names : Named 64 b.rules
  unfolding name
  names ρ m = (omega (arith, right-name ρ m), λ q j. omega (arith, left-name ρ m q j))

  -- its rules entered and started
  module _ (levels entered started : List ℕ) (e : Entering s (length b.rules) entered) (t : Started levels 64 entered started) where
    entry : (k : ℕ) → k < length b.rules → Recorded (rule b.rules k) started k
    entry k p =
        let r : Recorded (rule b.rules k) entered k = rw (rule-there k p) (e.entry k p) in
        recorded_kept k (omega (arith, few-rules)) e.size t.size (λ m v w u. t.kept m (omega (arith, few-rules))) r

    ready : Fitting levels b → Linkable b.rules (length b.rules) started
    ready l =
        record {
          size = t.size;
          count = refl;
          few = few-rules;
          entry = entry;
          small = small;
          apart = λ k p. fits-apart (λ x. get_or levels x 0 - 1) (rule b.rules k).right (shape (rule b.rules k)) (l.fits _ (rule-member b.rules k p));
          none = t.first;
          clear = t.clear;
        }

    -- and linked
    module _ (l : Fitting levels b) (ix : List ℕ) (k : Linking b.rules 0 started ix) where
      level : (x : ℕ) → x < 64 → level_in ix x ≡ get_or levels x 0 - 1
      level x p = k.level x p ∙ t.level x p

      indexed : Indexed b.rules ix
      indexed =
          record {
            size = k.size;
            few = few-rules;
            named = names;
            entry =
                λ j p.
                recorded_kept j (omega (arith, few-rules)) t.size k.size
                (λ m u v w. k.kept m (omega (arith, few-rules)) (λ g q. w (omega arith))) (entry j p);
            next = λ j p. k.next j (omega arith) p;
            first = k.first;
            kinds = k.kinds;
            fits =
                λ ρ m.
                fits-same (level_in ix) (λ x. get_or levels x 0 - 1) (name ρ.right) (shape ρ) (level (name ρ.right) (right-name ρ m))
                (λ q j. level (name q) (left-name ρ m q (inner-left ρ q j))) (l.fits ρ m);
          }

      few-levels : (x : ℕ) → x < b.names → level_in ix x < b.names
      few-levels x p = rw (level x (omega (arith, read-few_names s b i))) (l.few x p)

-- the answer, by the answer of the order check
pub indexes_refused : {s old : List ℕ} {x : BookRefusal} → Ordered s (Err x) → Indexes s old old (Err x)
indexes_refused {s = s} {x = x} o =
    record {
      verdict = o.verdict;
      depth = rw (map_refused header_of (ordered s) o.verdict) refl;
      kept = λ _ _ _. refl;
      other = λ _. refl;
      index = λ b q. absurd (refused-ok (book_cause x) (book_value x) (header_of b) (o.verdict ∙ ap (map_result header_of) q));
      few = λ b q. absurd (refused-ok (book_cause x) (book_value x) (header_of b) (o.verdict ∙ ap (map_result header_of) q));
    }

module _ {s : List ℕ} {r : Ordering} (o : Ordered s (Ok r)) where
  e : ok r.header ≡ map_result header_of (ordered s)
  e = o.verdict

  rules : (b : Book) → ordered s ≡ ok b → r.header.rules ≡ length b.rules
  rules b q = sym (ap (λ (x : Header). x.rules) (ok_injective (header_of b) r.header (sym (ap (map_result header_of) q) ∙ sym e)))

  passed : (b : Book) × (ordered s ≡ ok b)
  passed = by_result (ordered s) refl e
    where
      by_result : (t : Result Book) → ordered s ≡ t → ok r.header ≡ map_result header_of t → (b : Book) × (ordered s ≡ ok b)
      by_result (refused c v) q w = absurd (refused-ok c v r.header (sym w))
      by_result (ok b) q w = (b, q)

  pub rules-whole : Ruled s r.header.rules
  rules-whole = rw (rules passed.0 passed.1) (ruled s passed.0 (ordered-read s passed.0 passed.1))

  fitting : (b : Book) → ordered s ≡ ok b → Fitting r.levels b
  fitting b q = subst (λ (l : List ℕ). Fitting l b) (sym (o.levels ∙ ap (λ (t : Result Book). written t levels_of (replicate 64 0)) q)) (levels-fitting s b q (replicate 64 0))

  pub indexes_other : {old : List ℕ} → (length old ≡ 3904 → ⊥) → Indexes s old old (Ok (record { header = r.header; depth = r.depth }))
  indexes_other x =
      record {
        verdict = e;
        depth = o.depth;
        kept = λ _ _ _. refl;
        other = λ _. refl;
        index = λ b q p. absurd (x p);
        few = λ b q p. absurd (x p);
      }

  module _ {entered started : List ℕ} (n : Entering s r.header.rules entered) (t : Started r.levels 64 entered started) where
    linkable_book : (b : Book) (q : ordered s ≡ ok b) → Linkable b.rules r.header.rules started
    linkable_book b q = rw (rules b q) (ready s b (ordered-read s b q) r.levels entered started (rw (rules b q) at n) t (fitting b q))

    pub linkable : (ρs : List Rule) × Linkable ρs r.header.rules started
    linkable = (passed.0.rules, linkable_book passed.0 passed.1)

    pub indexes_filled : {old : List ℕ} → length old ≡ 3904 → {new : List ℕ} → ((ρs : List Rule) → Linkable ρs r.header.rules started → Linking ρs 0 started new)
        → Indexes s old new (Ok (record { header = r.header; depth = r.depth }))
    indexes_filled {old} z {new} k =
        record {
          verdict = e;
          depth = o.depth;
          kept = λ c v q. absurd (refused-ok c v r.header (sym (e ∙ ap (map_result header_of) q)));
          other = λ w. absurd (w z);
          index =
              λ b q p.
              indexed s b (ordered-read s b q) r.levels entered started (rw (rules b q) at n) t (fitting b q) new (k _ (linkable_book b q));
          few =
              λ b q p.
              few-levels s b (ordered-read s b q) r.levels entered started (rw (rules b q) at n) t (fitting b q) new (k _ (linkable_book b q));
        }
