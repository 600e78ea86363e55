-- What causes 1 to 6 settle: the facts about the bytes of a book that passes them.
use Rattle.std.specs.Prelude.{true, false, ◌&&◌, List, [], ◌∷◌, ◌≡◌, ℕ, ◌<◌, ◌≤◌, leb, length, get_or, drop}
use Rattle.std.proofs.lemmas.Bool.{false≢true}
use Rattle.std.proofs.Math.Path.{refl}
use Rattle.std.proofs.Common.{sym, ap, ◌∙◌, zero-add, arith, leb-true, ltb-true, ltb-false}
use Rattle.std.proofs.Common.{zero-le}
use Rattle.std.proofs.Math.ListN.{get_or-eq_default}
use Rattle.base.specs.Truth.{and_left, and_right}
use Rattle.roles.specs.Rule.{Rule, Book}
use Rattle.words.specs.Word.{word}
use Rattle.base.specs.Result.{Result, demand}
use Rattle.base.specs.Result.Result.{refused, ok}
use Rattle.base.specs.ResultLaws.{demand_test, demand-rest}
use Rattle.book_format.specs.Format
use Rattle.book_format.specs.Format.{rules_from, named, size_fits, mark_fits, version_fits, counts_fit, decode}
use Rattle.book_format.specs.Place.{rule_at, whole_at, rule_place, first_rules, has_rule, left_side, left_part}
use Rattle.book_format.specs.FormatLaws.{Laid, laid, length-first_rules, get_or-first_rules}

-- what each test settles, after those before it passed
module _ (s : List ℕ) where
  pub decode-size : size_fits s ≡ false → decode s ≡ refused 1 0
  unfolding decode
  decode-size h = rw h refl

  module _ (size : size_fits s ≡ true) where
    pub decode-mark : mark_fits s ≡ false → decode s ≡ refused 2 0
    unfolding decode
    decode-mark h = rw (size, h) refl

    module _ (mark : mark_fits s ≡ true) where
      pub decode_version : version_fits s ≡ false → decode s ≡ refused 3 0
      unfolding decode
      decode_version h = rw (size, mark, h) refl

      module _ (version : version_fits s ≡ true) where
        pub decode-counts : counts_fit (get_or s 5 0) (word s 6) ≡ false → decode s ≡ refused 4 0
        unfolding decode
        decode-counts h = rw (size, mark, version, h) refl

        pub decode-all : counts_fit (get_or s 5 0) (word s 6) ≡ true → decode s ≡ rules_from (get_or s 5 0) [] (word s 6) (drop 8 s)
        unfolding decode
        decode-all h = rw (size, mark, version, h) refl

-- what the tests of causes 1 and 4 say
pub record Sized (s : List ℕ) : Type 0 where
  pub least : 8 ≤ length s
  pub most : length s ≤ 2568

pub sized : (s : List ℕ) → size_fits s ≡ true → Sized s
sized s h =
    record {
      least = leb-true 8 (length s) (and_left (leb 8 (length s)) (leb (length s) 2568) h);
      most = leb-true (length s) 2568 (and_right (leb 8 (length s)) (leb (length s) 2568) h);
    }

pub record Counted (names rules : ℕ) : Type 0 where
  pub some_name : 1 ≤ names
  pub names_most : names ≤ 64
  pub rules_most : rules ≤ 256

pub counted : (n k : ℕ) → counts_fit n k ≡ true → Counted n k
counted n k h =
    let names : (leb 1 n && leb n 64) ≡ true = and_left (leb 1 n && leb n 64) (leb k 256) h in
    record {
      some_name = leb-true 1 n (and_left (leb 1 n) (leb n 64) names);
      names_most = leb-true n 64 (and_right (leb 1 n) (leb n 64) names);
      rules_most = leb-true k 256 (and_right (leb 1 n && leb n 64) (leb k 256) h);
    }

pub record Decoded (s : List ℕ) (b : Book) : Type 0 where
  pub least : 8 ≤ length s
  pub most : length s ≤ 2568
  pub names : b.names ≡ get_or s 5 0
  pub some_name : 1 ≤ b.names
  pub names_most : b.names ≤ 64
  pub count : length b.rules ≡ word s 6
  pub count_most : word s 6 ≤ 256
  pub rules : b.rules ≡ first_rules s (word s 6)
  pub whole : (k : ℕ) → k < word s 6 → whole_at s (rule_place s k) ≡ true
  pub named : (k : ℕ) → k < word s 6 → Format.named b.names ((rule_at s (rule_place s k)).right ∷ (rule_at s (rule_place s k)).left) ≡ true
  pub ends : length s ≤ rule_place s (word s 6)

pub decoded : (s : List ℕ) (b : Book) → decode s ≡ ok b → Decoded s b
unfolding decode first_rules rule_place
decoded s b h =
    record {
      least = size.least;
      most = size.most;
      names = l.names;
      some_name = rw l.names counts.some_name;
      names_most = rw l.names counts.names_most;
      count = ap length rules ∙ length-first_rules s (word s 6);
      count_most = counts.rules_most;
      rules = rules;
      whole = λ k p. l.whole k zero-le (rw zero-add p);
      named = λ k p. rw l.names (l.named k zero-le (rw zero-add p));
      ends = rw (← zero-add (word s 6)) l.ends;
    }
  where
    n : ℕ
    n = get_or s 5 0

    from-rules : Result Book
    from-rules = rules_from n [] (word s 6) (drop 8 s)

    from-counts : Result Book
    from-counts = demand (counts_fit n (word s 6)) 4 0 from-rules

    from_version : Result Book
    from_version = demand (version_fits s) 3 0 from-counts

    from-mark : Result Book
    from-mark = demand (mark_fits s) 2 0 from_version

    size : Sized s
    size = sized s (demand_test (size_fits s) 1 0 from-mark b h)

    rest : from-counts ≡ ok b
    rest =
        demand-rest (version_fits s) 3 0 from-counts b
        (demand-rest (mark_fits s) 2 0 from_version b (demand-rest (size_fits s) 1 0 from-mark b h))

    counts : Counted n (word s 6)
    counts = counted n (word s 6) (demand_test (counts_fit n (word s 6)) 4 0 from-rules b rest)

    l : Laid s n 0 (word s 6) b
    l = laid s n (word s 6) 0 b (demand-rest (counts_fit n (word s 6)) 4 0 from-rules b rest)

    rules : b.rules ≡ first_rules s (word s 6)
    rules = l.rules ∙ ap (first_rules s) (zero-add (word s 6))

-- a book that has a rule k has each rule before it, whole
pub has_rule-whole : (s : List ℕ) (k : ℕ) → has_rule (decode s) k ≡ true → (j : ℕ) → j ≤ k → whole_at s (rule_place s j) ≡ true
unfolding has_rule
has_rule-whole s k h j p = by_result (decode s) refl h
  where
    by_result : (r : Result Book) → decode s ≡ r → has_rule r k ≡ true → whole_at s (rule_place s j) ≡ true
    by_result (refused cause value) e h = absurd (false≢true h)
    by_result (ok b) e h =
        let d : Decoded s b = decoded s b e in
        d.whole j (omega (arith, ltb-true k (length b.rules) h, d.count))

-- where there is no rule k, its left side is empty; where there is one, it is the left side of the rule at its place
pub left-none : (s : List ℕ) (k : ℕ) → has_rule (decode s) k ≡ false → ([] ≡ left_part s k) × ([] ≡ left_side (decode s) k)
unfolding has_rule left_part left_side
left-none s k h = (rw h refl, by_result (decode s) h)
  where
    by_result : (r : Result Book) → has_rule r k ≡ false → [] ≡ left_side r k
    by_result (refused cause value) e = refl
    by_result (ok b) e =
        sym (ap (λ (ρ : Rule). ρ.left) (get_or-eq_default b.rules (record { left = []; right = 0 }) (ltb-false k (length b.rules) e)))

pub left-some : (s : List ℕ) (k : ℕ) → has_rule (decode s) k ≡ true
    → ((rule_at s (rule_place s k)).left ≡ left_part s k) × ((rule_at s (rule_place s k)).left ≡ left_side (decode s) k)
unfolding has_rule left_part left_side
left-some s k h = (rw h refl, by_result (decode s) refl h)
  where
    by_result : (r : Result Book) → decode s ≡ r → has_rule r k ≡ true → (rule_at s (rule_place s k)).left ≡ left_side r k
    by_result (refused cause value) e h = absurd (false≢true h)
    by_result (ok b) e h =
        let d : Decoded s b = decoded s b e in
        let p : k < word s 6 = omega (arith, ltb-true k (length b.rules) h, d.count) in
        rw d.rules (ap (λ (ρ : Rule). ρ.left) (sym (get_or-first_rules s (word s 6) k (record { left = []; right = 0 }) p)))
