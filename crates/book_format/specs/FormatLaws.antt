-- Laws of the byte format: what a rule at a place does to the reading from that place on, and what an accepted book says of its bytes.
use Rattle.std.proofs.Math.Bool.{Bool}
use Rattle.std.specs.Prelude.{true, false, cond, ◌&&◌, List, [], ◌∷◌, ◌++◌, ◌⊎◌, ◌≡◌, ℕ, zero, suc, ◌+◌, ◌-◌, ◌<◌, ◌≤◌, length, get_or, drop}
use Rattle.std.proofs.Common.{inl, inr, sym, ap, ◌∙◌, add-zero, not-suc-le-zero, add-one, arith, length-append, length-drop, drop_of_length-le, drop-cons, drop-drop}
use Rattle.std.proofs.Math.Path.{refl}
use Rattle.std.proofs.Math.Numerals.{add-two}
use borrow.Author.Tests.{le-leb, lt-leb, leb-true}
use Rattle.std.proofs.Math.Dec.{leb}
use Rattle.std.proofs.Math.ListN.{get_or-append}
use Rattle.std.proofs.lemmas.List.{get_or_at}
use Rattle.base.specs.Truth.{and_left, and_right, not_true_false, true_or_false, lt_or_le, eq_or_ne}
use Rattle.roles.specs.Rule.{Rule, Book}
use Rattle.base.specs.Result.Result.{refused, ok}
use Rattle.base.specs.ResultLaws.{refused-ok, ok_injective}
use Rattle.book_format.specs.Format
use Rattle.book_format.specs.Format.{front, one_rule, rules_from, named}
use Rattle.book_format.specs.Format.Front.{whole, malformed}
use Rattle.book_format.specs.Place.{size_at, next_at, rule_at, whole_at, rule_place, first_rules}

-- two bytes in front
drop-two : (s : List ℕ) (at : ℕ) → at + 2 ≤ length s → drop at s ≡ get_or s at 0 ∷ get_or s (at + 1) 0 ∷ drop (at + 2) s
drop-two s at h =
    let first : drop at s ≡ get_or s at 0 ∷ drop (suc at) s = drop-cons s at 0 (omega arith) in
    let second : drop (suc at) s ≡ get_or s (suc at) 0 ∷ drop (suc (suc at)) s = drop-cons s (suc at) 0 (omega arith) in
    rw (add-two, add-one) (first ∙ ap (λ (l : List ℕ). get_or s at 0 ∷ l) second)

front-short : (s : List ℕ) → length s < 2 → front s ≡ malformed
unfolding front
front-short [] h = refl
front-short (b ∷ []) h = refl
front-short (b ∷ c ∷ s) h = absurd (let f : ⊥ = omega arith in f)

leb_shift : (a k n : ℕ) → a ≤ n → leb k (n - a) ≡ leb (a + k) n
leb_shift a k n h = by_place (lt_or_le (n - a) k)
  where
    by_place : (n - a < k) ⊎ (k ≤ n - a) → leb k (n - a) ≡ leb (a + k) n
    by_place (inl p) = lt-leb k (n - a) p ∙ sym (lt-leb (a + k) n (omega arith))
    by_place (inr p) = le-leb k (n - a) p ∙ sym (le-leb (a + k) n (omega arith))

-- what stands at a place
front_at : (s : List ℕ) (at : ℕ) → front (drop at s) ≡ cond (whole_at s at) (whole (rule_at s at) (drop (next_at s at) s)) malformed
unfolding front whole_at rule_at
front_at s at = by_place (lt_or_le (length s) (at + 2))
  where
    by_place : (length s < at + 2) ⊎ (at + 2 ≤ length s)
        → front (drop at s) ≡ cond (whole_at s at) (whole (rule_at s at) (drop (next_at s at) s)) malformed
    by_place (inl p) = rw (front-short (drop at s) (simp length-drop (omega arith)), lt-leb (at + 2) (length s) p) refl
    by_place (inr p) =
        rw (drop-two s at p, le-leb (at + 2) (length s) p, drop-drop, length-drop, leb_shift (at + 2) (size_at s at) (length s) p) refl

-- a rule at a place is whole where its two first bytes and its left roles are there and its length is 1 to 8, and only there
module _ (s : List ℕ) (at : ℕ) where
  pub whole_true : at + 2 ≤ length s → 1 ≤ size_at s at → size_at s at ≤ 8 → next_at s at ≤ length s → whole_at s at ≡ true
  unfolding whole_at
  whole_true h i j k = rw (le-leb (at + 2) (length s) h, le-leb 1 (size_at s at) i, le-leb (size_at s at) 8 j, le-leb (next_at s at) (length s) k) refl

  pub record Whole : Type 0 where
    pub short : at + 2 ≤ length s
    pub some : 1 ≤ size_at s at
    pub few : size_at s at ≤ 8
    pub fits : next_at s at ≤ length s

  pub whole_facts : whole_at s at ≡ true → Whole
  unfolding whole_at
  whole_facts h =
      let a : Bool = leb (at + 2) (length s) in
      let b : Bool = leb 1 (size_at s at) in
      let c : Bool = leb (size_at s at) 8 in
      let d : Bool = leb (next_at s at) (length s) in
      record {
        short = leb-true _ _ (and_left a b (and_left (a && b) c (and_left (a && b && c) d h)));
        some = leb-true _ _ (and_right a b (and_left (a && b) c (and_left (a && b && c) d h)));
        few = leb-true _ _ (and_right (a && b) c (and_left (a && b && c) d h));
        fits = leb-true _ _ (and_right (a && b && c) d h);
      }

  -- where one of the four fails
  pub whole_false : (Whole → ⊥) → whole_at s at ≡ false
  whole_false h = not_true_false (whole_at s at) (λ t. h (whole_facts t))

-- the reading from a place on, by what stands there
module _ (s : List ℕ) (n : ℕ) (read : List Rule) (at : ℕ) where
  pub rules-cut : (left : ℕ) → whole_at s at ≡ false → rules_from n read (suc left) (drop at s) ≡ refused 5 (length read)
  unfolding rules_from one_rule
  rules-cut left h = rw (front_at s at, h) refl

  pub rules_undeclared : (left : ℕ) → whole_at s at ≡ true → named n ((rule_at s at).right ∷ (rule_at s at).left) ≡ false
      → rules_from n read (suc left) (drop at s) ≡ refused 6 (length read)
  unfolding rules_from one_rule
  rules_undeclared left h k = rw (front_at s at, h, k) refl

  pub rules-next : (left : ℕ) → whole_at s at ≡ true → named n ((rule_at s at).right ∷ (rule_at s at).left) ≡ true
      → rules_from n read (suc left) (drop at s) ≡ rules_from n (read ++ (rule_at s at ∷ [])) left (drop (next_at s at) s)
  unfolding rules_from one_rule
  rules-next left h k = rw (front_at s at, h, k) refl

  pub rules-after : at < length s → rules_from n read 0 (drop at s) ≡ refused 5 (length read)
  unfolding rules_from
  rules-after h = rw (drop-cons s at 0 h) refl

  pub rules-end : length s ≤ at → rules_from n read 0 (drop at s) ≡ ok (record { names = n; rules = read })
  unfolding rules_from
  rules-end h = rw (drop_of_length-le s h) refl

pub length-first_rules : (s : List ℕ) (k : ℕ) → length (first_rules s k) ≡ k
unfolding first_rules
length-first_rules s zero = refl
length-first_rules s (suc k) = rw (length-append, length-first_rules s k) (omega arith)

-- rule k among the first rules
pub get_or-first_rules : (s : List ℕ) (m k : ℕ) (d : Rule) → k < m → get_or (first_rules s m) k d ≡ rule_at s (rule_place s k)
unfolding first_rules
get_or-first_rules s zero k d h = absurd (not-suc-le-zero h)
get_or-first_rules s (suc m) k d h = by_place (λ (p : k < m). get_or-first_rules s m k d p) (lt_or_le k m)
  where
    last : List Rule
    last = rule_at s (rule_place s m) ∷ []

    by_place : (k < m → get_or (first_rules s m) k d ≡ rule_at s (rule_place s k)) → (k < m) ⊎ (m ≤ k)
        → get_or (first_rules s m ++ last) k d ≡ rule_at s (rule_place s k)
    by_place before (inl p) = get_or-append (first_rules s m) last d k (rw length-first_rules p) ∙ before p
    by_place before (inr p) =
        let e : k ≡ m = omega arith in
        rw e (get_or_at (first_rules s m) (rule_at s (rule_place s m)) [] d m (length-first_rules s m))

-- what is known of a book whose reading from rule k on passes with m rules left
pub record Laid (s : List ℕ) (n k m : ℕ) (b : Book) : Type 0 where
  pub names : b.names ≡ n
  pub rules : b.rules ≡ first_rules s (k + m)
  pub whole : (j : ℕ) → k ≤ j → j < k + m → whole_at s (rule_place s j) ≡ true
  pub named : (j : ℕ) → k ≤ j → j < k + m → Format.named n ((rule_at s (rule_place s j)).right ∷ (rule_at s (rule_place s j)).left) ≡ true
  pub ends : length s ≤ rule_place s (k + m)

laid_end : (s : List ℕ) (n k : ℕ) (b : Book) → rules_from n (first_rules s k) 0 (drop (rule_place s k) s) ≡ ok b → Laid s n k 0 b
laid_end s n k b h = by_place (lt_or_le (rule_place s k) (length s))
  where
    by_place : (rule_place s k < length s) ⊎ (length s ≤ rule_place s k) → Laid s n k 0 b
    by_place (inl p) = absurd (refused-ok 5 _ b (sym (rules-after s n (first_rules s k) (rule_place s k) p) ∙ h))
    by_place (inr p) =
        let e : record { names = n; rules = first_rules s k } ≡ b = ok_injective _ b (sym (rules-end s n (first_rules s k) (rule_place s k) p) ∙ h) in
        record {
          names = sym (ap (λ (x : Book). x.names) e);
          rules = rw add-zero (sym (ap (λ (x : Book). x.rules) e));
          whole = λ j u v. absurd (let f : ⊥ = omega arith in f);
          named = λ j u v. absurd (let f : ⊥ = omega arith in f);
          ends = rw add-zero p;
        }

-- one rule more in front
laid-rule : (s : List ℕ) (n k m : ℕ) (b : Book) → whole_at s (rule_place s k) ≡ true
    → Format.named n ((rule_at s (rule_place s k)).right ∷ (rule_at s (rule_place s k)).left) ≡ true → Laid s n (suc k) m b → Laid s n k (suc m) b
laid-rule s n k m b w d l =
    record {
      names = l.names;
      rules = rw shift l.rules;
      whole = λ j u v. at_or_after j u v (eq_or_ne j k) (λ (i : ℕ). whole_at s (rule_place s i) ≡ true) w l.whole;
      named =
          λ j u v.
          at_or_after j u v (eq_or_ne j k)
          (λ (i : ℕ). Format.named n ((rule_at s (rule_place s i)).right ∷ (rule_at s (rule_place s i)).left) ≡ true) d l.named;
      ends = rw shift l.ends;
    }
  where
    shift : k + suc m ≡ suc k + m
    shift = omega arith

    at_or_after : (j : ℕ) → k ≤ j → j < k + suc m → (j ≡ k) ⊎ (j ≡ k → ⊥) → (P : ℕ → Type 0) → P k
        → ((i : ℕ) → suc k ≤ i → i < suc k + m → P i) → P j
    at_or_after j u v (inl e) P first later = rw e first
    at_or_after j u v (inr e) P first later = later j (omega arith) (omega arith)

pub laid : (s : List ℕ) (n m k : ℕ) (b : Book) → rules_from n (first_rules s k) m (drop (rule_place s k) s) ≡ ok b → Laid s n k m b
unfolding first_rules rule_place
laid s n zero k b h = laid_end s n k b h
laid s n (suc m) k b h = by_whole (λ e. laid s n m (suc k) b e) (true_or_false (whole_at s (rule_place s k)))
  where
    Next : Type 0
    Next = rules_from n (first_rules s (suc k)) m (drop (rule_place s (suc k)) s) ≡ ok b

    declared : Bool
    declared = Format.named n ((rule_at s (rule_place s k)).right ∷ (rule_at s (rule_place s k)).left)

    by-named : (Next → Laid s n (suc k) m b) → whole_at s (rule_place s k) ≡ true → (declared ≡ true) ⊎ (declared ≡ false) → Laid s n k (suc m) b
    by-named next w (inl d) = laid-rule s n k m b w d (next (sym (rules-next s n (first_rules s k) (rule_place s k) m w d) ∙ h))
    by-named next w (inr d) = absurd (refused-ok 6 _ b (sym (rules_undeclared s n (first_rules s k) (rule_place s k) m w d) ∙ h))

    by_whole : (Next → Laid s n (suc k) m b) → (whole_at s (rule_place s k) ≡ true) ⊎ (whole_at s (rule_place s k) ≡ false) → Laid s n k (suc m) b
    by_whole next (inl w) = by-named next w (true_or_false declared)
    by_whole next (inr w) = absurd (refused-ok 5 _ b (sym (rules-cut s n (first_rules s k) (rule_place s k) m w) ∙ h))

-- the place of the next rule, counted as a loop counts
pub place-next : (s : List ℕ) (k at next : ℕ) → at ≡ rule_place s k → next ≡ next_at s at → next ≡ rule_place s (k + 1)
unfolding rule_place
place-next s k at next p q = rw (add-one, q, p) refl
