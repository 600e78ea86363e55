-- What causes 1 to 7 settle: cause 7 keeps the book as it was decoded, each of its rules has a left side, and all names are below 64.
use Rattle.std.specs.Prelude.{true, not, ◌⊎◌, ◌≡◌, refl, ℕ, zero, suc, ◌+◌, ◌-◌, ◌*◌, ◌<◌, ◌≤◌, ltb, length, get_or}
use mathlib.Core.List.Memᴰ
use mathlib.Core.List.{List, [], ◌∷◌, ◌++◌, append-nil, append_assoc, Memᴰ}
use Rattle.std.proofs.Common.{inl, inr, sym, ap, ◌∙◌, subst, arith, ltb-true, length-take, length-drop}
use Rattle.base.specs.Truth.{and_left, and_right}
use Rattle.roles.specs.Role.{Chain, name}
use Rattle.base.specs.Part.{part, get_or_part, length_part}
use Rattle.roles.specs.Named.{Named}
use Rattle.roles.specs.Rule.{Rule, Book}
use Rattle.words.specs.Word.{word}
use Rattle.base.specs.Result.{Result, and_then}
use Rattle.base.specs.Result.Result.{refused, ok}
use Rattle.base.specs.ResultLaws.{refused-ok, ok_injective, demand-rest}
use Rattle.book_format.specs.Format.{named, decode, repeats, distinct, read}
use Rattle.book_format.specs.Place.{size_at, rule_at, whole_at, rule_place, first_rules}
use Rattle.book_format.specs.FormatLaws.{Whole, whole_facts, get_or-first_rules}
use Rattle.book_format.specs.DecodeLaws.{Decoded, decoded}
use Rattle.book_format.specs.DeclaredLaws.{named-all, named-link}

-- cause 7 keeps the book
distinct_book : (n : ℕ) (earlier later : List Rule) (b : Book) → distinct n earlier later ≡ ok b
    → record { names = n; rules = earlier ++ later } ≡ b
unfolding distinct
distinct_book n earlier [] b h = rw append-nil (ok_injective _ b h)
distinct_book n earlier (ρ ∷ later) b h =
    rw (← append_assoc earlier (ρ ∷ []) later)
    (distinct_book n (earlier ++ (ρ ∷ [])) later b
    (demand-rest (not (repeats ρ earlier)) 7 (length earlier) (distinct n (earlier ++ (ρ ∷ [])) later) b h))

pub read-decode : (s : List ℕ) (b : Book) → read s ≡ ok b → decode s ≡ ok b
unfolding read
read-decode s b h = by_result (decode s) h
  where
    by_result : (r : Result Book) → and_then r (λ b. distinct b.names [] b.rules) ≡ ok b → r ≡ ok b
    by_result (refused c v) e = absurd (refused-ok c v b e)
    by_result (ok d) e = ap ok (distinct_book d.names [] d.rules b e)

-- the first rules, one by one
rule-member : (s : List ℕ) (k : ℕ) (ρ : Rule) → Memᴰ ρ (first_rules s k) → (j : ℕ) × (j < k) × (ρ ≡ rule_at s (rule_place s j))
unfolding first_rules
rule-member s zero ρ m = absurd (Memᴰ.not-nil m)
rule-member s (suc k) ρ m = by_place (rule-member s k ρ) (Memᴰ.append_cases (first_rules s k) m)
  where
    by_place : (Memᴰ ρ (first_rules s k) → (j : ℕ) × (j < k) × (ρ ≡ rule_at s (rule_place s j)))
        → Memᴰ ρ (first_rules s k) ⊎ Memᴰ ρ (rule_at s (rule_place s k) ∷ [])
        → (j : ℕ) × (j < suc k) × (ρ ≡ rule_at s (rule_place s j))
    by_place before (inl i) = let r = before i in (r.0, omega (arith, r.1), r.2)
    by_place before (inr i) = (k, omega arith, Memᴰ.eq_of_singleton i)

-- a whole rule has a left side
whole-left : (s : List ℕ) (at : ℕ) → whole_at s at ≡ true → (rule_at s at).left ≡ [] → ⊥
unfolding rule_at
whole-left s at h e =
    let w : Whole s at = whole_facts s at h in
    let z : length (part s (at + 2) (size_at s at)) ≡ 0 = ap length e in
    omega (arith, length_part s (at + 2) (size_at s at) w.fits, w.some)

-- declared names, with more names declared, and of one role
named_more : (n m : ℕ) (w : Chain) → n ≤ m → named n w ≡ true → named m w ≡ true
named_more n m w h e = named-all m w (λ k p. let q : get_or w k 0 < 2 * n = named-link n w e k p in omega arith)

role-below : (n : ℕ) (w : Chain) → named n w ≡ true → (r : ℕ) → Memᴰ r w → r < 2 * n
unfolding named
role-below n [] h r m = absurd (Memᴰ.not-nil m)
role-below n (t ∷ w) h r m = by_place (role-below n w (and_right (ltb t (2 * n)) (named n w) h) r) (Memᴰ.cases_cons m)
  where
    by_place : (Memᴰ r w → r < 2 * n) → (r ≡ t) ⊎ Memᴰ r w → r < 2 * n
    by_place rest (inl e) = omega (arith, ltb-true t (2 * n) (and_left (ltb t (2 * n)) (named n w) h))
    by_place rest (inr k) = rest k

pub named-member : (n : ℕ) (w : Chain) → named n w ≡ true → (r : ℕ) → Memᴰ r w → name r < n
unfolding name
named-member n w h r m = omega (arith, role-below n w h r m)

-- of a right role and a left side: the right name, and the roles of a part of the left side
module _ (n r : ℕ) (w : Chain) (h : named n (r ∷ w) ≡ true) where
  pub named-name : name r < n
  named-name = named-member n (r ∷ w) h r (Memᴰ.head refl)

  pub named-part : (a size k : ℕ) → k < length (part w a size) → get_or (part w a size) k 0 < 2 * n
  named-part a size k p =
      let q : length (part w a size) ≤ size = rw length-take (omega arith) in
      let f : length (part w a size) ≤ length w - a = rw (length-take, length-drop) (omega arith) in
      rw (get_or_part w a size k (omega arith)) (named-link n (r ∷ w) h (suc (a + k)) (omega arith))

-- a well-formed book
module _ (s : List ℕ) (b : Book) (h : read s ≡ ok b) where
  d : Decoded s b
  d = decoded s b (read-decode s b h)

  -- its rule k is the one at its place
  module _ (k : ℕ) (p : k < length b.rules) where
    within : k < word s 6
    within = rw (← d.count) p

    pub read_whole : whole_at s (rule_place s k) ≡ true
    read_whole = d.whole k within

    module _ (ρ : Rule) (e : ρ ≡ rule_at s (rule_place s k)) where
      pub read-rule : get_or b.rules k ρ ≡ ρ
      read-rule = rw d.rules (get_or-first_rules s (word s 6) k ρ within ∙ sym e)

      pub read_named : named 64 (ρ.right ∷ ρ.left) ≡ true
      read_named = rw e (named_more b.names 64 _ d.names_most (d.named k within))

      pub read_some : ρ.left ≡ [] → ⊥
      read_some = rw e (whole-left s (rule_place s k) read_whole)

  -- each of its rules
  place : (ρ : Rule) → Memᴰ ρ b.rules → (k : ℕ) × (k < length b.rules) × (ρ ≡ rule_at s (rule_place s k))
  place ρ m = rw d.count (rule-member s (word s 6) ρ (subst (Memᴰ ρ) d.rules m))

  pub rules-named : (ρ : Rule) → Memᴰ ρ b.rules → named 64 (ρ.right ∷ ρ.left) ≡ true
  rules-named ρ m = let r = place ρ m in read_named r.0 r.1 ρ r.2

  pub rules-some : (ρ : Rule) → Memᴰ ρ b.rules → ρ.left ≡ [] → ⊥
  rules-some ρ m = let r = place ρ m in read_some r.0 r.1 ρ r.2

  -- it has 1 to 64 names, its roles are over them, and it has at most 256 rules
  own-named : (ρ : Rule) → Memᴰ ρ b.rules → named b.names (ρ.right ∷ ρ.left) ≡ true
  own-named ρ m = let r = place ρ m in rw r.2 (d.named r.0 (within r.0 r.1))

  pub read_names : Named b.names b.rules
  read_names ρ m = (
    role-below b.names (ρ.right ∷ ρ.left) (own-named ρ m) ρ.right (Memᴰ.head refl),
    λ t i. role-below b.names (ρ.right ∷ ρ.left) (own-named ρ m) t (Memᴰ.tail i),
  )

  pub read-some_name : 1 ≤ b.names
  read-some_name = d.some_name

  pub read-few_names : b.names ≤ 64
  read-few_names = d.names_most
