-- Both inverse laws: the bytes of an encodable book decode to it, and bytes that decode to a book are its encoding.
use Rattle.std.specs.Prelude.{true, List, [], ◌∷◌, ◌++◌, ◌≡◌, drop}
use mathlib.Core.List.Memᴰ
use Rattle.std.proofs.Common.{append-nil, append_assoc, sym, ◌∙◌, add-one, length-append, take_at, take-add}
use Rattle.std.proofs.Math.Path.{refl}
use Prim.Native.Nat.{ℕ, zero, suc, ◌+◌, ◌*◌, ◌/◌, ◌%◌, ◌<◌, ◌≤◌}
use Rattle.std.proofs.Math.Numerals.{add-two}
use native.Mathlib.Omega.{arith}
use borrow.Author.Tests.{le-leb, eqb-true}
use Rattle.std.proofs.Math.ListN.{length, get_or, take}
use Rattle.std.proofs.Math.Seq.{take-append_seam, drop-append_seam, take-suc, take_all}
use Rattle.base.specs.Every.{Every, every_nil, every_cons, every_tail, every_append}
use Rattle.base.specs.Part.{length_part}
use Rattle.base.specs.Result.Result.{ok}
use Rattle.base.specs.ResultLaws.{demand_test, demand-rest}
use Rattle.roles.specs.Role.{same_chain}
use Rattle.roles.specs.RoleLaws.{same_chain-sound}
use Rattle.roles.specs.Rule.{Rule, Book}
use Rattle.words.specs.Word.{word}
use Rattle.book_format.specs.Format.{front, one_rule, rules_from, named, decode, mark, size_fits, mark_fits, version_fits, counts_fit}
use Rattle.book_format.specs.Format.Front.{whole}
use Rattle.book_format.specs.Place.{size_at, next_at, rule_at, whole_at, rule_place, first_rules}
use Rattle.book_format.specs.FormatLaws.{Whole, whole_facts}
use Rattle.book_format.specs.DecodeLaws.{decode-all, Decoded, decoded}
use Rattle.book_format.specs.Encode.{header, rule_bytes, rules_bytes, encode, EncodableRule, Encodable}

-- lengths, and rules put together
pub length-header : (n k : ℕ) → length (header n k) ≡ 8
unfolding header
length-header n k = refl

pub length-rule_bytes : (ρ : Rule) → length (rule_bytes ρ) ≡ 2 + length ρ.left
unfolding rule_bytes
length-rule_bytes ρ = omega arith

pub rules_bytes_append : (ρs σs : List Rule) → rules_bytes (ρs ++ σs) ≡ rules_bytes ρs ++ rules_bytes σs
unfolding rules_bytes
rules_bytes_append [] σs = refl
rules_bytes_append (ρ ∷ ρs) σs = rw (rules_bytes_append ρs σs, append_assoc) refl

pub rules_bytes-last : (ρs : List Rule) (ρ : Rule) → rules_bytes (ρs ++ (ρ ∷ [])) ≡ rules_bytes ρs ++ rule_bytes ρ
unfolding rules_bytes
rules_bytes-last ρs ρ = rules_bytes_append ρs (ρ ∷ []) ∙ rw append-nil refl

-- at most ten bytes a rule
pub rules_bytes-most : {n : ℕ} (ρs : List Rule) → Every (EncodableRule n) ρs → length (rules_bytes ρs) ≤ 10 * length ρs
unfolding rules_bytes
rules_bytes-most [] f = omega arith
rules_bytes-most {n} (ρ ∷ ρs) f =
    rw length-append
    (omega (arith, length-rule_bytes ρ, (f ρ (Memᴰ.head refl)).few, rules_bytes-most ρs (every_tail (EncodableRule n) f)))

pub length-encode : (b : Book) → length (encode b) ≡ 8 + length (rules_bytes b.rules)
unfolding encode
length-encode b = length-append (header b.names (length b.rules)) (rules_bytes b.rules) ∙ rw length-header refl

-- the rules, read one after another
front-rule : (n : ℕ) (ρ : Rule) (s : List ℕ) → EncodableRule n ρ → front (rule_bytes ρ ++ s) ≡ whole ρ s
unfolding front rule_bytes
front-rule n ρ s f =
    rw (
      le-leb 1 (length ρ.left) f.some,
      le-leb (length ρ.left) 8 f.few,
      le-leb (length ρ.left) (length (ρ.left ++ s)) (rw length-append (omega arith)),
      take-append_seam ρ.left s,
      drop-append_seam ρ.left s,
    )
    refl

rules_from-bytes : (n : ℕ) (read ρs : List Rule) → Every (EncodableRule n) ρs
    → rules_from n read (length ρs) (rules_bytes ρs) ≡ ok (record { names = n; rules = read ++ ρs })
unfolding rules_from one_rule rules_bytes
rules_from-bytes n read [] f = rw append-nil refl
rules_from-bytes n read (ρ ∷ ρs) f =
    rw (front-rule n ρ (rules_bytes ρs) (f ρ (Memᴰ.head refl)), (f ρ (Memᴰ.head refl)).declared)
    (rules_from-bytes n (read ++ (ρ ∷ [])) ρs (every_tail (EncodableRule n) f) ∙ rw append_assoc refl)

-- what the eight bytes in front say
module _ (b : Book) where
  marked : mark_fits (encode b) ≡ true
  unfolding encode header same_chain
  marked = refl

  versioned : version_fits (encode b) ≡ true
  unfolding encode header
  versioned = refl

  names : get_or (encode b) 5 0 ≡ b.names
  unfolding encode header
  names = refl

  count : word (encode b) 6 ≡ length b.rules
  unfolding encode header
  count = let k : ℕ = length b.rules in let e : k % 256 + 256 * (k / 256) ≡ k = omega arith in e

  rest : drop 8 (encode b) ≡ rules_bytes b.rules
  unfolding encode header
  rest = refl

-- what is encoded decodes to itself
module _ {b : Book} (f : Encodable b) where
  pub encode-most : length (encode b) ≤ 2568
  encode-most = omega (arith, length-encode b, rules_bytes-most b.rules f.rules, f.rules_most)

  sized : size_fits (encode b) ≡ true
  sized = rw (le-leb 8 (length (encode b)) (omega (arith, length-encode b)), le-leb (length (encode b)) 2568 encode-most) refl

  counted : counts_fit b.names (length b.rules) ≡ true
  counted = rw (le-leb 1 b.names f.some_name, le-leb b.names 64 f.names_most, le-leb (length b.rules) 256 f.rules_most) refl

  pub decode-encode : decode (encode b) ≡ ok b
  decode-encode =
      decode-all (encode b) sized (marked b) (versioned b) (rw (names b, count b) counted)
      ∙ rw (names b, count b, rest b) (rules_from-bytes b.names [] b.rules f.rules)

  -- also where more bytes follow and only the book's are read
  pub decode-front : {s : List ℕ} (rest : List ℕ) {size : ℕ} → s ≡ encode b ++ rest → size ≡ length (encode b) → decode (take size s) ≡ ok b
  decode-front {s} rest {size} e k = rw (e, take_at (encode b) rest size (sym k)) decode-encode

-- a whole rule at a place: its bytes are there, and it is within the bounds
rule-spelled : (s : List ℕ) (at : ℕ) → whole_at s at ≡ true → take (next_at s at) s ≡ take at s ++ rule_bytes (rule_at s at)
unfolding rule_bytes rule_at
rule-spelled s at h =
    let w : Whole s at = whole_facts s at h in
    rw (
      take-add (at + 2) (size_at s at) s,
      length_part s (at + 2) (size_at s at) w.fits,
      add-two,
      take-suc s (suc at) 0 (omega (arith, w.short)),
      take-suc s at 0 (omega (arith, w.short)),
      append_assoc,
      append_assoc,
      add-one,
    )
    refl

rule_encodable : (s : List ℕ) (n at : ℕ) → whole_at s at ≡ true → named n ((rule_at s at).right ∷ (rule_at s at).left) ≡ true → EncodableRule n (rule_at s at)
unfolding rule_at
rule_encodable s n at h d =
    let w : Whole s at = whole_facts s at h in
    let e : length (rule_at s at).left ≡ size_at s at = length_part s (at + 2) (size_at s at) w.fits in
    record { some = rw e w.some; few = rw e w.few; declared = d }

-- and so the first k rules
rules-spelled : (s : List ℕ) (k : ℕ) → ((j : ℕ) → j < k → whole_at s (rule_place s j) ≡ true)
    → take (rule_place s k) s ≡ take 8 s ++ rules_bytes (first_rules s k)
unfolding rules_bytes first_rules rule_place
rules-spelled s zero h = sym (append-nil (take 8 s))
rules-spelled s (suc k) h =
    rw (rule-spelled s (rule_place s k) (h k (omega arith)), rules-spelled s k (λ j p. h j (omega arith)), rules_bytes-last, append_assoc) refl

rules_encodable : (s : List ℕ) (n k : ℕ) → ((j : ℕ) → j < k → whole_at s (rule_place s j) ≡ true)
    → ((j : ℕ) → j < k → named n ((rule_at s (rule_place s j)).right ∷ (rule_at s (rule_place s j)).left) ≡ true)
    → Every (EncodableRule n) (first_rules s k)
unfolding first_rules
rules_encodable s n zero h d = every_nil (EncodableRule n)
rules_encodable s n (suc k) h d =
    every_append (EncodableRule n) (first_rules s k) (rules_encodable s n k (λ j p. h j (omega arith)) (λ j p. d j (omega arith)))
    (every_cons (EncodableRule n) (rule_encodable s n (rule_place s k) (h k (omega arith)) (d k (omega arith))) (every_nil (EncodableRule n)))

-- bytes that decode to a book
module _ (s : List ℕ) {b : Book} (h : decode s ≡ ok b) where
  d : Decoded s b
  d = decoded s b h

  -- the book is within the bounds
  pub decode_encodable : Encodable b
  decode_encodable =
      record {
        some_name = d.some_name;
        names_most = d.names_most;
        rules_most = rw d.count d.count_most;
        rules = rw d.rules (rules_encodable s b.names (word s 6) d.whole d.named);
      }

  mark-kept : mark_fits s ≡ true
  unfolding decode
  mark-kept = demand_test _ 2 0 _ b (demand-rest (size_fits s) 1 0 _ b h)

  version_kept : version_fits s ≡ true
  unfolding decode
  version_kept = demand_test _ 3 0 _ b (demand-rest (mark_fits s) 2 0 _ b (demand-rest (size_fits s) 1 0 _ b h))

  -- numbers of 256 and more could spell the same rule count in another way
  module _ (byte : get_or s 6 0 < 256) where
    header-kept : header b.names (length b.rules) ≡ take 8 s
    unfolding header
    header-kept =
        let last : (k : ℕ) → k < 8 → take (suc k) s ≡ take k s ++ (get_or s k 0 ∷ []) = λ k p. take-suc s k 0 (omega (arith, d.least)) in
        let m : take 3 s ≡ mark = same_chain-sound (take 3 s) mark mark-kept in
        let v : word s 3 ≡ 1 = eqb-true (word s 3) 1 version_kept in
        let m3 : get_or s 3 0 ≡ 1 = omega arith in
        let m4 : get_or s 4 0 ≡ 0 = omega arith in
        let m6 : length b.rules % 256 ≡ get_or s 6 0 = omega (arith, d.count) in
        let m7 : length b.rules / 256 ≡ get_or s 7 0 = omega (arith, d.count) in
        rw (last 7 (omega arith), last 6 (omega arith), last 5 (omega arith), last 4 (omega arith), last 3 (omega arith), m, m3, m4, m6, m7, d.names) refl

    -- the bytes are its encoding
    pub encode-decode : encode b ≡ s
    unfolding encode
    encode-decode =
        rw (header-kept, d.rules)
        (sym (rules-spelled s (word s 6) d.whole) ∙ take_all (rule_place s (word s 6)) s d.ends)
