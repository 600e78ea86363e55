-- What a verdict says of the rules of the book.
use Rattle.std.specs.Prelude.{true, false, List, [], ◌≡◌, refl, ℕ, ◌<◌, ltb}
use Rattle.std.proofs.Common.{sym, ap, ◌∙◌, arith}
use Rattle.roles.specs.Rule.{Book}
use Rattle.words.specs.Word.{word}
use Rattle.base.specs.Result.{Result, and_then, map_result}
use Rattle.base.specs.Result.Result.{refused, ok}
use Rattle.book_format.specs.Format.{decode, distinct, read}
use Rattle.book_format.specs.Place.{has_rule, whole_at, rule_place, first_rules}
use Rattle.book_format.specs.DecodeLaws.{Decoded, decoded}
use Rattle.book_header.specs.declared.Header.{Header}
use Rattle.book_decoder.specs.Verdict.{header_of}

-- whether a book has a rule k, by what the verdict says
pub has_rule-header : (r : Result Book) (k : ℕ) {h : Header} → ok h ≡ map_result header_of r → has_rule r k ≡ ltb k h.rules
unfolding has_rule
has_rule-header (refused c v) k e = absurd (let z : ◌≡◌ {A = ℕ} 0 1 = cc in let f : ⊥ = omega arith in f)
has_rule-header (ok b) k {h} e = let p : h ≡ header_of b = cc in rw p refl

pub has_rule-refused : (r : Result Book) (k : ℕ) {c v : ℕ} → refused c v ≡ map_result header_of r → has_rule r k ≡ false
unfolding has_rule
has_rule-refused (refused c' v') k e = refl
has_rule-refused (ok b) k e = absurd (let z : ◌≡◌ {A = ℕ} 0 1 = cc in let f : ⊥ = omega arith in f)

-- a book that passes causes 1 to 6, by its header
pub record Headed (s : List ℕ) (h : Header) : Type 0 where
  pub whole : (k : ℕ) → k < h.rules → whole_at s (rule_place s k) ≡ true
  pub reads : read s ≡ distinct h.names [] (first_rules s h.rules)

pub headed : {s : List ℕ} {h : Header} → map_result header_of (decode s) ≡ ok h → Headed s h
unfolding read
headed {s} {h} e = by_result (decode s) refl e
  where
    by_result : (r : Result Book) → decode s ≡ r → map_result header_of r ≡ ok h → Headed s h
    by_result (refused c v) q e = absurd (let z : ◌≡◌ {A = ℕ} 0 1 = cc in let f : ⊥ = omega arith in f)
    by_result (ok b) q e =
        let d : Decoded s b = decoded s b q in
        let p : header_of b ≡ h = cc in
        let c : h.rules ≡ word s 6 = ap (λ (x : Header). x.rules) (sym p) ∙ d.count in
        record {
          whole = λ k l. d.whole k (rw (← c) l);
          reads = rw (q, ← p, d.count) (ap (distinct b.names []) d.rules);
        }

-- what causes 1 to 6 refuse is refused so
pub read-refused : (s : List ℕ) {c v : ℕ} → refused c v ≡ map_result header_of (decode s) → refused c v ≡ map_result header_of (read s)
unfolding read
read-refused s {c} {v} e = by_result (decode s) e
  where
    by_result : (r : Result Book) → refused c v ≡ map_result header_of r
        → refused c v ≡ map_result header_of (and_then r (λ b. distinct b.names [] b.rules))
    by_result (refused c' v') e = e
    by_result (ok b) e = absurd (let z : ◌≡◌ {A = ℕ} 0 1 = cc in let f : ⊥ = omega arith in f)
