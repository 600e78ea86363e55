-- What causes 1 to 6 settle for keys: a book has at most 64 names and 256 rules, and each rule is short and over these names.
use Rattle.std.specs.Prelude.{true, List, ◌∷◌, ◌≡◌, refl, ℕ, suc, ◌+◌, ◌*◌, ◌<◌, ◌≤◌, length, get_or}
use Rattle.std.proofs.Common.{sym, ap, ◌∙◌, arith}
use Rattle.roles.specs.Role.{name}
use Rattle.base.specs.Part.{length_part}
use Rattle.roles.specs.Rule.{Book}
use Rattle.words.specs.Word.{word}
use Rattle.base.specs.Result.{Result, map_result}
use Rattle.base.specs.Result.Result.{refused, ok}
use Rattle.book_format.specs.Format.{named, decode}
use Rattle.book_format.specs.Place.{size_at, rule_at, whole_at, rule_place}
use Rattle.book_format.specs.FormatLaws.{Whole, whole_facts}
use Rattle.book_format.specs.DecodeLaws.{Decoded, decoded}
use Rattle.book_format.specs.DeclaredLaws.{named-link}
use Rattle.book_format.specs.ReadLaws.{named-name}
use Rattle.rule_keys.specs.Key.{Short}
use Rattle.book_header.specs.declared.Header.{Header}
use Rattle.book_decoder.specs.Verdict.{header_of}

-- a whole rule over at most 64 names is short
short-at : (s : List ℕ) (n at : ℕ) → n ≤ 64 → whole_at s at ≡ true → named n ((rule_at s at).right ∷ (rule_at s at).left) ≡ true
    → Short (rule_at s at)
unfolding rule_at
short-at s n at few whole names =
    record {
      right = omega (arith, link 0 (omega arith));
      left = λ k p. omega (arith, link (suc k) (omega arith));
      few = omega (arith, w.few, length_part s (at + 2) (size_at s at) w.fits);
    }
  where
    w : Whole s at
    w = whole_facts s at whole

    link : (k : ℕ) → k < length ((rule_at s at).right ∷ (rule_at s at).left) → get_or ((rule_at s at).right ∷ (rule_at s at).left) k 0 < 2 * n
    link = named-link n ((rule_at s at).right ∷ (rule_at s at).left) names

-- a book that passes causes 1 to 6, by its header
pub record Bounded (s : List ℕ) (h : Header) : Type 0 where
  pub few : h.rules ≤ 256
  pub few_names : h.names ≤ 64
  pub named : (k : ℕ) → k < h.rules → name (rule_at s (rule_place s k)).right < h.names
  pub short : (k : ℕ) → k < h.rules → Short (rule_at s (rule_place s k))

pub bounded : {s : List ℕ} {h : Header} → map_result header_of (decode s) ≡ ok h → Bounded s h
bounded {s} {h} e = by_result (decode s) refl e
  where
    by_result : (r : Result Book) → decode s ≡ r → map_result header_of r ≡ ok h → Bounded s h
    by_result (refused c v) q e = absurd (let z : ◌≡◌ {A = ℕ} 0 1 = cc in let f : ⊥ = omega arith in f)
    by_result (ok b) q e =
        let d : Decoded s b = decoded s b q in
        let p : header_of b ≡ h = cc in
        let c : h.rules ≡ word s 6 = ap (λ (x : Header). x.rules) (sym p) ∙ d.count in
        record {
          few = rw c d.count_most;
          few_names = rw (← p) d.names_most;
          named = λ k l. let i : k < word s 6 = rw (← c) l in rw (← p) (named-name b.names _ _ (d.named k i));
          short = λ k l. let i : k < word s 6 = rw (← c) l in short-at s b.names (rule_place s k) d.names_most (d.whole k i) (d.named k i);
        }
