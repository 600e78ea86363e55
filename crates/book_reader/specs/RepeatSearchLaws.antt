-- Cause 7 by keys: a rule repeats an earlier one exactly where its key is one of the earlier keys; the search for the lowest repeat, rule by rule as a
-- loop runs it, or by the lowest over all names.
use Rattle.std.specs.Prelude.{Bool, true, false, ◌||◌, cond, ltb, List, [], ◌⊎◌, ◌≡◌, length, get_or, set, Ok, Err}
use Rattle.std.proofs.Common.{inl, inr, sym, ap, ◌∙◌, add-one, arith, lt-ltb, le-ltb, get_or-set_same, get_or-set_other}
use Rattle.std.proofs.Math.Path.{refl}
use Prim.Native.Nat.{ℕ, zero, suc, ◌+◌, ◌%◌, ◌<◌, ◌≤◌}
use Rattle.base.specs.Truth.{lt_or_le}
use Rattle.roles.specs.Rule.{Rule}
use Rattle.base.specs.Result.{map_result}
use Rattle.base.specs.Result.Result.{refused, ok}
use Rattle.book_format.specs.Format.{repeats, distinct, read}
use Rattle.book_format.specs.Place.{rule_at, rule_place, first_rules}
use Rattle.book_format.specs.FormatLaws.{length-first_rules}
use Rattle.book_format.specs.RepeatLaws.{repeats-next, Searching, searching_start, searching_next, searching_found, searching_end}
use Rattle.rule_keys.specs.Key.{key, Short}
use Rattle.rule_keys.specs.KeyLaws.{same_key, key-name}
use Rattle.book_header.specs.declared.Header.{Header}
use Rattle.book_decoder.specs.Verdict.{header_of}
use Rattle.book_decoder.specs.VerdictLaws.{Headed}
use Rattle.refusals.specs.declared.book.BookRefusal.TheVariants.{Repeated}
use Rattle.book_reader.specs.Judged.{judged}
use Rattle.book_reader.specs.Entered.{Entered, among}
use Rattle.book_reader.specs.Lowest.{repeated, Lowest}
use Rattle.book_reader.specs.ShortLaws.{Bounded}

-- the first keys are those of the first rules
abbrev pub Keyed : List ℕ → List ℕ → ℕ → Type 0
Keyed s keys n = (k : ℕ) → k < n → get_or keys k 0 ≡ key (rule_at s (rule_place s k))

module _ (s keys : List ℕ) where
  keyed-more : (n x : ℕ) → n < length keys → x ≡ key (rule_at s (rule_place s n)) → Keyed s keys n → Keyed s (set keys n x) (n + 1)
  keyed-more n x space e h k l = by_place (lt_or_le k n)
    where
      by_place : (k < n) ⊎ (n ≤ k) → get_or (set keys n x) k 0 ≡ key (rule_at s (rule_place s k))
      by_place (inl p) = get_or-set_other keys n k x 0 (omega arith) ∙ h k p
      by_place (inr p) = let d : k ≡ n = omega arith in rw d (get_or-set_same keys n x 0 space ∙ e)

  among-repeats : (ρ : Rule) (n : ℕ) → Short ρ → ((k : ℕ) → k < n → Short (rule_at s (rule_place s k))) → Keyed s keys n
      → among keys n (key ρ) ≡ repeats ρ (first_rules s n)
  unfolding among repeats first_rules
  among-repeats ρ zero short shorts h = refl
  among-repeats ρ (suc n) short shorts h =
      rw (repeats-next s ρ n, ← among-repeats ρ n short (λ k l. shorts k (omega arith)) (λ k l. h k (omega arith)), h n (omega arith))
      (ap (λ (t : Bool). among keys n (key ρ) || t) (same_key ρ (rule_at s (rule_place s n)) short (shorts n (omega arith))))

-- what the lowest repeat makes of the book
module _ {s : List ℕ} {h : Header} (reading : Headed s h) where
  judged-found : {k : ℕ} → k < h.rules → distinct h.names [] (first_rules s h.rules) ≡ refused 7 k → judged h (Err (Repeated k)) ≡ map_result header_of (read s)
  judged-found {k} l e = sym (ap (map_result header_of) (reading.reads ∙ e))

  pub judged-none : {k : ℕ} → k ≡ h.rules → Searching s h.names h.rules k → judged h (Ok tt) ≡ map_result header_of (read s)
  judged-none {k} e searching = sym (ap (map_result header_of) (reading.reads ∙ searching_end e searching) ∙ rw length-first_rules refl)

-- the rules before rule k have been met, and their keys are in lists
pub record Met (lists : ℕ) (s keys index : List ℕ) (k : ℕ) : Type 0 where
  pub entered : Entered lists keys index k
  pub keyed : Keyed s keys k

module _ {s : List ℕ} {h : Header} (reading : Headed s h) (bounds : Bounded s h) where
  repeated-rule : (keys : List ℕ) {k : ℕ} → k < h.rules → Keyed s keys k → {x : ℕ} → x ≡ key (rule_at s (rule_place s k))
      → among keys k x ≡ repeats (rule_at s (rule_place s k)) (first_rules s k)
  repeated-rule keys {k} inside keyed e =
      rw e (among-repeats s keys (rule_at s (rule_place s k)) k (bounds.short k inside) (λ j l. bounds.short j (omega arith)) keyed)

  module _ {lists : ℕ} {keys index : List ℕ} {k : ℕ} (so_far : Met lists s keys index k) (inside : k < h.rules) {x : ℕ}
      (own : x ≡ key (rule_at s (rule_place s k))) where
    pub met_next : {keys' index' : List ℕ} → keys' ≡ set keys k x → Entered lists keys' index' (k + 1) → Met lists s keys' index' (k + 1)
    met_next stored entered =
        record {
          entered = entered;
          keyed = rw stored (keyed-more s keys k x (omega (arith, bounds.few, so_far.entered.places)) own so_far.keyed);
        }

    -- rule by rule: the search has come to rule k, for any number of names
    module _ (searching : (n : ℕ) → Searching s n h.rules k) where
      pub rule-repeats : among keys k x ≡ true → judged h (Err (Repeated k)) ≡ map_result header_of (read s)
      rule-repeats t =
          judged-found reading inside
          (searching_found refl inside (searching h.names) (sym (repeated-rule keys inside so_far.keyed own) ∙ t))

      pub rule_passes : among keys k x ≡ false → (n : ℕ) → Searching s n h.rules (k + 1)
      rule_passes t n = searching_next refl inside (searching n) (sym (repeated-rule keys inside so_far.keyed own) ∙ t)

  -- relation by relation: the lowest repeat over all names
  module _ {keys : List ℕ} (keyed : Keyed s keys h.rules) {lowest : ℕ} (search : Lowest keys h.names h.rules lowest) where
    of_rule : (k : ℕ) → k < h.rules → repeated keys k ≡ repeats (rule_at s (rule_place s k)) (first_rules s k)
    of_rule k l = repeated-rule keys l (λ j i. keyed j (omega arith)) (keyed k l)

    named-key : (k : ℕ) → k < h.rules → get_or keys k 0 % 64 < h.names
    named-key k l = rw (keyed k l, key-name (rule_at s (rule_place s k)) (bounds.short k l)) (bounds.named k l)

    searched : (k : ℕ) → k ≤ lowest → Searching s h.names h.rules k
    searched zero l = searching_start
    searched (suc k) l =
        let p : k < h.rules = omega (arith, search.low) in
        rw (← add-one k)
        (searching_next refl p (searched k (omega arith)) (sym (of_rule k p) ∙ search.none k l (named-key k p)))

    pub lowest-judged : lowest < h.rules → judged h (Err (Repeated lowest)) ≡ map_result header_of (read s)
    lowest-judged l = judged-found reading l (searching_found refl l (searched lowest (omega arith)) (sym (of_rule lowest l) ∙ search.found l))

    pub none-judged : h.rules ≤ lowest → judged h (Ok tt) ≡ map_result header_of (read s)
    none-judged l = judged-none reading (let e : lowest ≡ h.rules = omega (arith, search.low) in e) (searched lowest (omega arith))

    -- both in one: by the lowest repeat, or by the number of rules where there is none
    pub lowest_judged : cond (ltb lowest h.rules) (refused 7 lowest) (ok h) ≡ map_result header_of (read s)
    lowest_judged = by_place (lt_or_le lowest h.rules)
      where
        by_place : (lowest < h.rules) ⊎ (h.rules ≤ lowest) → cond (ltb lowest h.rules) (refused 7 lowest) (ok h) ≡ map_result header_of (read s)
        by_place (inl l) = rw (lt-ltb lowest h.rules l) (lowest-judged l)
        by_place (inr l) = rw (le-ltb lowest h.rules l) (none-judged l)
