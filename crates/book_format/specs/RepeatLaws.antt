-- Laws of cause 7: repeats among the first rules, and the search for the lowest from a rule on.
use Rattle.std.specs.Prelude.{true, false, ◌||◌, List, [], ◌∷◌, ◌++◌, ◌≡◌, ℕ, suc, ◌+◌, ◌<◌, drop}
use Rattle.std.proofs.Math.Bool.{or_assoc, or-false}
use Rattle.std.proofs.Math.Path.{refl}
use Rattle.std.proofs.Common.{sym, ap, ◌∙◌, arith, drop-cons}
use Rattle.std.proofs.Math.Numerals.{add-one}
use Rattle.std.proofs.Math.ListN.{drop_of_length-le}
use Rattle.roles.specs.Rule.{Rule, inverse, same_rule}
use Rattle.base.specs.Result.Result.{refused, ok}
use Rattle.book_format.specs.Format.{repeats, distinct}
use Rattle.book_format.specs.Place.{rule_at, rule_place, first_rules}
use Rattle.book_format.specs.FormatLaws.{length-first_rules, get_or-first_rules}

repeats_append : (ρ : Rule) (σs τs : List Rule) → repeats ρ (σs ++ τs) ≡ (repeats ρ σs || repeats ρ τs)
unfolding repeats
repeats_append ρ [] τs = refl
repeats_append ρ (σ ∷ σs) τs =
    rw (repeats_append ρ σs τs) (sym (or_assoc (same_rule ρ σ || same_rule ρ (inverse σ)) (repeats ρ σs) (repeats ρ τs)))

-- one rule more
pub repeats-next : (s : List ℕ) (ρ : Rule) (k : ℕ)
    → repeats ρ (first_rules s (suc k))
    ≡ (repeats ρ (first_rules s k) || (same_rule ρ (rule_at s (rule_place s k)) || same_rule ρ (inverse (rule_at s (rule_place s k)))))
unfolding first_rules repeats
repeats-next s ρ k = repeats_append ρ (first_rules s k) (rule_at s (rule_place s k) ∷ []) ∙ rw or-false refl

-- the search for the lowest repeat, as a loop runs it: the whole search is the one from rule k on, after the rules before it
pub record Searching (s : List ℕ) (n count k : ℕ) : Type 0 where
  pub rest : distinct n [] (first_rules s count) ≡ distinct n (first_rules s k) (drop k (first_rules s count))

module _ {s : List ℕ} {n count : ℕ} where
  pub searching_start : Searching s n count 0
  unfolding first_rules
  searching_start = record { rest = refl }

  pub searching_end : {k : ℕ} → k ≡ count → Searching s n count k
      → distinct n [] (first_rules s count) ≡ ok (record { names = n; rules = first_rules s count })
  unfolding distinct
  searching_end e h = h.rest ∙ rw (e, drop_of_length-le (first_rules s count) {i = count} (rw length-first_rules (omega arith))) refl

  module _ {ρ : Rule} {k : ℕ} (e : ρ ≡ rule_at s (rule_place s k)) (p : k < count) (h : Searching s n count k) where
    from-here : drop k (first_rules s count) ≡ rule_at s (rule_place s k) ∷ drop (suc k) (first_rules s count)
    from-here =
        drop-cons (first_rules s count) k ρ (rw length-first_rules p)
        ∙ ap (λ (σ : Rule). σ ∷ drop (suc k) (first_rules s count)) (get_or-first_rules s count k ρ p)

    pub searching_next : repeats ρ (first_rules s k) ≡ false → Searching s n count (k + 1)
    unfolding distinct first_rules
    searching_next r = record { rest = h.rest ∙ rw (from-here, ← e, r, add-one, ← e) refl }

    pub searching_found : repeats ρ (first_rules s k) ≡ true → distinct n [] (first_rules s count) ≡ refused 7 k
    unfolding distinct
    searching_found r = h.rest ∙ rw (from-here, ← e, r, length-first_rules s k) refl
