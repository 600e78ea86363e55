-- The reading of the rules as a loop runs it: what is left to read from rule k on, and how one more rule changes that.
use Rattle.std.specs.Prelude.{true, false, List, [], ◌∷◌, ◌≡◌, ℕ, suc, ◌+◌, ◌-◌, ◌<◌, ◌≤◌, length, drop}
use Rattle.std.proofs.Math.Path.{refl}
use Rattle.std.proofs.Common.{◌∙◌, add-one, arith}
use Rattle.std.proofs.Math.Nat.{sub_self, sub-zero}
use Rattle.base.specs.Result.Result.{refused, ok}
use Rattle.book_format.specs.Format.{rules_from, named}
use Rattle.book_format.specs.Place.{rule_at, whole_at, rule_place, first_rules}
use Rattle.book_format.specs.FormatLaws.{rules-cut, rules_undeclared, rules-next, rules-after, rules-end, length-first_rules}

-- the whole reading is the one from rule k on, after the rules before it
pub record Running (s : List ℕ) (n count k : ℕ) : Type 0 where
  pub rest : rules_from n [] count (drop 8 s) ≡ rules_from n (first_rules s k) (count - k) (drop (rule_place s k) s)

module _ {s : List ℕ} {n count : ℕ} where
  pub running-start : Running s n count 0
  unfolding first_rules rule_place
  running-start = record { rest = rw sub-zero refl }

  module _ {k at : ℕ} (e : k ≡ count) (p : at ≡ rule_place s k) (run : Running s n count k) where
    here : rules_from n [] count (drop 8 s) ≡ rules_from n (first_rules s count) 0 (drop at s)
    here = run.rest ∙ rw (p, e, sub_self) refl

    pub running-after : at < length s → rules_from n [] count (drop 8 s) ≡ refused 5 count
    running-after h = here ∙ rw (rules-after s n (first_rules s count) at h, length-first_rules) refl

    pub running-end : length s ≤ at → rules_from n [] count (drop 8 s) ≡ ok (record { names = n; rules = first_rules s count })
    running-end h = here ∙ rules-end s n (first_rules s count) at h

  module _ {k : ℕ} (h : k < count) (run : Running s n count k) where
    left : count - k ≡ suc (count - (k + 1))
    left = omega arith

    pub running-cut : whole_at s (rule_place s k) ≡ false → rules_from n [] count (drop 8 s) ≡ refused 5 k
    running-cut w = run.rest ∙ rw (left, rules-cut s n (first_rules s k) (rule_place s k) (count - (k + 1)) w, length-first_rules) refl

    pub running_undeclared : whole_at s (rule_place s k) ≡ true → named n ((rule_at s (rule_place s k)).right ∷ (rule_at s (rule_place s k)).left) ≡ false
        → rules_from n [] count (drop 8 s) ≡ refused 6 k
    running_undeclared w d =
        run.rest ∙ rw (left, rules_undeclared s n (first_rules s k) (rule_place s k) (count - (k + 1)) w d, length-first_rules) refl

    pub running-next : whole_at s (rule_place s k) ≡ true → named n ((rule_at s (rule_place s k)).right ∷ (rule_at s (rule_place s k)).left) ≡ true
        → Running s n count (k + 1)
    unfolding first_rules rule_place
    running-next w d =
        record { rest = run.rest ∙ rw (left, rules-next s n (first_rules s k) (rule_place s k) (count - (k + 1)) w d, add-one) refl }
