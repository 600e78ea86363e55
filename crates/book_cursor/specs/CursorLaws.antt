-- What the cursor's step gives, by what stands at its place.
use Rattle.std.specs.Prelude.{Bool, true, false, cond, List, ◌∷◌, ◌≡◌, refl, ℕ, ◌+◌, ◌-◌, ◌≤◌, length, take, drop, None, Option}
use Rattle.std.proofs.Common.{true≢false, sym, ap, ◌∙◌, subst, arith, length-take}
use Rattle.std.proofs.Math.Nat.{add-sub_cancel_left}
use Rattle.roles.specs.Rule.{Rule}
use Rattle.roles.specs.RuleLaws.{rule-path}
use Rattle.book_format.specs.Format.{named}
use Rattle.book_format.specs.Place.{next_at, whole_at, rule_at, rule_place}
use Rattle.book_format.specs.FormatLaws.{Whole, whole_true, whole_false, whole_facts, place-next}
use Rattle.book_cursor.specs.declared.Cursor.{Cursor}
use Rattle.book_cursor.specs.declared.Entry.{Entry}
use Rattle.book_cursor.specs.Cursor.{entry_at, entry_rule, rule_and_next, step_at}

module _ (s : List ℕ) (at : ℕ) where
  pub step-malformed : (Whole s at → ⊥) → None ≡ step_at s at
  step-malformed h = rw (whole_false s at h) refl

  pub step-whole : Whole s at → rule_and_next (entry_at s at) (record { at = next_at s at }) ≡ step_at s at
  step-whole h = rw (whole_true s at h.short h.some h.few h.fits) refl

-- the entry at a place stands for the rule there
pub entry_rule-at : (s : List ℕ) (at : ℕ) → entry_rule s (entry_at s at) ≡ rule_at s at
unfolding entry_rule rule_at
entry_rule-at s at = refl

-- the part that is handed out of an entry
pub entry-part : (s : List ℕ) (e : Entry) → take (e.start + e.size - e.start) (drop e.start s) ≡ (entry_rule s e).left
unfolding entry_rule
entry-part s e = ap (λ (k : ℕ). take k (drop e.start s)) (add-sub_cancel_left e.start e.size)

-- what a step that gave a rule, or none, says of the place
pub record Stepped (s : List ℕ) (at : ℕ) (e : Entry) (next : Cursor) : Type 0 where
  pub whole : whole_at s at ≡ true
  pub entry : e ≡ entry_at s at
  pub place : next.at ≡ next_at s at

pub step-rule : (s : List ℕ) (at : ℕ) (step : Option (Entry × Cursor)) (e : Entry) (next : Cursor) → step ≡ step_at s at → step ≡ rule_and_next e next → Stepped s at e next
step-rule s at step e next h k = by_test (whole_at s at) refl (sym k ∙ h)
  where
    by_test : (t : Bool) → whole_at s at ≡ t → rule_and_next e next ≡ cond t (rule_and_next (entry_at s at) (record { at = next_at s at })) None
        → Stepped s at e next
    by_test true w q =
        let p : ◌≡◌ {A = Entry × Cursor} (e, next) (entry_at s at, record { at = next_at s at }) = cc in
        record { whole = w; entry = ap (λ (p : Entry × Cursor). p.0) p; place = ap (λ (p : Entry × Cursor). p.1.at) p }
    by_test false w q = absurd (let z : ◌≡◌ {A = ℕ} 0 1 = cc in let f : ⊥ = omega arith in f)

pub step-none : (s : List ℕ) (at : ℕ) (step : Option (Entry × Cursor)) → step ≡ step_at s at → step ≡ None → whole_at s at ≡ false
step-none s at step h k = by_test (whole_at s at) refl (sym k ∙ h)
  where
    by_test : (t : Bool) → whole_at s at ≡ t → None ≡ cond t (rule_and_next (entry_at s at) (record { at = next_at s at })) None
        → whole_at s at ≡ false
    by_test true w q = absurd (let z : ◌≡◌ {A = ℕ} 0 1 = cc in let f : ⊥ = omega arith in f)
    by_test false w q = w

-- what an entry handed out at rule k says: it is rule k, read as an entry or with the part that is handed out of it, and the cursor is past it
pub record Hands (s : List ℕ) (k : ℕ) (e : Entry) (next : Cursor) : Type 0 where
  pub whole : whole_at s (rule_place s k) ≡ true
  pub fits : e.start + e.size ≤ length s
  pub few : length (take (e.start + e.size - e.start) (drop e.start s)) ≤ 8
  pub rule : entry_rule s e ≡ rule_at s (rule_place s k)
  pub part : record { left = take (e.start + e.size - e.start) (drop e.start s); right = e.right } ≡ rule_at s (rule_place s k)
  pub place : next.at ≡ rule_place s (k + 1)

-- what a step at rule k yields: no rule only where none is whole, else rule k
pub record Yields (s : List ℕ) (k : ℕ) (step : Option (Entry × Cursor)) : Type 0 where
  pub none : step ≡ None → whole_at s (rule_place s k) ≡ false
  pub some : whole_at s (rule_place s k) ≡ true → step ≡ None → ⊥
  pub hands : {e : Entry} {next : Cursor} → step ≡ rule_and_next e next → Hands s k e next

-- the law of all walks over the rules of a book
pub yields : {s : List ℕ} {k at : ℕ} {step : Option (Entry × Cursor)} → at ≡ rule_place s k → step ≡ step_at s at → Yields s k step
unfolding entry_rule
yields {s} {k} {at} {step} p d = record { none = cut; some = λ w q. true≢false (sym w ∙ cut q); hands = handed }
  where
    cut : step ≡ None → whole_at s (rule_place s k) ≡ false
    cut q = rw (← p) (step-none s at step d q)

    handed : {e : Entry} {next : Cursor} → step ≡ rule_and_next e next → Hands s k e next
    handed {e} {next} q =
        let t : Stepped s at e next = step-rule s at step e next d q in
        let w : Whole s at = whole_facts s at t.whole in
        let few : e.size ≤ 8 = rw t.entry w.few in
        let rule : entry_rule s e ≡ rule_at s (rule_place s k) = rw (t.entry, ← p) (entry_rule-at s at) in
        record {
          whole = rw (← p) t.whole;
          fits = rw t.entry w.fits;
          few = rw length-take (omega arith);
          rule = rule;
          part = rule-path _ _ (entry-part s e) refl ∙ rule;
          place = place-next s k at next.at p t.place;
        }

-- the roles of the entry are those of rule k
pub named-entry : {s : List ℕ} (n : ℕ) {k : ℕ} {e : Entry} {next : Cursor} {t : Bool} → Hands s k e next → named n (e.right ∷ (entry_rule s e).left) ≡ t
    → named n ((rule_at s (rule_place s k)).right ∷ (rule_at s (rule_place s k)).left) ≡ t
unfolding entry_rule
named-entry n {t = t} h = subst (λ (ρ : Rule). named n (ρ.right ∷ ρ.left) ≡ t) h.rule
