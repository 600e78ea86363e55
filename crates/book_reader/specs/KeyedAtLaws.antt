-- Laws of keyed rules: what a step hands out at a place, with the key of the part that holds the left side, is the rule there; what the turn of a
-- loop over the rules knows.
use Rattle.std.specs.Prelude.{true, List, ◌≡◌, ℕ, ◌+◌, ◌-◌, ◌%◌, ◌<◌, ◌≤◌, leb, length, drop}
use Rattle.std.proofs.Math.Bool.{cond}
use Rattle.std.proofs.Math.Path.{refl}
use Rattle.std.proofs.Common.{sym, ap, ◌∙◌}
use borrow.Author.Tests.{le-leb}
use Rattle.std.proofs.Math.ListN.{take}
use Rattle.roles.specs.Role.{name}
use Rattle.roles.specs.RoleLaws.{name_below}
use Rattle.book_format.specs.Place.{rule_at, whole_at, rule_place}
use Rattle.book_format.specs.FormatLaws.{whole_facts, place-next}
use Rattle.rule_keys.specs.Key.{key, Short}
use Rattle.rule_keys.specs.KeyLaws.{key-name}
use Rattle.book_cursor.specs.declared.Cursor.{Cursor}
use Rattle.book_cursor.specs.declared.Entry.{Entry}
use Rattle.book_cursor.specs.Cursor.{entry_rule}
use Rattle.book_cursor.specs.CursorLaws.{entry_rule-at, entry-part, Stepped}
use Rattle.book_reader.specs.declared.keyed_rule.KeyedRule.{KeyedRule}
use Rattle.book_header.specs.declared.Header.{Header}
use Rattle.book_decoder.specs.VerdictLaws.{Headed}
use Rattle.book_reader.specs.KeyedAt.{keyed_at}
use Rattle.book_reader.specs.ShortLaws.{Bounded}

module _ {s : List ℕ} {at : ℕ} {e : Entry} {next : Cursor} (step : Stepped s at e next) where
  pub stepped_fits : e.start + e.size ≤ length s
  stepped_fits = rw step.entry (whole_facts s at step.whole).fits

  stepped_rule : entry_rule s e ≡ rule_at s at
  stepped_rule = rw step.entry (entry_rule-at s at)

  pub stepped_keyed : Short (rule_at s at) → {x : ℕ}
      → x ≡ cond (leb (length (take (e.start + e.size - e.start) (drop e.start s))) 8)
      (key (record { left = take (e.start + e.size - e.start) (drop e.start s); right = e.right })) 0
      → record { key = x; right = e.right; next = next } ≡ keyed_at s at
  unfolding entry_rule
  stepped_keyed short {x} q = rw (own, right, step.place) refl
    where
      part-key : Short (entry_rule s e)
          → cond (leb (length (take (e.start + e.size - e.start) (drop e.start s))) 8)
          (key (record { left = take (e.start + e.size - e.start) (drop e.start s); right = e.right })) 0 ≡ key (entry_rule s e)
      part-key h = rw (entry-part s e, le-leb (length (entry_rule s e).left) 8 h.few) refl

      own : x ≡ key (rule_at s at)
      own = q ∙ part-key (rw stepped_rule short) ∙ ap key stepped_rule

      right : e.right ≡ (rule_at s at).right
      right = rw (← stepped_rule) refl

-- the turn of a loop at rule k
module _ {s : List ℕ} {h : Header} (reading : Headed s h) (bounds : Bounded s h) {k at : ℕ} (place : at ≡ rule_place s k) (inside : k < h.rules) where
  pub turn-whole : whole_at s at ≡ true
  turn-whole = rw place (reading.whole k inside)

  pub turn-short : Short (rule_at s at)
  turn-short = rw place (bounds.short k inside)

  module _ {r : KeyedRule} (e : r ≡ keyed_at s at) where
    pub turn-key : r.key ≡ key (rule_at s (rule_place s k))
    turn-key = ap (λ (x : KeyedRule). x.key) e ∙ ap (λ (n : ℕ). key (rule_at s n)) place

    pub turn-next : r.next.at ≡ rule_place s (k + 1)
    turn-next = place-next s k at r.next.at place (ap (λ (x : KeyedRule). x.next.at) e)

    -- the name on the right: the key's remainder, below 64
    pub turn_target : name r.right ≡ r.key % 64
    turn_target = rw e (sym (key-name (rule_at s at) turn-short))

    pub turn-name : name r.right < 64
    turn-name = rw e (name_below (rule_at s at).right 64 turn-short.right)
