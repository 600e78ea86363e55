-- The stores of the code are the puts: a copy element by element, a rule by its length and its room, the eight bytes in front.
use Rattle.std.specs.Prelude.{true, false, List, [], ◌∷◌, ◌≡◌, ℕ, ◌+◌, ◌<◌, ◌≤◌, leb, length, get_or, take, set}
use Rattle.std.proofs.Math.Bool.{and-false}
use Rattle.std.proofs.Math.Path.{refl, sym}
use Rattle.std.proofs.Common.{ap, ◌∙◌, add-one, arith, le-leb, take-suc, take_all, length-take-le}
use Rattle.std.proofs.Math.Numerals.{add-two}
use Rattle.std.proofs.lemmas.Bool.{lt-leb}
use Rattle.std.proofs.lemmas.List.Edits.{sets}
use Rattle.base.specs.WritingLaws.{sets_append}
use Rattle.roles.specs.Rule.{Rule}
use Rattle.book_format.specs.Encode.{header, rule_bytes}
use Rattle.book_writer.specs.BookStores.{has_room, put_rule, after_rule, RulePut, put_header}

-- a copy of i elements, and one more, and all
module _ (s : List ℕ) (at : ℕ) (part : List ℕ) (s' : List ℕ) (i : ℕ) (e : s' ≡ sets s at (take i part)) where
  pub copied_more : i < length part → set s' (at + i) (get_or part i 0) ≡ sets s at (take (i + 1) part)
  copied_more h =
      let k : length (take i part) ≡ i = length-take-le i part (omega arith) in
      rw (e, add-one, take-suc part i 0 h)
      (ap (λ (j : ℕ). set (sets s at (take i part)) (at + j) (get_or part i 0)) (sym k) ∙ sets_append s at (take i part) (get_or part i 0 ∷ []))

  pub copied_all : length part ≤ i → s' ≡ sets s at part
  copied_all h = e ∙ rw (take_all i part h) refl

-- a rule, by its length and its room
module _ (s : List ℕ) (at : ℕ) (ρ : Rule) where
  none : has_room s at ρ ≡ false → RulePut s at ρ s at
  unfolding put_rule after_rule
  none h = record { bytes = rw h refl; place = rw h refl }

  pub put_long : 255 < length ρ.left → RulePut s at ρ s at
  put_long h = none (rw (lt-leb (length ρ.left) 255 h) refl)

  pub put_full : length s < at + 2 + length ρ.left → RulePut s at ρ s at
  put_full h = none (rw (lt-leb (at + 2 + length ρ.left) (length s) h) (and-false (leb (length ρ.left) 255)))

  module _ (short : length ρ.left ≤ 255) (room : at + 2 + length ρ.left ≤ length s) where
    fits : has_room s at ρ ≡ true
    fits = rw (le-leb (length ρ.left) 255 short, le-leb (at + 2 + length ρ.left) (length s) room) refl

    pub put_rule-room : put_rule s at ρ ≡ sets s at (rule_bytes ρ)
    unfolding put_rule
    put_rule-room = rw fits refl

    pub after_rule-room : after_rule s at ρ ≡ at + 2 + length ρ.left
    unfolding after_rule
    after_rule-room = rw fits refl

    pub put-stored : {s' : List ℕ} → s' ≡ sets (set (set s at ρ.right) (at + 1) (length ρ.left)) (at + 2) ρ.left
        → RulePut s at ρ s' (at + 2 + length ρ.left)
    unfolding rule_bytes
    put-stored e = record { bytes = e ∙ rw (add-one, add-two) (sym put_rule-room); place = sym after_rule-room }

-- the eight bytes in front
module _ (s : List ℕ) (n k : ℕ) where
  pub header-short : length s < 8 → s ≡ put_header s n k
  unfolding put_header
  header-short h = rw (lt-leb 8 (length s) h) refl

  pub put_header-room : 8 ≤ length s → put_header s n k ≡ sets s 0 (header n k)
  unfolding put_header
  put_header-room h = rw (le-leb 8 (length s) h) refl

  pub header-stored : {s' : List ℕ} → 8 ≤ length s → s' ≡ sets s 0 (header n k) → s' ≡ put_header s n k
  header-stored h e = e ∙ sym (put_header-room h)
