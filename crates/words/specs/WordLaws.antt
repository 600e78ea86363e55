-- Where a 16-bit number stands in a part of the bytes.
use Rattle.std.specs.Prelude.{List, ◌≡◌, ℕ, ◌+◌, ◌*◌, get_or, drop}
use Rattle.std.proofs.Common.{ap, ap₂, sym, ◌∙◌, add_assoc, get_or-drop}
use Rattle.words.specs.Word.{word}

-- past the first bytes places count from there on
pub word-drop : (from : ℕ) (s : List ℕ) (at : ℕ) → word (drop from s) at ≡ word s (from + at)
word-drop from s at = ap₂ (λ (a b : ℕ). a + 256 * b) (get_or-drop from s at 0) (get_or-drop from s (at + 1) 0 ∙ ap (λ (i : ℕ). get_or s i 0) (sym (add_assoc from at 1)))
