-- What each test settles of a question's size, of its links and of its initial state.
use Rattle.std.specs.Prelude.{Bool, true, false, List, [], ◌≡◌, refl, ℕ, ◌+◌, ◌-◌, ◌<◌, ◌≤◌, leb, length, drop}
use Rattle.std.proofs.Common.{sym, ◌∙◌, arith, le-leb, leb-true, leb-false, length-drop}
use Rattle.std.proofs.lemmas.Bool.{lt-leb}
use Rattle.byte_parts.specs.Bytes.{between}
use Rattle.byte_parts.specs.BytesLaws.{between-past, between_none}
use Rattle.words.specs.Word.{word}
use Rattle.words.specs.WordLaws.{word-drop}
use Rattle.query_causes.specs.Input.{links_of}
use Rattle.query_causes.specs.ManyQueries.{whole_size}

-- the question at the front of s is whole, or not
module _ (s : List ℕ) where
  size-whole : 3 + links_of s ≤ length s → whole_size s ≡ 3 + links_of s
  size-whole h = rw (le-leb (3 + links_of s) (length s) h) refl

  size_broken : length s < 3 + links_of s → whole_size s ≡ 0
  size_broken h = rw (lt-leb (3 + links_of s) (length s) h) refl

module _ (q : List ℕ) (at : ℕ) where
  pub size-short : length q - at < 3 → whole_size (drop at q) ≡ 0
  size-short h = size_broken (drop at q) (omega (arith, h, length-drop at q))

  module _ {n : ℕ} (e : n ≡ word q (at + 1)) where
    same-links : n ≡ links_of (drop at q)
    same-links = e ∙ sym (word-drop at q 1)

    pub size-part : length q - at < n + 3 → whole_size (drop at q) ≡ 0
    size-part h = size_broken (drop at q) (omega (arith, h, length-drop at q, same-links))

    pub size-all : n + 3 ≤ length q - at → n + 3 ≡ whole_size (drop at q)
    size-all h =
        let sum : n + 3 ≡ 3 + links_of (drop at q) = omega (arith, same-links) in
        sum ∙ sym (size-whole (drop at q) (omega (arith, h, length-drop at q, same-links)))

  -- no links stand past the end
  pub links-past : (size : ℕ) → length q < at → between 3 size (drop at q) ≡ []
  links-past size h = by_size (leb 3 size) refl
    where
      by_size : (t : Bool) → leb 3 size ≡ t → between 3 size (drop at q) ≡ []
      by_size true e = between-past 3 size (drop at q) (omega (arith, h, length-drop at q, leb-true 3 size e))
      by_size false e = between_none 3 size (drop at q) (omega (arith, leb-false 3 size e))
