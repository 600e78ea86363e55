-- Laws of parts of some bytes, of the bytes before a wanted one, and of copies.
use Rattle.std.proofs.Math.Bool.{and-false}
use Rattle.std.specs.Prelude.{List, [], ◌∷◌, ◌++◌, ◌⊎◌, ◌≡◌, ℕ, zero, suc, ◌+◌, ◌-◌, ◌<◌, ◌≤◌, leb, length, get_or, set, take, drop}
use Rattle.std.proofs.Common.{inl, inr, sym, ap, ◌∙◌, arith, add-one, length-append, length-drop, drop_of_length-le, take-suc, take_all, take-take, length-take-le}
use Rattle.std.proofs.Math.Path.{refl}
use borrow.Author.Tests.{le-leb, lt-leb, eq-eqb, ne_eqb}
use Rattle.std.proofs.Math.Seq.{slice, drop-cons, append_snoc, take-length}
use Rattle.std.proofs.lemmas.List.{set_at}
use Rattle.base.specs.Writing.{over}
use Rattle.byte_parts.specs.Bytes.{between, ahead, copied}
use Rattle.byte_parts.specs.Least.{Least}

-- a part as its end is cut off first, or its front
slice_taken : (from end : ℕ) (s : List ℕ) → slice from end s ≡ take (end - from) (drop from s)
slice_taken zero end s = let e : end - 0 ≡ end = omega arith in rw e refl
slice_taken (suc from) zero s = let e : 0 - suc from ≡ 0 = omega arith in rw e refl
slice_taken (suc from) (suc end) [] = sym (take_all (suc end - suc from) [] (omega arith))
slice_taken (suc from) (suc end) (b ∷ s) = let e : suc end - suc from ≡ end - from = omega arith in rw e (slice_taken from end s)

module _ (from end : ℕ) (s : List ℕ) where
  pub between-past : length s < end → between from end s ≡ []
  between-past h = rw (lt-leb end (length s) h, and-false (leb from end)) refl

  pub between_none : end < from → between from end s ≡ []
  between_none h = rw (lt-leb from end h) refl

  pub between-some : end ≤ length s → from ≤ end → between from end s ≡ take (end - from) (drop from s)
  between-some h g = rw (le-leb from end g, le-leb end (length s) h) (slice_taken from end s)

module _ (wanted : ℕ) (s : List ℕ) (i : ℕ) where
  pub ahead-end : length s ≤ i → ahead wanted (drop i s) ≡ 0
  unfolding ahead
  ahead-end h = rw (drop_of_length-le s h) refl

  pub ahead-found : i < length s → get_or s i 0 ≡ wanted → ahead wanted (drop i s) ≡ 0
  unfolding ahead
  ahead-found h e = rw (drop-cons s i 0 h, eq-eqb (get_or s i 0) wanted e) refl

  pub ahead-next : i < length s → (get_or s i 0 ≡ wanted → ⊥) → i + ahead wanted (drop i s) ≡ i + 1 + ahead wanted (drop (i + 1) s)
  unfolding ahead
  ahead-next h e = rw (add-one i, drop-cons s i 0 h, ne_eqb (get_or s i 0) wanted e) (omega arith)

-- a copy of i bytes, one more, and of all that both sides have
module _ (from to : List ℕ) where
  pub copy_length : (i : ℕ) → i ≤ length from → i ≤ length to → length (take i from ++ drop i to) ≡ length to
  copy_length i p q = rw (length-append (take i from) (drop i to), length-drop i to, length-take-le i from p) (omega arith)

  pub copy_next : (i : ℕ) → i < length from → i < length to → set (take i from ++ drop i to) i (get_or from i 0) ≡ take (i + 1) from ++ drop (i + 1) to
  copy_next i p q =
      rw (drop-cons to i 0 q, add-one i, take-suc from i 0 p)
      (set_at (take i from) (get_or to i 0) (drop (suc i) to) (get_or from i 0) i (length-take-le i from (omega arith))
      ∙ sym (append_snoc (take i from) (get_or from i 0) (drop (suc i) to)))

  pub copy_end : {count most end : ℕ} → Least count (length from) most → Least most (length to) end → take end from ++ drop end to ≡ copied from count to
  copy_end {count} {most} {end} l m =
      ap (λ (k : ℕ). take end from ++ drop k to) (sym (length-take-le end from (omega (arith, l.right, m.left))))
      ∙ ap (λ (r : List ℕ). over r to) (by-either l.either m.either)
    where
      by-either : (most ≡ count) ⊎ (most ≡ length from) → (end ≡ most) ⊎ (end ≡ length to) → take end from ≡ take (length to) (take count from)
      by-either e (inr f) = rw f (sym (take-take (length to) count from (omega (arith, l.left, m.left))))
      by-either (inl e) (inl f) =
          let g : end ≡ count = f ∙ e in
          rw g (sym (take_all (length to) (take count from) (rw (length-take-le count from (omega (arith, l.right))) (omega (arith, m.right)))))
      by-either (inr e) (inl f) =
          let g : end ≡ length from = f ∙ e in
          rw (g, take_all count from (omega (arith, l.left)), take-length from) (sym (take_all (length to) from (omega (arith, m.right))))
