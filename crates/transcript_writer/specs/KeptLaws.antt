-- Moving bytes to the front of a buffer, byte by byte.
use Rattle.std.specs.Prelude.{List, ◌≡◌, refl, ℕ, ◌+◌, ◌-◌, ◌<◌, ◌≤◌, length, get_or, set, take}
use Rattle.std.proofs.Common.{sym, ap, ◌∙◌, zero-add, arith, get_or-drop, get_or-take, take_all}
use Rattle.std.proofs.Math.Seq.{slice, length-slice}
use Rattle.line_writer.specs.Puts.{Puts}
use Rattle.line_writer.specs.PutsLaws.{puts_none, puts-next, puts-rest, puts-length, puts_as}

-- the first i of the bytes between two places of s are moved to its front
pub record Moved (s : List ℕ) (from end : ℕ) (s' : List ℕ) (i : ℕ) : Type 0 where
  pub order : from ≤ end
  pub inside : end ≤ length s
  pub few : i ≤ end - from
  pub same : length s' ≡ length s
  pub puts : Puts s 0 (take i (slice from end s)) s' i

pub moved_none : {s : List ℕ} {from end : ℕ} → (from ≤ end) × (end ≤ length s) → Moved s from end s 0
moved_none {s} h = record { order = h.0; inside = h.1; few = omega arith; same = refl; puts = puts_none s 0 (omega arith) }

module _ {s : List ℕ} {from end : ℕ} {s' : List ℕ} {i : ℕ} (p : Moved s from end s' i) where
  size : length (slice from end s) ≡ end - from
  size = length-slice from end s p.inside

  -- a byte that is still to be moved is where it was
  unmoved : i < end - from → get_or s' (from + i) 0 ≡ get_or (slice from end s) i 0
  unmoved h =
      let place : from + i ≡ i + from = omega arith in
      let inside : from + i < end = omega (arith, p.order, h) in
      ap (λ (j : ℕ). get_or s' j 0) place
      ∙ sym (get_or-drop i s' from 0)
      ∙ ap (λ (t : List ℕ). get_or t from 0) (puts-rest p.puts)
      ∙ get_or-drop i s from 0
      ∙ ap (λ (j : ℕ). get_or s j 0) (sym place)
      ∙ sym (get_or-take end s (from + i) 0 inside)
      ∙ sym (get_or-drop from (take end s) i 0)

  pub moved-next : i < end - from → Moved s from end (set s' i (get_or s' (from + i) 0)) (i + 1)
  moved-next h =
      let long : 0 + length (slice from end s) ≤ length s = omega (arith, size, p.order, p.inside) in
      let next = puts-next {out = s} (slice from end s) {out₁ = s'} {at = 0} i long (omega (arith, size, h)) (rw (zero-add i) p.puts) in
      let moved : Puts s 0 (take (i + 1) (slice from end s)) (set s' i (get_or s' (from + i) 0)) (i + 1) = rw (unmoved h) (rw (zero-add i, zero-add (i + 1)) at next) in
      record { order = p.order; inside = p.inside; few = omega (arith, h); same = puts-length moved; puts = moved }

  pub moved_all : end - from ≤ i → Puts s 0 (slice from end s) s' i
  moved_all h = puts_as p.puts (take_all i (slice from end s) (omega (arith, size, h)))
