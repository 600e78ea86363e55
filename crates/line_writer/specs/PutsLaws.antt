-- Texts put one after another are their concatenation.
use Rattle.std.specs.Prelude.{List, [], ◌∷◌, ◌++◌, ◌≡◌, refl, ℕ, suc, ◌+◌, ◌<◌, ◌≤◌, get_or, set}
use Rattle.std.proofs.Common.{append_assoc, ap₂, ◌∙◌, subst, arith, take-append-drop, length-drop, take_all, take-suc, drop_at, drop-drop}
use Rattle.std.proofs.Math.Path.{sym, ap}
use Rattle.std.proofs.Math.ListN.{length, take, drop, length-append}
use Rattle.std.proofs.lemmas.List.{set_split}
use Rattle.std.proofs.Math.Seq.{length-take-le, take_at}
use Rattle.io.specs.Counts.{IsPrefixLen}
use Rattle.line_writer.specs.Puts.{Puts}

-- what is written ends where it should, and the rest is as it was
module _ {out text out' : List ℕ} {at end : ℕ} (p : Puts out at text out' end) where
  front : List ℕ
  front = take at out ++ text

  within : at + length text ≤ length out
  within = let f : end ≤ length out = p.fits in let e : end ≡ at + length text = p.ends in omega arith

  front_length : length front ≡ end
  unfolding front
  front_length =
      let w : at + length text ≤ length out = within in
      let e : end ≡ at + length text = p.ends in
      let before : length (take at out) ≡ at = length-take-le at out (omega arith) in
      omega (arith, length-append (take at out) text)

  split : out' ≡ front ++ drop end out
  unfolding front
  split =
      p.bytes
      ∙ sym (append_assoc (take at out) text (drop (at + length text) out))
      ∙ ap (λ (k : ℕ). take at out ++ text ++ drop k out) (sym p.ends)

  pub puts-front : take end out' ≡ take at out ++ text
  unfolding front
  puts-front = ap (take end) split ∙ take_at front (drop end out) end front_length

  pub puts-rest : drop end out' ≡ drop end out
  puts-rest = ap (drop end) split ∙ drop_at front (drop end out) end front_length

  pub puts-length : length out' ≡ length out
  puts-length =
      let f : end ≤ length out = p.fits in
      let whole : length out' ≡ length (front ++ drop end out) = ap length split in
      omega (arith, length-append front (drop end out), length-drop end out, front_length)

-- a text put after another
pub puts_then : {out x y out₁ out₂ : List ℕ} {at middle end : ℕ} → Puts out at x out₁ middle → Puts out₁ middle y out₂ end → Puts out at (x ++ y) out₂ end
puts_then {out} {x} {y} {out₁} {out₂} {at} {middle} {end} p q =
    let sum : length (x ++ y) ≡ length x + length y = length-append x y in
    let first : middle ≡ at + length x = p.ends in
    let second : end ≡ middle + length y = q.ends in
    let both : middle + length y ≡ at + length (x ++ y) = omega arith in
    let rest : drop (middle + length y) out₁ ≡ drop (at + length (x ++ y)) out =
    sym (drop-drop (length y) middle out₁)
    ∙ ap (drop (length y)) (puts-rest p)
    ∙ drop-drop (length y) middle out
    ∙ ap (λ (k : ℕ). drop k out) both in
    record {
      bytes =
          q.bytes
          ∙ ap₂ (λ (a b : List ℕ). a ++ (y ++ b)) (puts-front p) rest
          ∙ append_assoc (take at out) x (y ++ drop (at + length (x ++ y)) out)
          ∙ ap (λ (r : List ℕ). take at out ++ r) (sym (append_assoc x y (drop (at + length (x ++ y)) out)));
      ends = omega arith;
      fits = rw (← puts-length p) q.fits;
    }

-- nothing put, and a text put byte by byte
pub puts_none : (out : List ℕ) (at : ℕ) → at ≤ length out → Puts out at [] out (at + 0)
puts_none out at h =
    let same : at + 0 ≡ at = omega arith in
    record { bytes = rw same (sym (take-append-drop at out)); ends = refl; fits = omega arith }

puts_byte : (out : List ℕ) (at b : ℕ) → at < length out → Puts out at (b ∷ []) (set out at b) (at + 1)
puts_byte out at b h =
    let one : suc at ≡ at + 1 = omega arith in
    record { bytes = set_split out at b h ∙ ap (λ (k : ℕ). take at out ++ (b ∷ drop k out)) one; ends = refl; fits = omega arith }

pub puts-next : {out : List ℕ} (text : List ℕ) {out₁ : List ℕ} {at : ℕ} (i : ℕ) → at + length text ≤ length out → i < length text → Puts out at (take i text) out₁ (at + i)
    → Puts out at (take (i + 1) text) (set out₁ (at + i) (get_or text i 0)) (at + (i + 1))
puts-next {out} text {out₁} {at} i long h p =
    let inside : at + i < length out₁ = rw (puts-length p) (omega (arith, long, h)) in
    let one : i + 1 ≡ suc i = omega arith in
    let end : at + i + 1 ≡ at + (i + 1) = omega arith in
    rw (one, take-suc text i 0 h, ← one, ← end)
    (puts_then p (puts_byte out₁ (at + i) (get_or text i 0) inside))

pub puts-all : {out : List ℕ} (text : List ℕ) {out₁ : List ℕ} {at : ℕ} (i : ℕ) → length text ≤ i → Puts out at (take i text) out₁ (at + i) → Puts out at text out₁ (at + i)
puts-all text i h p = rw (take_all i text h) at p

-- the same text under another name
pub puts_as : {out x y out' : List ℕ} {at end : ℕ} → Puts out at x out' end → x ≡ y → Puts out at y out' end
puts_as {out} {x} {y} {out'} {at} {end} p e = subst (λ (t : List ℕ). Puts out at t out' end) e p

-- what is put at the front can be lent as the front of the buffer
pub puts-counts : {out text out' : List ℕ} {at end : ℕ} → Puts out at text out' end → IsPrefixLen end out'
puts-counts {out} {text} {out'} {at} {end} p =
    let within : end ≤ length out' = rw (puts-length p) p.fits in
    (within, sym (length-take-le end out' within))
