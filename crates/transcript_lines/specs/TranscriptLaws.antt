-- Whole questions stay whole where the input goes on, and answers that imply others make the same lines.
use Rattle.std.specs.Prelude.{Bool, List, [], ◌∷◌, ◌++◌, ◌≡◌, refl, ℕ, suc, ◌+◌, ◌*◌, ◌≤◌, length, get_or, take, drop}
use Rattle.std.proofs.Common.{arith, le-leb, length-append}
use Rattle.std.proofs.lemmas.Bool.{lt-leb}
use Rattle.std.proofs.lemmas.List.{take-append-le, drop-append-le}
use Rattle.roles.specs.Role.{Chain}
use Rattle.base.specs.Result.{Result}
use Rattle.query_causes.specs.Input.{links_of, Whole, Broken}
use Rattle.transcript_lines.specs.Transcript.{next, Transcript}
use Rattle.transcript_lines.specs.Transcript.Next.{nothing, part, whole}
use Rattle.transcript_lines.specs.Transcript.Transcript.{ended, cut, answered}

-- there is nothing
pub next-nothing : (s : List ℕ) → length s ≡ 0 → next s ≡ nothing
unfolding next
next-nothing [] e = refl
next-nothing (x ∷ s) e = absurd (let f : ⊥ = omega (arith, e) in f)

-- the question at the front is whole, and stays so where the input goes on
pub next-whole : (s more : List ℕ) → Whole s
    → next (s ++ more) ≡ whole (get_or s 0 0) (take (links_of s) (drop 3 s)) (drop (3 + links_of s) s ++ more)
unfolding next
next-whole [] more h = absurd (let f : ⊥ = omega (arith, h) in f)
next-whole (r ∷ []) more h = absurd (let f : ⊥ = omega (arith, h) in f)
next-whole (r ∷ low ∷ []) more h = absurd (let f : ⊥ = omega (arith, h) in f)
next-whole (r ∷ low ∷ high ∷ s) more h =
    let n : ℕ = low + 256 * high in
    let fits : n ≤ length s = omega (arith, h) in
    let longer : 3 + n ≤ length (r ∷ low ∷ high ∷ s ++ more) = omega (arith, fits, length-append s more) in
    rw (
      le-leb (3 + n) (length (r ∷ low ∷ high ∷ s ++ more)) longer,
      take-append-le n s more fits,
      drop-append-le (3 + n) (r ∷ low ∷ high ∷ s) more h,
    )
    refl

-- there is only a part of a question
pub next-part : (s : List ℕ) → 1 ≤ length s → Broken s → next s ≡ part
unfolding next
next-part [] some h = absurd (let f : ⊥ = omega (arith, some) in f)
next-part (r ∷ s) some h = rw (lt-leb (3 + links_of (r ∷ s)) (length (r ∷ s)) h) refl

-- answers that imply others
pub transcript_map : (P Q : ℕ → Chain → Result Bool → Type 0) → ((r : ℕ) (w : Chain) (a : Result Bool) → P r w a → Q r w a) → (k : ℕ) (q out : List ℕ)
    → Transcript P k q out → Transcript Q k q out
transcript_map P Q f _ _ _ (ended k q e) = ended k q e
transcript_map P Q f _ _ _ (cut k q e) = cut k q e
transcript_map P Q f _ _ _ (answered k q r w rest a lines e s t) =
    answered k q r w rest a lines e (f r w a s) (transcript_map P Q f (suc k) rest lines t)
