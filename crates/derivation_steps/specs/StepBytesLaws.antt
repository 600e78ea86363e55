-- Four bytes stored are the step that is read there then.
use Rattle.std.specs.Prelude.{List, [], ◌∷◌, ◌⊎◌, ◌≡◌, refl, ℕ, suc, ◌+◌, ◌*◌, ◌/◌, ◌%◌, ◌<◌, ◌≤◌, length, get_or, set}
use Rattle.std.proofs.Common.{inl, inr, sym, ap, ◌∙◌, subst, mod-eq_of_lt, add-one, arith}
use Rattle.std.proofs.Math.Numerals.{add-two}
use Rattle.std.proofs.lemmas.List.Edits.{sets}
use Rattle.std.proofs.Math.Seq.{length-sets}
use Rattle.base.specs.WritingLaws.{get_or-before, get_or-behind, get_or-stored}
use Rattle.derivation_steps.specs.declared.WrittenStep.{WrittenStep}
use Rattle.derivation_steps.specs.WrittenSteps.{step_at}
use Rattle.derivation_steps.specs.StepBytes.{Reads, low, StepPut, Puts}

-- bytes that do not go so far, and others
pub reads_none : (s : List ℕ) (k : ℕ) → length s / 4 ≤ k → Reads s k (record { place = 0; number = 0; side = 0 })
reads_none s k h = record { whole = λ l. absurd (let f : ⊥ = omega arith in f); none = λ l. refl }

pub reads_whole : (s : List ℕ) (k : ℕ) (t : WrittenStep) → k < length s / 4 → t ≡ step_at s k → Reads s k t
reads_whole s k t h e = record { whole = λ l. e; none = λ l. absurd (let f : ⊥ = omega arith in f) }

pub puts_none : (s : List ℕ) (k : ℕ) (t : WrittenStep) → length s / 4 ≤ k → Puts s k t s
puts_none s k t h = record { whole = λ l. absurd (let f : ⊥ = omega arith in f); none = λ l. refl }

-- four bytes stored, one after another
pub puts_whole : (s : List ℕ) (k : ℕ) (t : WrittenStep) → k < length s / 4
    → Puts s k t (set (set (set (set s (4 * k) (t.place % 256)) (4 * k + 1) (t.place / 256 % 256)) (4 * k + 2) (t.number % 256)) (4 * k + 3) (t.side % 256))
unfolding step_at
puts_whole s k t h = record { whole = λ l. put; none = λ l. absurd (let f : ⊥ = omega arith in f) }
  where
    bytes : List ℕ
    bytes = t.place % 256 ∷ t.place / 256 % 256 ∷ t.number % 256 ∷ t.side % 256 ∷ []

    new : List ℕ
    new = sets s (4 * k) bytes

    same : set (set (set (set s (4 * k) (t.place % 256)) (4 * k + 1) (t.place / 256 % 256)) (4 * k + 2) (t.number % 256)) (4 * k + 3) (t.side % 256) ≡ new
    same = rw (add-one (4 * k), add-two (4 * k), three) refl
      where
        three : 4 * k + 3 ≡ suc (suc (suc (4 * k)))
        three = omega arith

    byte : (x : ℕ) → x < 4 → get_or new (4 * k + x) 0 ≡ get_or bytes x 0
    byte x l = get_or-stored bytes s (4 * k) x l (omega arith)

    low_byte : get_or new (4 * k) 0 ≡ t.place % 256
    low_byte = ap (λ (x : ℕ). get_or new x 0) (let e : 4 * k ≡ 4 * k + 0 = omega arith in e) ∙ byte 0 (omega arith)

    place : get_or new (4 * k) 0 + 256 * get_or new (4 * k + 1) 0 ≡ t.place % 65536
    place = omega (arith, low_byte, byte 1 (omega arith))

    others : (x : ℕ) → (x < 4 * k) ⊎ (4 * k + 4 ≤ x) → get_or new x 0 ≡ get_or s x 0
    others x (inl l) = get_or-before bytes s (4 * k) x l
    others x (inr l) = get_or-behind bytes s (4 * k) x l

    put : StepPut s k (low t) (set (set (set (set s (4 * k) (t.place % 256)) (4 * k + 1) (t.place / 256 % 256)) (4 * k + 2) (t.number % 256)) (4 * k + 3) (t.side % 256))
    put =
        subst (StepPut s k (low t)) (sym same)
        (record {
          size = length-sets s (4 * k) bytes;
          others = others;
          step = λ i. record { place = place i; number = byte 2 (omega arith) i; side = byte 3 (omega arith) i };
        })

-- a step that has room in four bytes is written as it is
pub put_small : (old : List ℕ) (k : ℕ) (t : WrittenStep) (new : List ℕ) → Puts old k t new → 4 * k + 4 ≤ length old → t.place < 65536 → t.number < 256 → t.side < 256
    → StepPut old k t new
put_small old k t new p room place number side = subst (λ (u : WrittenStep). StepPut old k u new) same (p.whole room)
  where
    same : low t ≡ t
    same = λ i. record { place = mod-eq_of_lt place i; number = mod-eq_of_lt number i; side = mod-eq_of_lt side i }
