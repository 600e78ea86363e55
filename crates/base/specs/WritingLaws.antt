-- Laws of writing: new numbers over the front of old ones, and stores one after another.
use Rattle.std.specs.Prelude.{List, [], ◌∷◌, ◌++◌, ◌≡◌, refl, ℕ, zero, suc, ◌+◌, ◌-◌, ◌<◌, ◌≤◌, length, get_or, take, drop, set}
use Rattle.std.proofs.Common.{ap, ◌∙◌, zero-add, add-zero, not-suc-le-zero, le_of_suc-le-suc, arith, length-set, length-append, length-drop, get_or-set_same, get_or-set_other, get_or-append-add, get_or-drop}
use Rattle.std.proofs.Math.ListN.{get_or-append}
use Rattle.std.proofs.lemmas.List.Edits.{sets, sets-eq}
use Rattle.std.proofs.Math.Seq.{take-append_seam}
use Rattle.base.specs.Writing.{over}

-- it is as long as the old ones, and the new ones are its front
pub over-length : (new old : List ℕ) → length new ≤ length old → length (over new old) ≡ length old
over-length new old h = omega (arith, length-append new (drop (length new) old), length-drop (length new) old)

pub over-front : (n : ℕ) (new old : List ℕ) → n ≡ length new → take n (over new old) ≡ new
over-front n new old h = rw h (take-append_seam new (drop (length new) old))

-- each number of it: a new one, or the old one after them
pub over-new : (new old : List ℕ) (i : ℕ) → i < length new → get_or (over new old) i 0 ≡ get_or new i 0
over-new new old i h = get_or-append new (drop (length new) old) 0 i h

pub over_old : (new old : List ℕ) (i : ℕ) → length new ≤ i → get_or (over new old) i 0 ≡ get_or old i 0
over_old new old i h =
    let e : length new + (i - length new) ≡ i = omega arith in
    rw e at (get_or-append-add new (drop (length new) old) (i - length new) 0 ∙ get_or-drop (length new) old (i - length new) 0)

-- numbers stored from the front on are the new numbers over the old
pub sets_over : (new old : List ℕ) → length new ≤ length old → sets old 0 new ≡ over new old
sets_over new old h = sets-eq new old 0 (rw zero-add h) ∙ ap (λ (k : ℕ). new ++ drop k old) (zero-add (length new))

-- stores after stores
pub sets_append : (s : List ℕ) (i : ℕ) (v w : List ℕ) → sets (sets s i v) (i + length v) w ≡ sets s i (v ++ w)
sets_append s i [] w = rw add-zero refl
sets_append s i (x ∷ v) w = let e : i + suc (length v) ≡ suc i + length v = omega arith in rw e (sets_append (set s i x) (suc i) v w)

-- numbers stored from a place on: those before it and behind them are kept, and each stands at its place
pub get_or-before : (xs m : List ℕ) (i x : ℕ) → x < i → get_or (sets m i xs) x 0 ≡ get_or m x 0
get_or-before [] m i x h = refl
get_or-before (a ∷ xs) m i x h = get_or-before xs (set m i a) (suc i) x (omega arith) ∙ get_or-set_other m i x a 0 (λ e. let f : ⊥ = omega arith in f)

pub get_or-behind : (xs m : List ℕ) (i x : ℕ) → i + length xs ≤ x → get_or (sets m i xs) x 0 ≡ get_or m x 0
get_or-behind [] m i x h = refl
get_or-behind (a ∷ xs) m i x h = get_or-behind xs (set m i a) (suc i) x (omega arith) ∙ get_or-set_other m i x a 0 (λ e. let f : ⊥ = omega arith in f)

pub get_or-stored : (xs m : List ℕ) (i x : ℕ) → x < length xs → i + length xs ≤ length m → get_or (sets m i xs) (i + x) 0 ≡ get_or xs x 0
get_or-stored [] m i x h l = absurd (not-suc-le-zero h)
get_or-stored (a ∷ xs) m i zero h l =
    let e : i + 0 ≡ i = omega arith in
    rw e (get_or-before xs (set m i a) (suc i) i (omega arith) ∙ get_or-set_same m i a 0 (omega arith))
get_or-stored (a ∷ xs) m i (suc x) h l =
    let e : i + suc x ≡ suc i + x = omega arith in
    rw e (get_or-stored xs (set m i a) (suc i) x (le_of_suc-le-suc h) (rw length-set (omega arith)))
