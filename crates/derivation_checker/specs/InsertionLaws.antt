-- Laws of a left side inserted in place: links moved up one by one, the last first, and the left side put into the gap.
use Rattle.std.specs.Prelude.{List, ◌∷◌, [], ◌++◌, ◌≡◌, refl, ℕ, suc, ◌+◌, ◌-◌, ◌<◌, ◌≤◌, length, get_or, take, drop, set}
use Rattle.std.proofs.Common.{append_assoc, sym, ap, ◌∙◌, add-one, arith, length-set, length-append, length-drop, take-add, take-take, take_at, drop_at, length-take-le, take-suc, drop-cons, get_or-take}
use Rattle.std.proofs.Math.ListN.{get_or-append}
use Rattle.std.proofs.Math.Seq.{paste, take-length, take-set-lt, append_snoc}
use Rattle.std.proofs.lemmas.List.Edits.{length-paste}
use Rattle.std.proofs.lemmas.List.{take-append-le, set_at, set_split}
use Rattle.derivation_checker.specs.Applied.{inserted, Inserted}

-- one link for another
pub inserted-one : (l : List ℕ) (size place x : ℕ) → place < size → size ≤ length l → Inserted l size place (x ∷ []) (set l place x)
inserted-one l size place x p q =
    let e : size + 1 - 1 ≡ size = omega arith in
    record {
      room = length-set l place x;
      chain = rw e (take-set-lt size l place x p ∙ set_split (take size l) place x (rw (length-take-le size l q) p));
    }

paste_front : (l : List ℕ) (i by end : ℕ) → i < end → end + by ≤ length l
    → set (paste l (i + 1 + by) (drop (i + 1) l) (end - (i + 1))) (i + by) (get_or l i 0) ≡ paste l (i + by) (drop i l) (end - i)
paste_front l i by end h fits =
    let a : i + 1 + by ≡ suc (i + by) = omega arith in
    let b : end - i ≡ suc (end - (i + 1)) = omega arith in
    let d : i + by + suc (end - suc i) ≡ suc (i + by) + (end - suc i) = omega arith in
    let front : List ℕ = take (i + by) l in
    let moved : List ℕ = take (end - suc i) (drop (suc i) l) in
    let rest : List ℕ = drop (suc (i + by) + (end - suc i)) l in
    rw (a, b, add-one, take-suc l (i + by) 0 (omega arith), drop-cons l i 0 (omega arith), d)
    (ap (λ (x : List ℕ). set x (i + by) (get_or l i 0))
    (append_assoc (front ++ (get_or l (i + by) 0 ∷ [])) moved rest ∙ append_snoc front (get_or l (i + by) 0) (moved ++ rest))
    ∙ set_at front (get_or l (i + by) 0) (moved ++ rest) (get_or l i 0) (i + by) (length-take-le (i + by) l (omega arith))
    ∙ sym (append_assoc front (get_or l i 0 ∷ moved) rest))

-- what stands before the links that were moved stays
paste_before : (l m : List ℕ) (at n k : ℕ) → k < at → at ≤ length l → get_or (paste l at m n) k 0 ≡ get_or l k 0
paste_before l m at n k h fits =
    let e : length (take at l) ≡ at = length-take-le at l fits in
    get_or-append (take at l ++ take n m) (drop (at + n) l) 0 k (omega (arith, e, length-append (take at l) (take n m)))
    ∙ get_or-append (take at l) (take n m) 0 k (omega (arith, e))
    ∙ get_or-take at l k 0 h

-- one more link moved
pub paste_next : (l l' : List ℕ) (i by end : ℕ) → 1 ≤ i → i ≤ end → end + by ≤ length l → l' ≡ paste l (i + by) (drop i l) (end - i)
    → set l' (i - 1 + by) (get_or l' (i - 1) 0) ≡ paste l (i - 1 + by) (drop (i - 1) l) (end - (i - 1))
paste_next l l' i by end g h fits e =
    let f : i ≡ i - 1 + 1 = omega arith in
    let v : get_or l' (i - 1) 0 ≡ get_or l (i - 1) 0 =
    rw e (paste_before l (drop i l) (i + by) (end - i) (i - 1) (omega arith) (omega arith)) in
    let k : l' ≡ paste l (i - 1 + 1 + by) (drop (i - 1 + 1) l) (end - (i - 1 + 1)) = e ∙ ap (λ (n : ℕ). paste l (n + by) (drop n l) (end - n)) f in
    rw (v, k) (paste_front l (i - 1) by end (omega arith) fits)

-- links moved up by one less than a left side has, and the left side put into the gap
module _
    (l left : List ℕ)
    (size place : ℕ)
    (p : place < size)
    (q : 1 ≤ length left)
    (fits : size + length left ≤ length l + 1)
    (l₁ : List ℕ)
    (e : l₁ ≡ paste l (place + 1 + (length left - 1)) (drop (place + 1) l) (size - (place + 1)))
  where
    -- the links after the place, and what stands after the chain
    abbrev after : List ℕ
    after = take (size - suc place) (drop (suc place) l)

    abbrev rest : List ℕ
    rest = drop (place + length left + (size - suc place)) l

    after-length : length after ≡ size - suc place
    after-length = length-take-le (size - suc place) (drop (suc place) l) (simp length-drop (omega arith))

    moved : l₁ ≡ take (place + length left) l ++ after ++ rest
    moved = let g : place + 1 + (length left - 1) ≡ place + length left = omega arith in e ∙ rw (g, add-one) refl

    pub moved_length : length l₁ ≡ length l
    moved_length =
        rw e
        (length-paste l (place + 1 + (length left - 1)) (drop (place + 1) l) (size - (place + 1)) (omega arith) (simp length-drop (omega arith)))

    moved_front : take place l₁ ≡ take place l
    moved_front =
        let g : length (take (place + length left) l) ≡ place + length left = length-take-le (place + length left) l (omega arith) in
        ap (take place) (moved ∙ append_assoc (take (place + length left) l) after rest)
        ∙ take-append-le place (take (place + length left) l) (after ++ rest) (omega arith)
        ∙ take-take place (place + length left) l (omega arith)

    moved_back : drop (place + length left) l₁ ≡ after ++ rest
    moved_back =
        ap (drop (place + length left)) (moved ∙ append_assoc (take (place + length left) l) after rest)
        ∙ drop_at (take (place + length left) l) (after ++ rest) (place + length left) (length-take-le (place + length left) l (omega arith))

    -- the chain with the left side inserted, in these parts
    inserted_parts : inserted (take size l) place left ≡ take place l ++ left ++ after
    inserted_parts =
        let g : suc place + (size - suc place) ≡ size = omega arith in
        let h : take size l ≡ take (suc place) l ++ after = ap (λ (n : ℕ). take n l) (sym g) ∙ take-add (suc place) (size - suc place) l in
        let k : drop (suc place) (take size l) ≡ after =
        ap (drop (suc place)) h ∙ drop_at (take (suc place) l) after (suc place) (length-take-le (suc place) l (omega arith)) in
        rw (k, take-take place size l (omega arith)) (sym (append_assoc (take place l) left after))

    pub inserted-whole : (l₂ : List ℕ) → l₂ ≡ paste l₁ place left (length left) → Inserted l size place left l₂
    inserted-whole l₂ f =
        let whole : l₂ ≡ take place l ++ left ++ after ++ rest =
        f ∙ rw (moved_front, moved_back, take-length left) (sym (append_assoc (take place l ++ left) after rest)) in
        let long : length (take place l ++ left ++ after) ≡ size + length left - 1 =
        rw (length-append (take place l ++ left) after, length-append (take place l) left, after-length, length-take-le place l (omega arith))
        (omega arith) in
        record {
          room = rw f (length-paste l₁ place left (length left) (omega (arith, moved_length)) (omega arith)) ∙ moved_length;
          chain =
              ap (take (size + length left - 1)) whole ∙ take_at (take place l ++ left ++ after) rest (size + length left - 1) long ∙ sym inserted_parts;
        }
