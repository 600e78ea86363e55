-- Laws of roles and chains: the inverse undoes itself and keeps the name; the test of two chains is equality.
use Rattle.std.specs.Prelude.{Bool, true, false, ◌≡◌, refl, ℕ, suc, ◌+◌, ◌-◌, ◌*◌, ◌<◌, ◌≤◌, eqb, length, get_or, ◌⊎◌}
use Rattle.std.proofs.lemmas.Bool.{false≢true}
use mathlib.Core.List.{[], ◌∷◌, ◌++◌, map, reverse-cons, append-nil, append_assoc}
use Rattle.std.proofs.Common.{sym, ap, ap₂, ◌∙◌, arith, eqb-true, eq-eqb, get_or-append-add, inl, inr, not-suc-le-zero}
use Rattle.std.proofs.lemmas.List.{length-map, length-reverse}
use Rattle.std.proofs.Math.ListN.{get_or-append}
use Rattle.base.specs.Truth.{and_left, and_right, not_true_false, lt_or_le, eq_or_ne}
use Rattle.roles.specs.Role.{Chain, name, inv, inv_chain, turn, same_chain}

pub inv-inv : (r : ℕ) → inv (inv r) ≡ r
unfolding inv
inv-inv r = omega arith

pub name-inv : (r : ℕ) → name (inv r) ≡ name r
unfolding inv name
name-inv r = omega arith

-- two roles of one name are equal or inverse to each other
pub same_name : (s r : ℕ) → name s ≡ name r → (s ≡ r) ⊎ (s ≡ inv r)
unfolding name inv
same_name s r h = by_test (eq_or_ne s r)
  where
    by_test : (s ≡ r) ⊎ (s ≡ r → ⊥) → (s ≡ r) ⊎ (s ≡ inv r)
    by_test (inl e) = inl e
    by_test (inr e) = inr (omega arith)

-- a role below an even bound has its name below half of it, and its inverse below it
pub name_below : (r n : ℕ) → r < 2 * n → name r < n
unfolding name
name_below r n h = omega arith

pub inv-below : (r n : ℕ) → r < 2 * n → inv r < 2 * n
unfolding inv
inv-below r n h = omega arith

pub inv_chain_nil : inv_chain [] ≡ []
unfolding inv_chain
inv_chain_nil = refl

pub inv_chain-one : (r : ℕ) → inv_chain (r ∷ []) ≡ inv r ∷ []
unfolding inv_chain
inv_chain-one r = refl

pub inv_chain-cons : (r : ℕ) (w : Chain) → inv_chain (r ∷ w) ≡ inv_chain w ++ (inv r ∷ [])
unfolding inv_chain
inv_chain-cons r w = reverse-cons (inv r) (map inv w)

pub length-inv_chain : (w : Chain) → length (inv_chain w) ≡ length w
unfolding inv_chain
length-inv_chain w = length-reverse (map inv w) ∙ length-map w inv

pub length-turn : (t : Bool) (w : Chain) → length (turn t w) ≡ length w
length-turn true w = length-inv_chain w
length-turn false w = refl

pub inv_chain_append : (w v : Chain) → inv_chain (w ++ v) ≡ inv_chain v ++ inv_chain w
inv_chain_append [] v = rw inv_chain_nil (sym (append-nil (inv_chain v)))
inv_chain_append (r ∷ w) v =
    rw (inv_chain-cons r (w ++ v), inv_chain_append w v, inv_chain-cons r w) (append_assoc (inv_chain v) (inv_chain w) (inv r ∷ []))

pub inv_chain-inv_chain : (w : Chain) → inv_chain (inv_chain w) ≡ w
inv_chain-inv_chain [] = rw (inv_chain_nil, inv_chain_nil) refl
inv_chain-inv_chain (r ∷ w) =
    rw (inv_chain-cons r w, inv_chain_append (inv_chain w) (inv r ∷ []), inv_chain-inv_chain w, inv_chain-one) (ap (λ (s : ℕ). s ∷ w) (inv-inv r))

-- link i of the inverse of a chain is the inverse of the link as far from its end
pub get_or-inv_chain : (w : Chain) (i : ℕ) → i < length w → get_or (inv_chain w) i 0 ≡ inv (get_or w (length w - 1 - i) 0)
get_or-inv_chain [] i h = absurd (not-suc-le-zero h)
get_or-inv_chain (r ∷ w) i h = rw inv_chain-cons (by_place (λ (k : i < length w). get_or-inv_chain w i k) (lt_or_le i (length w)))
  where
    inside : i < length w → get_or (r ∷ w) (length w - i) 0 ≡ get_or w (length w - 1 - i) 0
    inside k = ap (λ (m : ℕ). get_or (r ∷ w) m 0) (let e : length w - i ≡ suc (length w - 1 - i) = omega arith in e)

    by_place : (i < length w → get_or (inv_chain w) i 0 ≡ inv (get_or w (length w - 1 - i) 0)) → (i < length w) ⊎ (length w ≤ i)
        → get_or (inv_chain w ++ (inv r ∷ [])) i 0 ≡ inv (get_or (r ∷ w) (suc (length w) - 1 - i) 0)
    by_place before (inl k) =
        let e : suc (length w) - 1 - i ≡ length w - i = omega arith in
        rw (e, inside k, get_or-append (inv_chain w) (inv r ∷ []) 0 i (rw length-inv_chain k)) (before k)
    by_place before (inr k) =
        let e : suc (length w) - 1 - i ≡ 0 = omega arith in
        let f : i ≡ length (inv_chain w) + 0 = rw length-inv_chain (omega arith) in
        rw (e, f, get_or-append-add (inv_chain w) (inv r ∷ []) 0 0) refl

-- a turned chain has roles over the same names
pub turn_below : (n : ℕ) (t : Bool) (w : Chain) → ((k : ℕ) → k < length w → get_or w k 0 < 2 * n)
    → (k : ℕ) → k < length w → get_or (turn t w) k 0 < 2 * n
turn_below n true w h k l = rw (get_or-inv_chain w k l) (inv-below (get_or w (length w - 1 - k) 0) n (h (length w - 1 - k) (omega arith)))
turn_below n false w h k l = h k l

pub same_chain_refl : (w : Chain) → same_chain w w ≡ true
unfolding same_chain
same_chain_refl [] = refl
same_chain_refl (r ∷ w) = rw (eq-eqb r r refl) (same_chain_refl w)

pub same_chain-sound : (w v : Chain) → same_chain w v ≡ true → w ≡ v
unfolding same_chain
same_chain-sound [] [] h = refl
same_chain-sound [] (s ∷ v) h = absurd (false≢true h)
same_chain-sound (r ∷ w) [] h = absurd (false≢true h)
same_chain-sound (r ∷ w) (s ∷ v) h =
    ap₂ ◌∷◌ (eqb-true r s (and_left (eqb r s) (same_chain w v) h))
    (same_chain-sound w v (and_right (eqb r s) (same_chain w v) h))

pub same_chain-complete : (w v : Chain) → w ≡ v → same_chain w v ≡ true
same_chain-complete w v h = rw h (same_chain_refl v)

pub same_chain_differ : (w v : Chain) → (w ≡ v → ⊥) → same_chain w v ≡ false
same_chain_differ w v h = not_true_false (same_chain w v) (λ t. h (same_chain-sound w v t))
