-- Laws of the codes of chains: a code is below a bound by the chain's length, it tells the chain of roles, and a loop adds one role at a time.
use Rattle.std.specs.Prelude.{Bool, true, [], ◌∷◌, ◌≡◌, length, take, drop}
use Rattle.std.proofs.Math.Path.{refl, ap}
use Rattle.std.proofs.Common.{ap₂, ◌∙◌, add-one, length-take, length-drop, drop-cons, get_or-take, get_or-drop}
use Prim.Native.Nat.{ℕ, suc, ◌+◌, ◌-◌, ◌*◌, ◌^◌, ◌<◌, ◌≤◌}
use Rattle.std.proofs.Math.Nat.{pow-succ', pow-le-pow_right}
use native.Mathlib.Omega.{arith}
use Rattle.std.proofs.Math.ListN.{get_or}
use Rattle.std.proofs.Math.Seq.{take-suc}
use Rattle.roles.specs.Role.{Chain, inv, inv_chain, turn}
use Rattle.roles.specs.RoleLaws.{length-inv_chain, length-turn, turn_below, inv_chain_append, inv_chain-one}
use Rattle.rule_keys.specs.Key.{code, Small}

-- each link of the chain is a byte
abbrev pub Bytes : Chain → Type 0
Bytes w = (k : ℕ) → k < length w → get_or w k 0 < 256

-- the code of a chain is at least 1, and below four times 128 to the chain's length
code-some : (w : Chain) → 1 ≤ code w
unfolding code
code-some [] = omega arith
code-some (r ∷ w) = omega (arith, code-some w)

code_below : (w : Chain) → Bytes w → code w + 3 ≤ 4 * 128 ^ length w
unfolding code
code_below [] h = omega arith
code_below (r ∷ w) h =
    rw (pow-succ' 128 (length w)) (omega (arith, code_below w (λ k p. h (suc k) (omega arith)), h 0 (omega arith)))

code-few : (w : Chain) (n : ℕ) → Bytes w → length w ≤ n → code w + 3 ≤ 4 * 128 ^ n
code-few w n h few =
    omega (arith, code_below w h, pow-le-pow_right {n = 128} (let p : 0 < 128 = omega arith in p) few)

-- no other chain of roles has its code
small-rest : (r : ℕ) (w : Chain) → Small (r ∷ w) → Small w
small-rest r w h k p = h (suc k) (omega arith)

pub code_injective : (w v : Chain) → Small w → Small v → code w ≡ code v → w ≡ v
unfolding code
code_injective [] [] g h e = refl
code_injective [] (s ∷ v) g h e = absurd (omega (arith, code-some v))
code_injective (r ∷ w) [] g h e = absurd (omega (arith, code-some w))
code_injective (r ∷ w) (s ∷ v) g h e =
    let p : r < 128 = g 0 (omega arith) in
    let q : s < 128 = h 0 (omega arith) in
    ap₂ ◌∷◌ (omega arith) (code_injective w v (small-rest r w g) (small-rest s v h) (omega arith))

-- a turned chain is as small
pub turn_small : (t : Bool) (w : Chain) → Small w → Small (turn t w)
turn_small t w h k p = turn_below 64 t w h k (rw (← length-turn t w) p)

turn-bytes : (t : Bool) (w : Chain) → Bytes w → Bytes (turn t w)
turn-bytes t w h k p = turn_below 128 t w h k (rw (← length-turn t w) p)

-- a chain w of at most 8 bytes
module _ (w : Chain) (bytes : Bytes w) (few : length w ≤ 8) where
  pub code-turn : (t : Bool) → code (turn t w) + 3 ≤ 2 ^ 58
  code-turn t = code-few (turn t w) 8 (turn-bytes t w bytes) (rw length-turn few)

  -- coded from the last role to the first: the roles from i on are read
  module _ (i : ℕ) (some : 0 < i) (inside : i ≤ length w) where
    pub code-rest : code (drop i w) + 3 ≤ 2 ^ 51
    code-rest =
        code-few (drop i w) 7 (λ k p. rw get_or-drop (bytes (i + k) (omega (arith, length-drop i w))))
        (rw length-drop (omega arith))

    pub code-next : code (drop (i - 1) w) ≡ 128 * code (drop i w) + get_or w (i - 1) 0
    unfolding code
    code-next =
        let e : suc (i - 1) ≡ i = omega arith in
        ap code (drop-cons w (i - 1) 0 (omega arith)) ∙ ap (λ (n : ℕ). 128 * code (drop n w) + get_or w (i - 1) 0) e

  -- the inverse coded from the first role to the last: the first i roles are read
  module _ (i : ℕ) (inside : i < length w) where
    pub inverse-front : code (inv_chain (take i w)) + 3 ≤ 2 ^ 51
    inverse-front =
        code-few (inv_chain (take i w)) 7
        (turn-bytes true (take i w) (λ k p. rw (get_or-take i w k 0 (omega (arith, length-take i w))) (bytes k (omega (arith, length-take i w)))))
        (rw (length-inv_chain, length-take) (omega arith))

    pub inverse-next : code (inv_chain (take (i + 1) w)) ≡ 128 * code (inv_chain (take i w)) + inv (get_or w i 0)
    unfolding code
    inverse-next = rw (add-one, take-suc w i 0 inside, inv_chain_append (take i w) (get_or w i 0 ∷ []), inv_chain-one) refl
