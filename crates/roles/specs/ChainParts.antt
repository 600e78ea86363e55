-- Chains compared link by link, and beside the front of a list.
use Rattle.std.specs.Prelude.{Bool, true, false, ◌&&◌, eqb, [], ◌∷◌, List, ◌≡◌, ℕ, ◌<◌, ◌≤◌, length, get_or, take}
use Rattle.std.proofs.Common.{refl, sym, ap, ◌∙◌, arith, get_or-take, ext_get_or, length-take-le, take_all}
use Rattle.std.proofs.lemmas.Bool.{false≢true}
use lib.Pointwise.{pointwise}
use Rattle.roles.specs.Role.{Chain, same_chain}
use Rattle.roles.specs.RoleLaws.{same_chain-sound, same_chain-complete, same_chain_differ}

-- what `==` of slices answers, link by link
pub pointwise_same : (w v : Chain) → pointwise eqb w v ≡ same_chain w v
unfolding same_chain
pointwise_same [] [] = refl
pointwise_same [] (s ∷ v) = refl
pointwise_same (r ∷ w) [] = refl
pointwise_same (r ∷ w) (s ∷ v) = ap (λ (t : Bool). eqb r s && t) (pointwise_same w v)

-- the same the other way round
pub pointwise_turned : (w v : Chain) → pointwise eqb w v ≡ same_chain v w
pointwise_turned w v = pointwise_same w v ∙ by_test (same_chain w v) refl
  where
    by_test : (t : Bool) → same_chain w v ≡ t → t ≡ same_chain v w
    by_test true h = sym (same_chain-complete v w (sym (same_chain-sound w v h)))
    by_test false h = sym (same_chain_differ v w (λ e. false≢true (sym h ∙ same_chain-complete w v (sym e))))

pub same-links : (w v : Chain) → length w ≡ length v → ((k : ℕ) → k < length w → get_or w k 0 ≡ get_or v k 0) → same_chain w v ≡ true
same-links w v h k = same_chain-complete w v (ext_get_or 0 w v h k)

pub link_differs : (w v : Chain) (k : ℕ) → (get_or w k 0 ≡ get_or v k 0 → ⊥) → same_chain w v ≡ false
link_differs w v k h = same_chain_differ w v (λ e. h (ap (λ (l : Chain). get_or l k 0) e))

-- the front of a list beside another list
module _ (s w : List ℕ) where
  pub prefix_same : length w ≤ length s → ((k : ℕ) → k < length w → get_or s k 0 ≡ get_or w k 0) → same_chain (take (length w) s) w ≡ true
  prefix_same h e =
      same-links _ _ (length-take-le (length w) s h)
      (λ k p.
      let q : k < length w = rw (← length-take-le (length w) s h) p in
      get_or-take (length w) s k 0 q ∙ e k q)

  pub prefix_differs : (k : ℕ) → k < length w → (get_or s k 0 ≡ get_or w k 0 → ⊥) → same_chain (take (length w) s) w ≡ false
  prefix_differs k p h = link_differs _ _ k (λ e. h (sym (get_or-take (length w) s k 0 p) ∙ e))

  pub prefix_short : length s < length w → same_chain (take (length w) s) w ≡ false
  prefix_short h =
      same_chain_differ _ _
      (λ e.
      let l : length s ≡ length w = ap length (sym (take_all (length w) s (omega arith)) ∙ e) in
      absurd (let f : ⊥ = omega arith in f))
