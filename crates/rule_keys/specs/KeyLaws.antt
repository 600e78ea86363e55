-- Laws of keys: two short rules share a key exactly where they are equal or inverse to each other.
use Rattle.std.specs.Prelude.{Bool, true, false, not, cond, ◌||◌, ◌⊎◌, ◌≡◌, ℕ, ◌+◌, ◌*◌, ◌%◌, ◌<◌, ◌≤◌, leb, eqb, length}
use Rattle.std.proofs.Common.{true≢false, inl, inr, sym, ap, ◌∙◌, arith, le-leb, eqb-true, eq-eqb, ne_eqb}
use Rattle.std.proofs.Math.Path.{refl}
use Rattle.std.proofs.lemmas.Bool.{lt-leb, eqb-false}
use Rattle.base.specs.Truth.{or_cases, or_left, or_right}
use Rattle.roles.specs.Role.{Chain, name, polarity, inv, inv_chain, turn}
use Rattle.roles.specs.RoleLaws.{name_below, name-inv, same_name, inv_chain-inv_chain}
use Rattle.roles.specs.Rule.{Rule, inverse, same_rule}
use Rattle.roles.specs.RuleLaws.{rule-path, same_rule-sound, same_rule-complete}
use Rattle.rule_keys.specs.Key.{code, canonical, key, Small, Short}
use Rattle.rule_keys.specs.CodeLaws.{turn_small, code_injective}

-- the canonical left side is the same for the inverse, and with the right role it tells the left side
other-polarity : (r : ℕ) → eqb (polarity (inv r)) 1 ≡ not (eqb (polarity r) 1)
unfolding polarity inv
other-polarity r = by_test (eqb (polarity r) 1) refl
  where
    by_test : (t : Bool) → eqb (polarity r) 1 ≡ t → eqb (polarity (inv r)) 1 ≡ not t
    by_test true h = ne_eqb (polarity (inv r)) 1 (omega (arith, eqb-true (polarity r) 1 h))
    by_test false h = eq-eqb (polarity (inv r)) 1 (omega (arith, eqb-false (polarity r) 1 h))

canonical-inverse : (ρ : Rule) → canonical (inverse ρ) ≡ canonical ρ
unfolding inverse canonical
canonical-inverse ρ = rw (other-polarity ρ.right) (turned (eqb (polarity ρ.right) 1) ρ.left)
  where
    turned : (t : Bool) (w : Chain) → turn (not t) (inv_chain w) ≡ turn t w
    turned true w = refl
    turned false w = inv_chain-inv_chain w

canonical-tells : (ρ σ : Rule) → ρ.right ≡ σ.right → canonical ρ ≡ canonical σ → ρ ≡ σ
unfolding canonical
canonical-tells ρ σ p h = rule-path ρ σ (same_left (eqb (polarity σ.right) 1) ρ.left σ.left (rw p at h)) p
  where
    same_left : (t : Bool) (w v : Chain) → turn t w ≡ turn t v → w ≡ v
    same_left true w v e = sym (inv_chain-inv_chain w) ∙ ap inv_chain e ∙ inv_chain-inv_chain v
    same_left false w v e = e

canonical-small : (ρ : Rule) → Short ρ → Small (canonical ρ)
unfolding canonical
canonical-small ρ h = turn_small (eqb (polarity ρ.right) 1) ρ.left h.left

-- the name on the right is the key's remainder
pub key-name : (ρ : Rule) → Short ρ → key ρ % 64 ≡ name ρ.right
unfolding key
key-name ρ h = omega (arith, name_below ρ.right 64 h.right)

key-inverse : (ρ : Rule) → key (inverse ρ) ≡ key ρ
unfolding key inverse
key-inverse ρ = rw (canonical-inverse ρ, name-inv ρ.right) refl

module _ (ρ σ : Rule) (short : Short ρ) (short' : Short σ) where
  key_injective : key ρ ≡ key σ → (ρ ≡ σ) ⊎ (ρ ≡ inverse σ)
  unfolding key inverse
  key_injective e = by_name (same_name ρ.right σ.right names)
    where
      names : name ρ.right ≡ name σ.right
      names = omega (arith, name_below ρ.right 64 short.right, name_below σ.right 64 short'.right)

      chains : canonical ρ ≡ canonical σ
      chains =
          code_injective (canonical ρ) (canonical σ) (canonical-small ρ short) (canonical-small σ short')
          (omega (arith, name_below ρ.right 64 short.right, name_below σ.right 64 short'.right))

      by_name : (ρ.right ≡ σ.right) ⊎ (ρ.right ≡ inv σ.right) → (ρ ≡ σ) ⊎ (ρ ≡ inverse σ)
      by_name (inl p) = inl (canonical-tells ρ σ p chains)
      by_name (inr p) = inr (canonical-tells ρ (inverse σ) p (chains ∙ sym (canonical-inverse σ)))

  pub same_key : eqb (key ρ) (key σ) ≡ (same_rule ρ σ || same_rule ρ (inverse σ))
  same_key = by_test (same_rule ρ σ || same_rule ρ (inverse σ)) refl
    where
      equal : (same_rule ρ σ ≡ true) ⊎ (same_rule ρ (inverse σ) ≡ true) → key ρ ≡ key σ
      equal (inl t) = ap key (same_rule-sound ρ σ t)
      equal (inr t) = ap key (same_rule-sound ρ (inverse σ) t) ∙ key-inverse σ

      same : (ρ ≡ σ) ⊎ (ρ ≡ inverse σ) → (same_rule ρ σ || same_rule ρ (inverse σ)) ≡ true
      same (inl e) = or_left (same_rule ρ σ) (same_rule ρ (inverse σ)) (same_rule-complete ρ σ e)
      same (inr e) = or_right (same_rule ρ σ) (same_rule ρ (inverse σ)) (same_rule-complete ρ (inverse σ) e)

      by_test : (t : Bool) → (same_rule ρ σ || same_rule ρ (inverse σ)) ≡ t → eqb (key ρ) (key σ) ≡ t
      by_test true h = eq-eqb (key ρ) (key σ) (equal (or_cases (same_rule ρ σ) (same_rule ρ (inverse σ)) h))
      by_test false h = ne_eqb (key ρ) (key σ) (λ e. true≢false (sym (same (key_injective e)) ∙ h))

-- the key of a left side of bytes and a right role, by the number of its roles and the polarity of the right one
module _ (w : Chain) (r : ℕ) where
  pub keyed-none : 8 < length w → 0 ≡ cond (leb (length w) 8) (key (record { left = w; right = r })) 0
  keyed-none l = rw (lt-leb (length w) 8 l) refl

  pub keyed-some : (t : Bool) → length w ≤ 8 → eqb (polarity r) 1 ≡ t
      → 64 * code (turn t w) + name r ≡ cond (leb (length w) 8) (key (record { left = w; right = r })) 0
  unfolding key canonical
  keyed-some t l e = rw (le-leb (length w) 8 l, e) refl
