-- Laws of rules: the inverse undoes itself, and the test of two rules is equality.
use Rattle.std.specs.Prelude.{true, false, ◌≡◌, refl, eqb}
use Rattle.std.proofs.Common.{eqb-true, eq-eqb}
use Rattle.base.specs.Truth.{and_left, and_right, not_true_false}
use Rattle.roles.specs.Role.{same_chain}
use Rattle.roles.specs.RoleLaws.{inv-inv, inv_chain-inv_chain, same_chain_refl, same_chain-sound}
use Rattle.roles.specs.Rule.{Rule, inverse, same_rule}

pub rule-path : (ρ σ : Rule) → ρ.left ≡ σ.left → ρ.right ≡ σ.right → ρ ≡ σ
rule-path ρ σ p q = λ i. record { left = p i; right = q i }

pub inverse-inverse : (ρ : Rule) → inverse (inverse ρ) ≡ ρ
unfolding inverse
inverse-inverse ρ = rule-path (inverse (inverse ρ)) ρ (inv_chain-inv_chain ρ.left) (inv-inv ρ.right)

pub same_rule_refl : (ρ : Rule) → same_rule ρ ρ ≡ true
unfolding same_rule
same_rule_refl ρ = rw (eq-eqb ρ.right ρ.right refl) (same_chain_refl ρ.left)

pub same_rule-sound : (ρ σ : Rule) → same_rule ρ σ ≡ true → ρ ≡ σ
unfolding same_rule
same_rule-sound ρ σ h =
    rule-path ρ σ
    (same_chain-sound ρ.left σ.left (and_right (eqb ρ.right σ.right) (same_chain ρ.left σ.left) h))
    (eqb-true ρ.right σ.right (and_left (eqb ρ.right σ.right) (same_chain ρ.left σ.left) h))

pub same_rule-complete : (ρ σ : Rule) → ρ ≡ σ → same_rule ρ σ ≡ true
same_rule-complete ρ σ h = rw h (same_rule_refl σ)

pub same_rule_differ : (ρ σ : Rule) → (ρ ≡ σ → ⊥) → same_rule ρ σ ≡ false
same_rule_differ ρ σ h = not_true_false (same_rule ρ σ) (λ t. h (same_rule-sound ρ σ t))
