-- Replacements between chains: they are closed under context and append, a completed rule is one of them, and the inverse chains
-- have them too.
use mathlib.Core.List.{List, [], ◌∷◌, ◌++◌, map, append-nil, append_assoc, Memᴰ}
use mathlib.Core.List.Memᴰ
use Rattle.std.specs.Prelude.{◌⊎◌, ◌≡◌, ℕ}
use Rattle.std.proofs.Common.{inl, inr, sym, ap, ◌∙◌}
use mathlib.Mathlib.Logic.Relation.ReflTransGenᴰ
use mathlib.Mathlib.Logic.Relation.{ReflTransGenᴰ}
use Rattle.roles.specs.Role.{Chain, inv, inv_chain}
use Rattle.roles.specs.RoleLaws.{inv_chain-one, inv_chain-cons, inv_chain_append}
use Rattle.roles.specs.Rule.{Rule, inverse, completion}
use Rattle.roles.specs.RuleLaws.{inverse-inverse}
use Rattle.roles.specs.Derivation.{Step, Derives}
use Rattle.roles.specs.Derivation.Step.{replace}

-- zero or more replacements lead from one chain to another
abbrev pub Replaces : List Rule → Chain → Chain → Type 0
Replaces ρs v w = ReflTransGenᴰ (Step ρs) v w

-- the inverse of a completed rule is one too
pub completion-inverse : (ρs : List Rule) (ρ : Rule) → Memᴰ ρ (completion ρs) → Memᴰ (inverse ρ) (completion ρs)
unfolding completion
completion-inverse ρs ρ m = by_part (Memᴰ.append_cases ρs m)
  where
    undo : (σ : Rule) × Memᴰ σ ρs × (inverse σ ≡ ρ) → Memᴰ (inverse ρ) (ρs ++ map inverse ρs)
    undo t = Memᴰ.append_left (map inverse ρs) (Memᴰ.cast (sym (ap inverse t.2) ∙ inverse-inverse t.0) t.1)

    by_part : Memᴰ ρ ρs ⊎ Memᴰ ρ (map inverse ρs) → Memᴰ (inverse ρ) (ρs ++ map inverse ρs)
    by_part (inl k) = Memᴰ.append_right ρs (Memᴰ.map inverse k)
    by_part (inr k) = undo (Memᴰ.of_map inverse ρs k)

module _ (ρs : List Rule) where
  -- a replacement within a longer chain
  pub step_left : (u v w : Chain) → Step ρs v w → Step ρs (u ++ v) (u ++ w)
  step_left u v w (replace before after ρ m) =
      rw (← (append_assoc u before (ρ.right ∷ after)), ← (append_assoc u before (ρ.left ++ after))) (replace (u ++ before) after ρ m)

  pub step_right : (u v w : Chain) → Step ρs v w → Step ρs (v ++ u) (w ++ u)
  step_right u v w (replace before after ρ m) =
      rw (append_assoc before (ρ.right ∷ after) u, append_assoc before (ρ.left ++ after) u, append_assoc ρ.left after u)
      (replace before (after ++ u) ρ m)

  -- replacements in both parts of a chain are replacements in the chain
  pub replaces_append : (u v w z : Chain) → Replaces ρs u v → Replaces ρs w z → Replaces ρs (u ++ w) (v ++ z)
  replaces_append u v w z p q =
      ReflTransGenᴰ.trans (ReflTransGenᴰ.lift (λ x. x ++ w) (step_right w) u v p)
      (ReflTransGenᴰ.lift (λ x. v ++ x) (step_left v) w z q)

  pub replaces_rule : (ρ : Rule) → Memᴰ ρ (completion ρs) → Replaces ρs (ρ.right ∷ []) ρ.left
  replaces_rule ρ m = ReflTransGenᴰ.single (rw append-nil at (replace [] [] ρ m))

  pub step-inverse : (v w : Chain) → Step ρs v w → Step ρs (inv_chain v) (inv_chain w)
  unfolding inverse
  step-inverse v w (replace before after ρ m) =
      rw (inv_chain_append before (ρ.right ∷ after), inv_chain-cons ρ.right after)
      (rw (inv_chain_append before (ρ.left ++ after), inv_chain_append ρ.left after)
      (rw (append_assoc (inv_chain after) (inv ρ.right ∷ []) (inv_chain before))
      (rw (append_assoc (inv_chain after) (inv_chain ρ.left) (inv_chain before)) around)))
    where
      around : Step ρs (inv_chain after ++ (inv ρ.right ∷ inv_chain before)) (inv_chain after ++ (inv_chain ρ.left ++ inv_chain before))
      around = replace (inv_chain after) (inv_chain before) (inverse ρ) (completion-inverse ρs ρ m)

  pub replaces_inverse : (v w : Chain) → Replaces ρs v w → Replaces ρs (inv_chain v) (inv_chain w)
  replaces_inverse v w d = ReflTransGenᴰ.lift {p = Step ρs} inv_chain step-inverse v w d

  -- what is derived from a role has its inverse derived from the role's inverse
  pub derives-inverse : (r : ℕ) (w : Chain) → Derives ρs r w → Derives ρs (inv r) (inv_chain w)
  derives-inverse r w d = rw inv_chain-one at (replaces_inverse (r ∷ []) w d)
