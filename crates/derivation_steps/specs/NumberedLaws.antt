-- The rules of a number and a side are the rules of the completion.
use mathlib.Core.List.Memᴰ
use mathlib.Core.List.{List, [], ◌∷◌, ◌++◌, map, Memᴰ}
use Rattle.std.specs.Prelude.{◌⊎◌, ◌≡◌, ℕ, suc, ◌<◌, ◌≤◌, eqb, get_or}
use Rattle.std.proofs.Common.{inl, inr, sym, ◌∙◌, arith}
use Rattle.std.proofs.Math.Path.{ap}
use Rattle.std.proofs.Math.ListN.{length}
use Rattle.base.specs.Every.{get_or-member, cond_both}
use Rattle.roles.specs.RoleLaws.{length-inv_chain}
use Rattle.roles.specs.Rule.{Rule, inverse, completion}
use Rattle.derivation_steps.specs.WrittenSteps.{completed}

-- a number and a side of a rule
pub record Numbered (ρs : List Rule) (ρ : Rule) : Type 0 where
  pub number : ℕ
  pub side : ℕ
  pub listed : number < length ρs
  pub sided : side ≤ 1
  pub same : completed ρs number side ≡ ρ

member-place : {A : Type 0} (l : List A) (a d : A) → Memᴰ a l → (k : ℕ) × (k < length l) × (get_or l k d ≡ a)
member-place [] a d m = absurd (Memᴰ.not-nil m)
member-place (b ∷ l) a d m = by_place (λ (k : Memᴰ a l). member-place l a d k) (Memᴰ.cases_cons m)
  where
    by_place : (Memᴰ a l → (k : ℕ) × (k < length l) × (get_or l k d ≡ a)) → (a ≡ b) ⊎ Memᴰ a l
        → (k : ℕ) × (k < suc (length l)) × (get_or (b ∷ l) k d ≡ a)
    by_place rest (inl e) = (0, omega arith, sym e)
    by_place rest (inr k) = let r = rest k in (suc r.0, omega (arith, r.1), r.2)

module _ (ρs : List Rule) where
  -- what holds of every rule and of its inverse holds of the rule of a number and a side
  completed_every : (P : Rule → Type 0) → ((ρ : Rule) → Memᴰ ρ ρs → P ρ) → ((ρ : Rule) → Memᴰ ρ ρs → P (inverse ρ))
      → (number side : ℕ) → number < length ρs → P (completed ρs number side)
  unfolding completed
  completed_every P here there number side h =
      let m = get_or-member ρs number (record { left = []; right = 0 }) h in
      cond_both P (eqb side 0) (here _ m) (there _ m)

  pub completed-member : (number side : ℕ) → number < length ρs → Memᴰ (completed ρs number side) (completion ρs)
  unfolding completion
  completed-member =
      completed_every (λ ρ. Memᴰ ρ (ρs ++ map inverse ρs)) (λ ρ m. Memᴰ.append_left (map inverse ρs) m)
      (λ ρ m. Memᴰ.append_right ρs (Memᴰ.map inverse m))

  -- no left side is empty
  pub completed-some : ((ρ : Rule) → Memᴰ ρ ρs → 1 ≤ length ρ.left)
      → (number side : ℕ) → number < length ρs → 1 ≤ length (completed ρs number side).left
  unfolding inverse
  completed-some some = completed_every (λ ρ. 1 ≤ length ρ.left) some (λ ρ m. rw (length-inv_chain ρ.left) (some ρ m))

  pub numbered : (ρ : Rule) → Memᴰ ρ (completion ρs) → Numbered ρs ρ
  unfolding completion completed
  numbered ρ m = by_part (Memᴰ.append_cases ρs m)
    where
      inverted : (σ : Rule) × Memᴰ σ ρs × (inverse σ ≡ ρ) → Numbered ρs ρ
      inverted t =
          let k = member-place ρs t.0 (record { left = []; right = 0 }) t.1 in
          record { number = k.0; side = 1; listed = k.1; sided = omega arith; same = ap inverse k.2 ∙ t.2 }

      by_part : Memᴰ ρ ρs ⊎ Memᴰ ρ (map inverse ρs) → Numbered ρs ρ
      by_part (inl k) =
          let p = member-place ρs ρ (record { left = []; right = 0 }) k in
          record { number = p.0; side = 0; listed = p.1; sided = omega arith; same = p.2 }
      by_part (inr k) = inverted (Memᴰ.of_map inverse ρs k)
