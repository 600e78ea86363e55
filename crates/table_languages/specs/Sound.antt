-- What the machine of a role reads is derived from it. From final to final the machine reads what may follow the role itself.
use mathlib.Core.List.{List, [], ◌∷◌, ◌++◌, Memᴰ}
use Rattle.std.specs.Prelude.{◌⊎◌, ◌≡◌, refl, ℕ}
use Rattle.std.proofs.Common.{inl, inr, subst}
use mathlib.Mathlib.Logic.Relation.ReflTransGenᴰ
use Rattle.roles.specs.Role.{Chain, inv}
use Rattle.roles.specs.RoleLaws.{inv-inv, inv_chain-one}
use Rattle.roles.specs.Rule.{Rule, completion}
use Rattle.roles.specs.Derivation.{Derives}
use Rattle.order.specs.Shape.{End, Shape, shape}
use Rattle.order.specs.Shape.End.{initial, final}
use Rattle.order.specs.Shape.Shape.{transitive, symmetric, row}
use Rattle.tables.specs.Tables.{own_shapes, shapes}
use Rattle.tables.specs.Run.{Spelled, Run}
use Rattle.tables.specs.Run.Spelled.{none, more}
use Rattle.tables.specs.Run.Run.{stop, letter, second, back, through}
use Rattle.table_languages.specs.MachineRuns.{spelled_map}
use Rattle.rewriting.specs.Replacing.{Replaces, replaces_append, replaces_rule, derives-inverse}
use Rattle.table_languages.specs.LeftSides.{Left, left_map, Shaped, shape-shaped}
use Rattle.table_languages.specs.RoleShapes.{has_symmetric-member, has_transitive-member, own-shape-rule, shapes_cases}

module _ (ρs : List Rule) where
  -- a chain that is put together from derived chains
  spelled_replaces : (v w : Chain) → Spelled (Derives ρs) v w → Replaces ρs v w
  spelled_replaces v w none = ReflTransGenᴰ.refl
  spelled_replaces v w (more {s = s} {w = x} {u = u} {v = y} d p) =
      replaces_append ρs (s ∷ []) u x y d (spelled_replaces x y p)

  -- the left side that a shape gives to a rule of r is derived from r
  abbrev Allows : ℕ → Shape → Type 0
  Allows r s = Left (Derives ρs r) r s

  rule_allows : (ρ : Rule) → Memᴰ ρ (completion ρs) → (s : Shape) → Shaped ρ s → Allows ρ.right s
  rule_allows ρ m = left_map (λ v. ρ.left ≡ v) (Derives ρs ρ.right) ρ.right (λ v h. rw h at (replaces_rule ρs ρ m))

  own_allows : (r : ℕ) (s : Shape) → Memᴰ s (own_shapes ρs r) → Allows r s
  own_allows r s m = of_rule (own-shape-rule ρs r s m)
    where
      of_rule : (ρ : Rule) × Memᴰ ρ (completion ρs) × (ρ.right ≡ r) × (shape ρ ≡ s) → Allows r s
      of_rule t =
          subst (λ x. Allows x s) t.2
          (subst (Allows t.0.right) t.3 (rule_allows t.0 t.1 (shape t.0) (shape-shaped t.0)))

  -- between r and its inverse where r is symmetric
  turned : (r : ℕ) → Allows r symmetric → Derives ρs (inv r) (r ∷ [])
  turned r d = rw (inv_chain-one, inv-inv) at (derives-inverse ρs r (inv r ∷ []) d)

  turned_allows : (r : ℕ) → Allows r symmetric → (s : Shape) → Allows (inv r) s → Allows r s
  turned_allows r d transitive e =
      ReflTransGenᴰ.trans d (ReflTransGenᴰ.trans e (replaces_append ρs (inv r ∷ []) (r ∷ []) (inv r ∷ []) (r ∷ []) (turned r d) (turned r d)))
  turned_allows r d symmetric e = d
  turned_allows r d (row initial initial inner) e =
      ReflTransGenᴰ.trans d (ReflTransGenᴰ.trans e (replaces_append ρs inner inner (inv r ∷ []) (r ∷ []) ReflTransGenᴰ.refl (turned r d)))
  turned_allows r d (row initial final inner) e = ReflTransGenᴰ.trans d e
  turned_allows r d (row final initial inner) e = e
  turned_allows r d (row final final inner) e =
      ReflTransGenᴰ.trans d (ReflTransGenᴰ.trans e (replaces_append ρs (inv r ∷ []) (r ∷ []) inner inner (turned r d) ReflTransGenᴰ.refl))

  shapes_allow : (r : ℕ) (s : Shape) → Memᴰ s (shapes ρs r) → Allows r s
  shapes_allow r s m = by_part (shapes_cases ρs r s m)
    where
      by_part : Memᴰ s (own_shapes ρs r) ⊎ (Memᴰ symmetric (own_shapes ρs r) × Memᴰ s (own_shapes ρs (inv r))) → Allows r s
      by_part (inl k) = own_allows r s k
      by_part (inr k) = turned_allows r (own_allows r symmetric k.0) s (own_allows (inv r) s k.1)

  -- what a run from a state to final says of the chain that it reads
  abbrev Claim : ℕ → End → Chain → Type 0
  Claim r initial w = Derives ρs r w
  Claim r final w = Derives ρs r (r ∷ w)

  row_claim : (r : ℕ) (from to : End) (inner u w : Chain) → Allows r (row from to inner) → Replaces ρs inner u → Claim r to w → Claim r from (u ++ w)
  row_claim r initial initial inner u w a p c = ReflTransGenᴰ.trans a (replaces_append ρs inner u (r ∷ []) w p c)
  row_claim r initial final inner u w a p c =
      ReflTransGenᴰ.trans c (replaces_append ρs (r ∷ []) u w w (ReflTransGenᴰ.trans a p) ReflTransGenᴰ.refl)
  row_claim r final initial inner u w a p c = absurd a
  row_claim r final final inner u w a p c =
      ReflTransGenᴰ.trans c (replaces_append ρs (r ∷ []) (r ∷ u) w w
      (ReflTransGenᴰ.trans a (replaces_append ρs (r ∷ []) (r ∷ []) inner u ReflTransGenᴰ.refl p)) ReflTransGenᴰ.refl)

  run_claim : (L : ℕ → Chain → Type 0) → ((v w : Chain) → Spelled L v w → Replaces ρs v w)
      → (r : ℕ) (e : End) (w : Chain) {t : End} → t ≡ final → Run L r (shapes ρs r) e w t → Claim r e w
  run_claim L inside r e w h stop = rw h ReflTransGenᴰ.refl
  run_claim L inside r e w h (letter {w = v} p) = run_claim L inside r final v h p
  run_claim L inside r e w h (second {w = v} s p) =
      ReflTransGenᴰ.trans (run_claim L inside r final v h p)
      (replaces_append ρs (r ∷ []) (inv r ∷ []) v v (shapes_allow r symmetric (has_symmetric-member (shapes ρs r) s)) ReflTransGenᴰ.refl)
  run_claim L inside r e w h (back s p) =
      ReflTransGenᴰ.trans (shapes_allow r transitive (has_transitive-member (shapes ρs r) s))
      (replaces_append ρs (r ∷ []) (r ∷ []) (r ∷ []) w ReflTransGenᴰ.refl (run_claim L inside r initial w h p))
  run_claim L inside r e w h (through {from = from} {to = to} {inner = inner} {u = u} {w = v} m q p) =
      row_claim r from to inner u v (shapes_allow r (row from to inner) m) (inside inner u q) (run_claim L inside r to v h p)

  -- where the rows read what their inner roles derive, the machine of a role reads what the role derives
  pub run_derives : (L : ℕ → Chain → Type 0) → ((s : ℕ) (u : Chain) → L s u → Derives ρs s u)
      → (r : ℕ) (w : Chain) → Run L r (shapes ρs r) initial w final → Derives ρs r w
  run_derives L inside r w p =
      run_claim L (λ v x q. spelled_replaces v x (spelled_map (λ s u _. inside s u) q)) r initial w refl p
