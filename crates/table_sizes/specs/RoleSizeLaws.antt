-- Document 01's sentences on sizes hold for rules over n names that have a regular order.
use Rattle.std.specs.Prelude.{Bool, cond, ◌⊎◌, ◌↔◌, ℕ, zero, suc, ◌+◌, ◌*◌, ◌<◌}
use Rattle.std.proofs.Math.Bool.{true, false}
use mathlib.Core.List.Memᴰ
use mathlib.Core.List.{List, [], ◌∷◌, ◌++◌, map, flat_map, Memᴰ}
use Rattle.std.proofs.Common.{inl, ◌∙◌}
use Rattle.std.proofs.Math.Logic.{inr}
use Rattle.std.proofs.Math.Path.{◌≡◌, refl, sym, ap, subst}
use native.Mathlib.Omega.{arith}
use Rattle.base.specs.Truth.{not_true_false}
use Rattle.roles.specs.Role.{name, inv}
use Rattle.roles.specs.RoleLaws.{inv-inv, inv_chain-one, same_chain-complete, same_chain_differ}
use Rattle.roles.specs.Rule.{Rule, Book, inverse, completion}
use Rattle.roles.specs.RuleLaws.{rule-path, inverse-inverse}
use Rattle.roles.specs.Named.{Named}
use Rattle.order.specs.Shape.{Shape, shape, inner_of}
use Rattle.order.specs.Shape.Shape.{transitive, symmetric, row}
use Rattle.order.specs.Regular.{Regular}
use Rattle.order.specs.Leveled.{Leveled}
use Rattle.order.specs.DepthLaws.{regular_leveled}
use Rattle.tables.specs.Tables.{rules_of, own_shapes, has_symmetric, row_size, rows_size, size_of, states_from}
use Rattle.table_languages.specs.LeftSides.{Shaped, shape-shaped}
use Rattle.table_languages.specs.RoleShapes.{has_symmetric-member, member-has_symmetric, own-shape-rule, rule-own-shape}
use Rattle.base.specs.Result.Result.{ok}
use Rattle.book_format.specs.Format.{read}
use Rattle.book_format.specs.ReadLaws.{read_names}
use Rattle.table_laying.specs.Fragment.{by_fuel}
use Rattle.table_sizes.specs.RoleSize.{size, inner_roles, inner_sizes, form_5, Symmetric, multiplicity, sum_below, Sized}
use Rattle.table_sizes.specs.FragmentSize.{row_size_append, rows_size-same, size-inverse, fragment_size, leveled_apart, inner-lower, size_fuel}

-- the inner roles of rules are those of their shapes
inner-rows : (f : ℕ → ℕ) (ρs : List Rule) → row_size f (flat_map (λ ρ. inner_of (shape ρ)) ρs) ≡ rows_size f (map shape ρs)
unfolding flat_map row_size rows_size
inner-rows f [] = refl
inner-rows f (ρ ∷ ρs) =
    row_size_append f (inner_of (shape ρ)) (flat_map (λ ρ. inner_of (shape ρ)) ρs) ∙ rw (inner-rows f ρs) (by_shape (shape ρ))
  where
    by_shape : (sh : Shape) → row_size f (inner_of sh) + rows_size f (map shape ρs) ≡ rows_size f (sh ∷ map shape ρs)
    by_shape transitive = omega arith
    by_shape symmetric = omega arith
    by_shape (row from to w) = refl

-- form 5 has the shape of its name, and its inverse is the form 5 of the inverse role
form_5-shape : (r : ℕ) → shape (form_5 r) ≡ symmetric
unfolding shape
form_5-shape r =
    rw (same_chain_differ (inv r ∷ []) (r ∷ r ∷ []) longer, same_chain-complete (inv r ∷ []) (inv r ∷ []) refl) refl
  where
    longer : inv r ∷ [] ≡ r ∷ r ∷ [] → ⊥
    longer h = let z : ◌≡◌ {A = ℕ} 0 1 = cc in omega arith

form_5-inverse : (r : ℕ) → inverse (form_5 r) ≡ form_5 (inv r)
unfolding inverse
form_5-inverse r = rule-path (inverse (form_5 r)) (form_5 (inv r)) (inv_chain-one (inv r)) refl

module _ (ρs : List Rule) (r : ℕ) where
  -- a role is symmetric exactly where the tables' test says so
  symmetric_test : Symmetric ρs r → has_symmetric (own_shapes ρs r) ≡ true
  unfolding completion
  symmetric_test s = member-has_symmetric (own_shapes ρs r) (rw form_5-shape at (rule-own-shape ρs (form_5 r) (completed s)))
    where
      completed : Symmetric ρs r → Memᴰ (form_5 r) (completion ρs)
      completed (inl m) = Memᴰ.append_left (map inverse ρs) m
      completed (inr m) =
          Memᴰ.append_right ρs
          (subst (λ (ρ : Rule). Memᴰ ρ (map inverse ρs)) (form_5-inverse (inv r) ∙ ap form_5 (inv-inv r)) (Memᴰ.map inverse m))

  test_symmetric : has_symmetric (own_shapes ρs r) ≡ true → Symmetric ρs r
  unfolding completion
  test_symmetric h =
      let k = own-shape-rule ρs r symmetric (has_symmetric-member (own_shapes ρs r) h) in
      let left : k.0.left ≡ inv r ∷ [] =
      subst (λ (sh : Shape). Shaped k.0 sh) k.3 (shape-shaped k.0) ∙ ap (λ (x : ℕ). inv x ∷ []) k.2 in
      by_part
      (Memᴰ.append_cases ρs (subst (λ (ρ : Rule). Memᴰ ρ (ρs ++ map inverse ρs)) (rule-path k.0 (form_5 r) left k.2) k.1))
    where
      mirrored : (σ : Rule) × Memᴰ σ ρs × (inverse σ ≡ form_5 r) → Symmetric ρs r
      mirrored t =
          inr (subst (λ (σ : Rule). Memᴰ σ ρs) (sym (inverse-inverse t.0) ∙ ap inverse t.2 ∙ form_5-inverse r) t.1)

      by_part : Memᴰ (form_5 r) ρs ⊎ Memᴰ (form_5 r) (map inverse ρs) → Symmetric ρs r
      by_part (inl k) = inl k
      by_part (inr k) = mirrored (Memᴰ.of_map inverse ρs k)

  symmetric-twice : (multiplicity ρs r ≡ 2) ↔ Symmetric ρs r
  unfolding multiplicity
  symmetric-twice = (λ e. test_symmetric (test (has_symmetric (own_shapes ρs r)) e), λ s. rw (symmetric_test s) refl)
    where
      test : (t : Bool) → ◌≡◌ {A = ℕ} (cond t 2 1) 2 → t ≡ true
      test true e = refl
      test false e = absurd (let f : ⊥ = omega arith in f)

  plain-once : (multiplicity ρs r ≡ 1) ↔ (Symmetric ρs r → ⊥)
  unfolding multiplicity
  plain-once = (
    λ e s. let two : ◌≡◌ {A = ℕ} 2 1 = rw (symmetric_test s) at e in omega arith,
    λ plain. rw (not_true_false (has_symmetric (own_shapes ρs r)) (λ h. plain (test_symmetric h))) refl,
  )

-- the sum over the names from the first one on
states_sum : (ρs : List Rule) (fuel n : ℕ) → states_from ρs fuel n 0 ≡ sum_below n (λ x. size_of ρs fuel (2 * x))
unfolding sum_below states_from
states_sum ρs fuel zero = refl
states_sum ρs fuel (suc n) = last n 0 ∙ rw (states_sum ρs fuel n) (let e : 0 + n ≡ n = omega arith in rw e refl)
  where
    last : (left x : ℕ) → states_from ρs fuel (suc left) x ≡ states_from ρs fuel left x + size_of ρs fuel (2 * (x + left))
    last zero x = let e : x + 0 ≡ x = omega arith in rw e (omega arith)
    last (suc left) x = let e : x + suc left ≡ suc x + left = omega arith in rw (e, last left (suc x)) (omega arith)

module _ (n : ℕ) (ρs : List Rule) (named : Named n ρs) (ordered : Regular ρs) where
  levels : Leveled n ρs
  levels = regular_leveled n ρs named ordered

  size-inner : (r : ℕ) → r < 2 * n → size n ρs r ≡ 2 + multiplicity ρs r * inner_sizes n ρs r
  unfolding inner_roles name
  size-inner r h =
      by_fuel (λ (f : ℕ). size_of ρs f r ≡ 2 + multiplicity ρs r * row_size (size_of ρs f) (inner_roles ρs r)) (levels.level (name r)) n
      (levels.small (name r) (omega arith))
      (λ f l. fragment_size ρs (leveled_apart n ρs levels) f r
      ∙ ap (λ (k : ℕ). 2 + multiplicity ρs r * k)
      (rows_size-same (size_of ρs f) (size_of ρs (suc f)) (own_shapes ρs r)
      (λ sh m s i. let lower = inner-lower n ρs levels r sh m s i in size_fuel n ρs levels f (suc f) s (omega arith) (omega arith))
      ∙ sym (inner-rows (size_of ρs (suc f)) (rules_of ρs r))))

  pub sizes : Sized n ρs
  sizes =
      record {
        twice = symmetric-twice ρs;
        once = plain-once ρs;
        inner = size-inner;
        inverse = λ r. sym (size-inverse ρs (leveled_apart n ρs levels) n r);
        count = states_sum ρs n n;
      }

-- from a book's bytes
pub book_sizes : (s : List ℕ) (b : Book) → read s ≡ ok b → Regular b.rules → Sized b.names b.rules
book_sizes s b h = sizes b.names b.rules (read_names s b h)
