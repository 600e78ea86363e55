-- The row that one shape adds to a fragment, and the inner roles of a rule as an index has them.
use mathlib.Core.List.{List, [], ◌∷◌, Memᴰ}
use Rattle.std.specs.Prelude.{◌≡◌, refl, ℕ, zero, suc, ◌+◌, ◌*◌, ◌<◌, ◌≤◌, length, get_or}
use Rattle.std.proofs.Common.{sym, ◌∙◌, subst, arith}
use Rattle.base.specs.Every.{get_or-member}
use Rattle.base.specs.Part.{get_or_part, length_part}
use Rattle.roles.specs.Role.{Chain, name}
use Rattle.roles.specs.Rule.{Rule}
use Rattle.order.specs.Shape.{End, Shape, shape, inner_of}
use Rattle.order.specs.Shape.Shape.{transitive, symmetric, row}
use Rattle.order.specs.Leveled.{Fits}
use Rattle.order.specs.ClosureLaws.{inner-left}
use Rattle.tables.specs.Tables.{Transition, state, row_size, rows_size, row_transitions, rows_transitions}
use Rattle.table_laying.specs.Laid.{Laid, laid_none, laid-rows, laid-rows-end}
use Rattle.rule_index.specs.RuleLinks.{rule, rule-member}
use Rattle.rule_index.specs.RuleIndex.{Indexed, kind_in, from_in, to_in, size_in, inner_in, level_in, end_at, shape_by}

module _ (size : ℕ → ℕ) (inside : ℕ → ℕ → List Transition) (i : ℕ) where
  -- what laying a shape's row, and nothing else, is
  abbrev pub ShapeLaid : Shape → (p k : ℕ) (m : List ℕ) (q l : ℕ) (n : List ℕ) → Type 0
  ShapeLaid s p k m q l n = Laid (rows_size size (s ∷ [])) (rows_transitions size inside i p (s ∷ [])) p k m q l n

  pub row-alone : (f t : End) (w : Chain) (p k : ℕ) (m : List ℕ) (q l : ℕ) (n : List ℕ)
      → Laid (row_size size w) (row_transitions size inside (state f i) (state t i) p w) p k m q l n → ShapeLaid (row f t w) p k m q l n
  row-alone f t w p k m q l n a = laid-rows size inside f t w [] i p k m q l n q l n a (laid-rows-end size inside i q l n)

  -- forms 4 and 5 have none
  pub no_row : (p k : ℕ) (m : List ℕ) → ShapeLaid transitive p k m p k m × ShapeLaid symmetric p k m p k m
  unfolding rows_size rows_transitions
  no_row p k m = (laid_none p k m, laid_none p k m)

shape_row : (κ f t : ℕ) (w : Chain) → 2 ≤ κ → shape_by κ f t w ≡ row (end_at f) (end_at t) w
shape_row zero f t w h = absurd (let g : ⊥ = omega arith in g)
shape_row (suc zero) f t w h = absurd (let g : ⊥ = omega arith in g)
shape_row (suc (suc κ)) f t w h = refl

-- the inner roles of a rule's row: some, of declared names, and lower than the right name
module _ {ρs : List Rule} {ix : List ℕ} (i : Indexed ρs ix) (k : ℕ) (h : k < length ρs) (g : 2 ≤ kind_in ix k) where
  row_here : shape (rule ρs k) ≡ row (end_at (from_in ix k)) (end_at (to_in ix k)) (inner_in ix k)
  row_here = sym (i.entry k h).shaped ∙ shape_row (kind_in ix k) _ _ _ g

  lower : Fits (level_in ix) (name (rule ρs k).right) (row (end_at (from_in ix k)) (end_at (to_in ix k)) (inner_in ix k))
  lower = subst (Fits (level_in ix) (name (rule ρs k).right)) row_here (i.fits (rule ρs k) (rule-member ρs k h))

  pub inner-some : 0 < size_in ix k
  inner-some = by_size (size_in ix k) refl
    where
      by_size : (z : ℕ) → size_in ix k ≡ z → 0 < z
      by_size zero e = absurd (lower.0 (rw e refl))
      by_size (suc z) e = omega arith

  pub inner-low : (j : ℕ) → j < size_in ix k
      → (get_or ix (14 * k + 6 + j) 0 < 128) × (level_in ix (name (get_or ix (14 * k + 6 + j) 0)) < level_in ix (name (rule ρs k).right))
  inner-low j l =
      let few : k < 256 = omega (arith, i.few) in
      let z : length (inner_in ix k) ≡ size_in ix k = length_part ix (14 * k + 6) (size_in ix k) (omega (arith, i.size, (i.entry k h).size)) in
      let m : Memᴰ (get_or (inner_in ix k) j 0) (inner_in ix k) = get_or-member (inner_in ix k) j 0 (rw z l) in
      let e : get_or (inner_in ix k) j 0 ≡ get_or ix (14 * k + 6 + j) 0 = get_or_part ix (14 * k + 6) (size_in ix k) j l in (
        rw (← e) ((i.named (rule ρs k) (rule-member ρs k h)).1 _ (inner-left (rule ρs k) _ (subst (λ (s : Shape). Memᴰ (get_or (inner_in ix k) j 0) (inner_of s)) (sym row_here) m))),
        rw (← e) (lower.1 _ m),
      )
