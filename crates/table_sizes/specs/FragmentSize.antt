-- The size of a fragment, of any fuel: a role's own rows once, or twice where it is symmetric; the same for the role's inverse; and the same
-- for any other fuel above the role's level.
use Rattle.std.specs.Prelude.{Bool, true, false, ◌||◌, ◌≡◌, eqb}
use Rattle.std.proofs.Math.Bool.{cond}
use mathlib.Core.List.Memᴰ
use mathlib.Core.List.{List, [], ◌∷◌, ◌++◌, Memᴰ}
use Rattle.std.proofs.Math.Path.{refl, sym, ap, ap₂}
use Rattle.std.proofs.Common.{◌∙◌, subst, not-suc-le-zero, arith}
use Prim.Native.Nat.{ℕ, zero, suc, ◌+◌, ◌*◌, ◌<◌}
use Rattle.roles.specs.Role.{Chain, name, inv, inv_chain}
use Rattle.roles.specs.RoleLaws.{inv_chain_nil, inv_chain-cons}
use Rattle.roles.specs.Rule.{Rule}
use Rattle.order.specs.Shape.{Shape, shape, inner_of}
use Rattle.order.specs.Shape.Shape.{transitive, symmetric, row}
use Rattle.order.specs.ShapeForms.{turned}
use Rattle.order.specs.Leveled.{Fits, Leveled}
use Rattle.tables.specs.Tables.{own_shapes, shapes, has_symmetric, row_size, rows_size, size_of}
use Rattle.table_languages.specs.LeftSides.{fits-apart, completed-fits}
use Rattle.table_languages.specs.RoleShapes.{own-shape-rule}
use Rattle.table_laying.specs.Own.{facing, is_symmetric, facing-symmetric, ApartRules, own-inverse}
use Rattle.table_laying.specs.Pieces.{rows_size_append}
use Rattle.table_sizes.specs.RoleSize.{multiplicity}

-- sizes that agree on every inner role
module _ (f g : ℕ → ℕ) where
  row_size-same : (w : Chain) → ((s : ℕ) → Memᴰ s w → f s ≡ g s) → row_size f w ≡ row_size g w
  unfolding row_size
  row_size-same [] e = refl
  row_size-same (s ∷ w) e = ap₂ ◌+◌ (e s (Memᴰ.head refl)) (row_size-same w (λ t m. e t (Memᴰ.tail m)))

  pub rows_size-same : (ss : List Shape) → ((sh : Shape) → Memᴰ sh ss → (s : ℕ) → Memᴰ s (inner_of sh) → f s ≡ g s)
      → rows_size f ss ≡ rows_size g ss
  unfolding rows_size
  rows_size-same [] e = refl
  rows_size-same (transitive ∷ ss) e = rows_size-same ss (λ sh m. e sh (Memᴰ.tail m))
  rows_size-same (symmetric ∷ ss) e = rows_size-same ss (λ sh m. e sh (Memᴰ.tail m))
  rows_size-same (row from to w ∷ ss) e =
      ap₂ ◌+◌ (row_size-same w (e (row from to w) (Memᴰ.head refl))) (rows_size-same ss (λ sh m. e sh (Memᴰ.tail m)))

pub row_size_append : (f : ℕ → ℕ) (w v : Chain) → row_size f (w ++ v) ≡ row_size f w + row_size f v
unfolding row_size
row_size_append f [] v = omega arith
row_size_append f (s ∷ w) v = rw (row_size_append f w v) (omega arith)

-- sizes that are the same for a role and its inverse: then a row and the inverted one take as many states
module _ (f : ℕ → ℕ) (same : (s : ℕ) → f (inv s) ≡ f s) where
  row_size-inverse : (w : Chain) → row_size f (inv_chain w) ≡ row_size f w
  unfolding row_size
  row_size-inverse [] = rw inv_chain_nil refl
  row_size-inverse (s ∷ w) =
      rw (inv_chain-cons s w, row_size_append f (inv_chain w) (inv s ∷ []), row_size-inverse w) (omega (arith, same s))

  turned-size : (sh : Shape) (ss : List Shape) → rows_size f (turned sh ∷ ss) ≡ rows_size f (sh ∷ ss)
  unfolding rows_size
  turned-size transitive ss = refl
  turned-size symmetric ss = refl
  turned-size (row from to w) ss = rw (row_size-inverse w) refl

  facing-size : (r : ℕ) (ρ : Rule) (ss : List Shape) → rows_size f (facing r ρ ∷ ss) ≡ rows_size f (shape ρ ∷ ss)
  facing-size r ρ ss = by_test (eqb ρ.right r)
    where
      by_test : (t : Bool) → rows_size f (cond t (shape ρ) (turned (shape ρ)) ∷ ss) ≡ rows_size f (shape ρ ∷ ss)
      by_test true = refl
      by_test false = turned-size (shape ρ) ss

  -- the own rows of a role and of its inverse take as many states
  own-size-inverse : (ρs : List Rule) (r : ℕ) → ApartRules ρs → rows_size f (own_shapes ρs (inv r)) ≡ rows_size f (own_shapes ρs r)
  own-size-inverse =
      own-inverse (rows_size f) (λ sh k. rows_size f (sh ∷ []) + k)
      (λ r ρ ss. facing-size r ρ ss ∙ rows_size_append f (shape ρ ∷ []) ss)

module _ (ρs : List Rule) (apart : ApartRules ρs) where
  multiplicity-inverse : (r : ℕ) → multiplicity ρs (inv r) ≡ multiplicity ρs r
  unfolding multiplicity
  multiplicity-inverse r =
      ap (λ (t : Bool). cond t 2 1) (own-inverse has_symmetric (λ s t. is_symmetric s || t) facing-symmetric ρs r apart)

  -- a fragment's size, where the inner ones' are the same for a role and its inverse
  level-size : (fuel : ℕ) → ((s : ℕ) → size_of ρs fuel (inv s) ≡ size_of ρs fuel s) → (r : ℕ)
      → size_of ρs (suc fuel) r ≡ 2 + multiplicity ρs r * rows_size (size_of ρs fuel) (own_shapes ρs r)
  unfolding size_of shapes multiplicity
  level-size fuel same r = by_test (has_symmetric (own_shapes ρs r))
    where
      own : ℕ
      own = rows_size (size_of ρs fuel) (own_shapes ρs r)

      by_test : (t : Bool) → 2 + rows_size (size_of ρs fuel) (cond t (own_shapes ρs r ++ own_shapes ρs (inv r)) (own_shapes ρs r)) ≡ 2 + cond t 2 1 * own
      by_test true =
          rw (rows_size_append (size_of ρs fuel) (own_shapes ρs r) (own_shapes ρs (inv r)), own-size-inverse (size_of ρs fuel) same ρs r apart)
          (omega arith)
      by_test false = omega arith

  pub size-inverse : (fuel r : ℕ) → size_of ρs fuel (inv r) ≡ size_of ρs fuel r
  size-inverse zero r = unfold size_of in refl
  size-inverse (suc fuel) r =
      level-size fuel (size-inverse fuel) (inv r)
      ∙ rw (multiplicity-inverse r, own-size-inverse (size_of ρs fuel) (size-inverse fuel) ρs r apart) refl
      ∙ sym (level-size fuel (size-inverse fuel) r)

  pub fragment_size : (fuel r : ℕ) → size_of ρs (suc fuel) r ≡ 2 + multiplicity ρs r * rows_size (size_of ρs fuel) (own_shapes ρs r)
  fragment_size fuel r = level-size fuel (size-inverse fuel) r

pub leveled_apart : (n : ℕ) (ρs : List Rule) → Leveled n ρs → ApartRules ρs
leveled_apart n ρs l ρ m = fits-apart l.level ρ.right (shape ρ) (l.fits ρ m)

module _ (n : ℕ) (ρs : List Rule) (l : Leveled n ρs) where
  -- the inner roles of a role's own shapes are lower
  pub inner-lower : (r : ℕ) (sh : Shape) → Memᴰ sh (own_shapes ρs r) → (s : ℕ) → Memᴰ s (inner_of sh) → l.level (name s) < l.level (name r)
  inner-lower r sh m =
      let k = own-shape-rule ρs r sh m in
      by_shape sh
      (subst (λ (x : Shape). Fits l.level (name r) x) k.3
      (subst (λ (x : ℕ). Fits l.level (name x) (shape k.0)) k.2 (completed-fits l.level ρs l.fits k.0 k.1)))
    where
      by_shape : (x : Shape) → Fits l.level (name r) x → (s : ℕ) → Memᴰ s (inner_of x) → l.level (name s) < l.level (name r)
      by_shape transitive f s i = absurd (Memᴰ.not-nil i)
      by_shape symmetric f s i = absurd (Memᴰ.not-nil i)
      by_shape (row from to w) f s i = f.1 s i

  -- fuel above a role's level does not matter
  pub size_fuel : (fuel more r : ℕ) → l.level (name r) < fuel → l.level (name r) < more → size_of ρs fuel r ≡ size_of ρs more r
  size_fuel zero more r h k = absurd (not-suc-le-zero h)
  size_fuel (suc fuel) zero r h k = absurd (not-suc-le-zero k)
  size_fuel (suc fuel) (suc more) r h k =
      fragment_size ρs (leveled_apart n ρs l) fuel r
      ∙ ap (λ (x : ℕ). 2 + multiplicity ρs r * x)
      (rows_size-same (size_of ρs fuel) (size_of ρs more) (own_shapes ρs r)
      (λ sh m s i. let lower = inner-lower r sh m s i in size_fuel fuel more s (omega arith) (omega arith)))
      ∙ sym (fragment_size ρs (leveled_apart n ρs l) more r)
