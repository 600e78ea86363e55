-- What the code finds is the answer for the rule, and the part of the left side that an answer names holds the rule's inner roles.
use Rattle.std.specs.Prelude.{true, false, List, [], ◌∷◌, ◌++◌, ◌≡◌, refl, ℕ, suc, ◌-◌, length, take, drop}
use Rattle.std.proofs.Common.{sym, ◌∙◌, arith, length-append}
use Rattle.std.proofs.Math.Path.{ap, subst}
use Rattle.std.proofs.Math.Nat.{sub-zero}
use Rattle.std.proofs.Math.Seq.{take-length, take-append_seam}
use Rattle.roles.specs.Rule.{Rule}
use Rattle.order.specs.Shape as Order
use Rattle.order.specs.Shape.End.{initial, final}
use Rattle.order.specs.Shape.Shape.{transitive, symmetric, row}
use Rattle.order.specs.ShapeTests.{shape-led}
use Rattle.order.specs.ShapeLaws.{View, view}
use Rattle.order.specs.ShapeLaws.View.{is_transitive, is_symmetric, is_led, is_trailed, is_plain}
use Rattle.rule_shapes.specs.declared.Shape.{Shape}
use Rattle.rule_shapes.specs.declared.Shape.TheVariants.{Transitive, Symmetric, Row}
use Rattle.rule_shapes.specs.FoundShape.{in_part, shape_found, shape_in, Within}

-- the code's answers, by the rule's shape
module _ (w : List ℕ) (r : ℕ) where
  found : (o : Order.Shape) → Order.shape (record { left = w; right = r }) ≡ o → in_part (length w) o ≡ shape_found w r
  unfolding shape_found
  found o e = ap (in_part (length w)) (sym e)

  pub found-transitive : Order.shape (record { left = w; right = r }) ≡ transitive → Transitive ≡ shape_found w r
  found-transitive e = found transitive e

  pub found-symmetric : Order.shape (record { left = w; right = r }) ≡ symmetric → Symmetric ≡ shape_found w r
  found-symmetric e = found symmetric e

  pub found_plain : (sh : Shape) → sh ≡ Row (record { from = false; to = true; start = 0; size = length w })
      → Order.shape (record { left = w; right = r }) ≡ row initial final w → sh ≡ shape_found w r
  found_plain sh q e =
      q ∙ ap (λ (k : ℕ). Row (record { from = false; to = true; start = 0; size = k })) (sym (sub-zero (length w)))
      ∙ found (row initial final w) e

  pub found-led : Order.shape (record { left = w; right = r }) ≡ row final final (drop 1 w)
      → Row (record { from = true; to = true; start = 1; size = length w - 1 }) ≡ shape_found w r
  found-led e = found (row final final (drop 1 w)) e

  pub found_trailed : Order.shape (record { left = w; right = r }) ≡ row initial initial (take (length w - 1) w)
      → Row (record { from = false; to = false; start = 0; size = length w - 1 }) ≡ shape_found w r
  found_trailed e = found (row initial initial (take (length w - 1) w)) e

-- what an answer says: the rule's shape, with inner roles within the left side
in_part-shape : (ρ : Rule) {o : Order.Shape} → View ρ o → shape_in ρ.left (in_part (length ρ.left) o) ≡ o
in_part-shape ρ (is_transitive e) = refl
in_part-shape ρ (is_symmetric e) = refl
in_part-shape ρ (is_led inner e some apart) =
    let k : suc (length inner) - 1 ≡ length inner = omega arith in
    ap (row final final) (rw e (rw k (take-length inner)))
in_part-shape ρ (is_trailed inner e some apart first) =
    let k : length (inner ++ (ρ.right ∷ [])) - 1 ≡ length inner = omega (arith, length-append inner (ρ.right ∷ [])) in
    ap (row initial initial) (rw e (rw k (take-append_seam inner (ρ.right ∷ []))))
in_part-shape ρ (is_plain a b c f) = ap (row initial final) (rw sub-zero (take-length ρ.left))

in_part-within : (ρ : Rule) {o : Order.Shape} → View ρ o → Within ρ.left (in_part (length ρ.left) o)
in_part-within ρ (is_transitive e) = tt
in_part-within ρ (is_symmetric e) = tt
in_part-within ρ (is_led inner e some apart) = rw e (omega arith)
in_part-within ρ (is_trailed inner e some apart first) = omega arith
in_part-within ρ (is_plain a b c f) = omega arith

module _ (w : List ℕ) (r : ℕ) (sh : Shape) (d : sh ≡ shape_found w r) where
  pub found-shape : shape_in w sh ≡ Order.shape (record { left = w; right = r })
  unfolding shape_found
  found-shape = ap (shape_in w) d ∙ in_part-shape _ (view (record { left = w; right = r }))

  pub found_within : Within w sh
  unfolding shape_found
  found_within = subst (Within w) (sym d) (in_part-within _ (view (record { left = w; right = r })))

-- the inner roles of R R R to R stand at two places of its left side: the answer names the last two
pub found_thrice : (r : ℕ) → shape_found (r ∷ r ∷ r ∷ []) r ≡ Row (record { from = true; to = true; start = 1; size = 2 })
found_thrice r = sym (found-led (r ∷ r ∷ r ∷ []) r (shape-led (r ∷ r ∷ r ∷ []) r (omega arith) refl (λ e f. omega arith)))
