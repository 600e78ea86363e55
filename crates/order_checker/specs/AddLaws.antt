-- What adding a rule finds and leaves, by the rule's shape.
use Rattle.std.specs.Prelude.{Bool, ◌||◌, ◌&&◌, List, [], ◌≡◌, ℕ, ◌+◌, ◌-◌, ◌<◌, ◌≤◌, length, get_or, take, drop}
use Rattle.std.proofs.Math.Bool.{true, false}
use Rattle.std.proofs.Common.{true≢false, sym, ap, ◌∙◌, subst, eqb-true}
use Rattle.std.proofs.Math.Path.{refl}
use Rattle.std.proofs.Math.Nat.{add-sub_cancel_left}
use Rattle.std.specs.Int.Bits.{bit_or}
use Rattle.std.proofs.Math.Dec.{eqb}
use Rattle.roles.specs.Role.{Chain, name}
use Rattle.roles.specs.Rule.{Rule}
use Rattle.order.specs.Shape as Order
use Rattle.order.specs.Shape.{inner_of}
use Rattle.order.specs.Closure.{reaches, with_inner, with_rule, clashes}
use Rattle.name_sets.specs.Mask.{has, Holds}
use Rattle.name_sets.specs.MaskLaws.{has_or}
use Rattle.order_masks.specs.AbsorbLaws.{holds-empty}
use Rattle.rule_shapes.specs.declared.Row.{Row as Inner}
use Rattle.rule_shapes.specs.declared.Shape.{Shape}
use Rattle.rule_shapes.specs.declared.Shape.TheVariants.{Symmetric, Row}
use Rattle.rule_shapes.specs.declared.Shape.TheVariants.{Transitive as Transitive-rule}
use Rattle.rule_shapes.specs.FoundShape.{shape_found, shape_in, Within}
use Rattle.rule_shapes.specs.FoundShapeLaws.{found-shape, found_within}
use Rattle.refusals.specs.declared.check.Check.TheVariants.{Passed, Failed}
use Rattle.order_checker.specs.Gather.{Transitive, Added}

-- a mask holds what the inner roles of a rule reach, and a name below 64 is its right one
pub record Reached (ρ : Rule) (masks : List ℕ) (mask over : ℕ) : Type 0 where
  pub reach : (lower : ℕ → ℕ → Bool) → Holds masks lower → (y : ℕ) → y < 64 → has mask y ≡ reaches lower (inner_of (Order.shape ρ)) y
  pub right : over ≡ name ρ.right
  pub small : over < 64

-- the inner roles of a rule by the shape that the code finds: none, or the part that a row names
module _ (w : Chain) (r : ℕ) {sh : Shape} (d : sh ≡ shape_found w r) where
  pub no_inner : ((row : Inner) → sh ≡ Row row → ⊥) → inner_of (Order.shape (record { left = w; right = r })) ≡ []
  no_inner h = ap inner_of (sym (found-shape w r sh d)) ∙ by_shape sh h
    where
      by_shape : (sh : Shape) → ((row : Inner) → sh ≡ Row row → ⊥) → inner_of (shape_in w sh) ≡ []
      by_shape Transitive-rule n = refl
      by_shape Symmetric n = refl
      by_shape (Row row) n = absurd (n row refl)

  module _ {row : Inner} (e : sh ≡ Row row) where
    pub row_within : row.start + row.size ≤ length w
    row_within = subst (Within w) e (found_within w r sh d)

    row-inner : take (row.start + row.size - row.start) (drop row.start w) ≡ inner_of (Order.shape (record { left = w; right = r }))
    row-inner =
        ap (λ (k : ℕ). take k (drop row.start w)) (add-sub_cancel_left row.start row.size)
        ∙ ap inner_of (sym (ap (shape_in w) e) ∙ found-shape w r sh d)

    pub row-reached : {masks : List ℕ} {mask over : ℕ}
        → ((lower : ℕ → ℕ → Bool) → Holds masks lower → (y : ℕ) → y < 64
        → has mask y ≡ reaches lower (take (row.start + row.size - row.start) (drop row.start w)) y)
        → over ≡ name r → over < 64 → Reached (record { left = w; right = r }) masks mask over
    row-reached h o s =
        record { reach = λ lower k y p. h lower k y p ∙ ap (λ (v : Chain). reaches lower v y) row-inner; right = o; small = s }

-- what adding a rule answers, and the masks that it leaves: there are no inner roles
pub added_none : {ρ : Rule} {masks : List ℕ} → inner_of (Order.shape ρ) ≡ [] → Added ρ masks Passed masks
unfolding reaches
added_none {ρ} {masks} e =
    record {
      answer = λ lower t h. rw e refl;
      leaves =
          λ lower t h f.
          subst (λ (v : Chain). Holds masks (with_inner lower (name ρ.right) v)) (sym e) (holds-empty masks lower (name ρ.right) h);
    }

-- there are some, by the mask of what they reach
module _ {ρ : Rule} {masks : List ℕ} {mask over : ℕ} (known : Reached ρ masks mask over) where
  tested : {lower : ℕ → ℕ → Bool} → Holds masks lower → {t : Bool} → has mask over ≡ t → clashes lower ρ ≡ t
  tested {lower} h k = rw (← known.right) (sym (known.reach lower h over known.small) ∙ k)

  with_right : {new : List ℕ} (lower : ℕ → ℕ → Bool) → Holds new (with_inner lower over (inner_of (Order.shape ρ))) → Holds new (with_rule lower ρ)
  with_right {new} lower = subst (λ (x : ℕ). Holds new (with_inner lower x (inner_of (Order.shape ρ)))) known.right

  pub added_clash : {new : List ℕ} → has mask over ≡ true → Added ρ masks Failed new
  added_clash k =
      record {
        answer = λ lower t h. rw (tested h k) refl;
        leaves = λ lower t h f. absurd (true≢false (sym (tested h k) ∙ f));
      }

  pub added_extends : {new : List ℕ} → has mask over ≡ false
      → ((order : ℕ → ℕ → Bool) (v : Chain) → Holds masks order → ((y : ℕ) → y < 64 → has mask y ≡ reaches order v y) → Holds new (with_inner order over v))
      → Added ρ masks Passed new
  added_extends k absorbed =
      record {
        answer = λ lower t h. rw (tested h k) refl;
        leaves = λ lower t h f. with_right lower (absorbed lower (inner_of (Order.shape ρ)) h (known.reach lower h));
      }

  -- what the inner roles reach is below the right name already, and so below all names above it
  module _ (seen : bit_or mask (get_or masks over 0) ≡ get_or masks over 0) {lower : ℕ → ℕ → Bool} (t : Transitive lower) (h : Holds masks lower) where
    below : (y : ℕ) → y < 64 → reaches lower (inner_of (Order.shape ρ)) y ≡ true → lower y over ≡ true
    below y p r =
        sym (h.bits over y known.small p) ∙ ap (λ (m : ℕ). has m y) (sym seen) ∙ has_or mask (get_or masks over 0) y
        ∙ rw (known.reach lower h y p, r) refl

    nothing-new : (x y : ℕ) → y < 64 → lower y x ≡ with_inner lower over (inner_of (Order.shape ρ)) y x
    unfolding with_inner
    nothing-new x y p = by_tests (lower y x) (eqb x over) (lower over x) (reaches lower (inner_of (Order.shape ρ)) y) refl refl refl refl
      where
        by_tests : (a b c d : Bool) → lower y x ≡ a → eqb x over ≡ b → lower over x ≡ c → reaches lower (inner_of (Order.shape ρ)) y ≡ d
            → a ≡ (a || ((b || c) && d))
        by_tests true b c d f g i j = refl
        by_tests false true c true f g i j =
            absurd (true≢false (sym (ap (lower y) (eqb-true x over g) ∙ below y p j) ∙ f))
        by_tests false false true true f g i j = absurd (true≢false (sym (t y over x (below y p j) i) ∙ f))
        by_tests false false false true f g i j = refl
        by_tests false true c false f g i j = refl
        by_tests false false true false f g i j = refl
        by_tests false false false false f g i j = refl

    still-holds : Holds masks (with_inner lower over (inner_of (Order.shape ρ)))
    still-holds = record { bits = λ x y p q. h.bits x y p q ∙ nothing-new x y q }

  pub added-known : has mask over ≡ false → bit_or mask (get_or masks over 0) ≡ get_or masks over 0 → Added ρ masks Passed masks
  added-known k seen =
      record {
        answer = λ lower t h. rw (tested h k) refl;
        leaves = λ lower t h f. with_right lower (still-holds seen t h);
      }
