-- Linking the rules of an index, from the last to the first: each goes in front of the rules of its right name, which has a rule of its kind then.
use Rattle.std.specs.Prelude.{Bool, true, false, ◌||◌, List, ◌⊎◌, ◌≡◌, refl, ℕ, zero, suc, ◌+◌, ◌-◌, ◌*◌, ◌<◌, ◌≤◌, length, get_or, set, drop}
use Rattle.std.proofs.Common.{inl, inr, sym, ap, ◌∙◌, arith, length-set, drop_of_length-le, get_or-set_same, get_or-set_other}
use mir.Val.{bool_byte}
use Rattle.base.specs.Truth.{eq_or_ne}
use Rattle.roles.specs.Role.{Chain, name}
use Rattle.roles.specs.RoleLaws.{name_below}
use Rattle.roles.specs.Rule.{Rule}
use Rattle.order.specs.Shape.{shape}
use Rattle.tables.specs.Tables.{rules_of, own_shapes}
use Rattle.rule_index.specs.RuleLinks.{rule, Link, link-none, link_here, link-other, link-skip, own_at}
use Rattle.rule_index.specs.RuleKinds.{has, is_kind, has-facing, has-none}
use Rattle.rule_index.specs.RuleIndex.{right_in, kind_in, next_in, first_in, flag_in, shape_by, Recorded}
use Rattle.rule_index.specs.Filling.{Linkable, Linking}
use Rattle.rule_index.specs.FillingLaws.{length_two, two-other, two-first, two-second}

-- what a rule's kind says of its shape
kind-same : (κ f t : ℕ) (w : Chain) (n : ℕ) → n ≤ 1 → n ≡ κ → is_kind n (shape_by κ f t w) ≡ true
kind-same zero f t w zero h e = refl
kind-same zero f t w (suc n) h e = absurd (let g : ⊥ = omega arith in g)
kind-same (suc zero) f t w zero h e = absurd (let g : ⊥ = omega arith in g)
kind-same (suc zero) f t w (suc n) h e = refl
kind-same (suc (suc κ)) f t w n h e = absurd (let g : ⊥ = omega arith in g)

kind-other : (κ f t : ℕ) (w : Chain) (n : ℕ) → n ≤ 1 → (n ≡ κ → ⊥) → is_kind n (shape_by κ f t w) ≡ false
kind-other zero f t w zero h d = absurd (d refl)
kind-other zero f t w (suc n) h d = refl
kind-other (suc zero) f t w zero h d = refl
kind-other (suc zero) f t w (suc n) h d = absurd (d (omega arith))
kind-other (suc (suc κ)) f t w zero h d = refl
kind-other (suc (suc κ)) f t w (suc n) h d = refl

-- links: none past the last rule, and one rule more, in front of the others of its right name
module _ {ρs : List Rule} {n : ℕ} {before : List ℕ} (l : Linkable ρs n before) where
  few : length ρs ≤ 256
  few = rw (← l.count) l.few

  no_kind : (κ r : ℕ) → has κ (own_shapes (drop n ρs) r) ≡ false
  unfolding rules_of
  no_kind κ r = rw (drop_of_length-le ρs {i = n} (omega (arith, l.count))) (has-none κ)

  pub linking_none : Linking ρs n before before
  linking_none =
      record {
        size = l.size;
        kept = λ m p q. refl;
        level = λ x p. refl;
        first = λ x p. rw (l.count, l.none x p) (link-none ρs x few);
        next = λ j p q. absurd (let z : ⊥ = omega (arith, l.count) in z);
        kinds = λ κ r p q. rw (l.clear κ (name r) p (name_below r 64 q), no_kind κ r) refl;
      }

  module _ {ix : List ℕ} {after : ℕ} (some : 0 < after) (top : after ≤ n) (t : Linking ρs after before ix) where
    h : after - 1 < length ρs
    h = omega (arith, l.count)

    entry : Recorded (rule ρs (after - 1)) before (after - 1)
    entry = l.entry (after - 1) (omega arith)

    -- the right role of the rule before, and its kind
    role : right_in ix (after - 1) ≡ (rule ρs (after - 1)).right
    role = t.kept (14 * (after - 1)) (omega (arith, l.few)) (λ j e. omega arith) ∙ entry.right

    kind : kind_in ix (after - 1) ≡ kind_in before (after - 1)
    kind = t.kept (14 * (after - 1) + 1) (omega (arith, l.few)) (λ j e. omega arith)

    pub role-small : right_in ix (after - 1) < 128
    role-small = rw role (l.small (after - 1) (omega arith))

    pub kind-small : kind_in ix (after - 1) ≤ 2
    kind-small = rw kind entry.kind

    module _ {x : ℕ} (q : x ≡ name (right_in ix (after - 1))) where
      e : x ≡ name (rule ρs (after - 1)).right
      e = q ∙ ap name role

      pub name-small : x < 64
      unfolding name
      name-small = omega (arith, q, role-small)

      abbrev two : List ℕ
      two = set (set ix (14 * (after - 1) + 5) (first_in ix x)) (3584 + x) (after - 1)

      abbrev new : List ℕ
      new = set two (3712 + (64 * kind_in ix (after - 1) + x)) 1

      size : length two ≡ 3904
      size = length_two ix _ _ _ _ ∙ t.size

      elsewhere : (m : ℕ) → (m ≡ 14 * (after - 1) + 5 → ⊥) → (m ≡ 3584 + x → ⊥) → get_or two m 0 ≡ get_or ix m 0
      elsewhere = two-other ix (14 * (after - 1) + 5) (3584 + x) (first_in ix x) (after - 1)

      unflagged : (m : ℕ) → m < 3712 → get_or new m 0 ≡ get_or two m 0
      unflagged m p = get_or-set_other two (3712 + (64 * kind_in ix (after - 1) + x)) m 1 0 (omega arith)

      later : (y : ℕ) → y < 64 → Link ρs y (suc (after - 1)) (first_in ix y)
      later y p = let a : suc (after - 1) ≡ after = omega arith in rw a (t.first y p)

      first_of : (y : ℕ) → y < 64 → (y ≡ x) ⊎ (y ≡ x → ⊥) → Link ρs y (after - 1) (first_in two y)
      first_of y p (inl i) =
          rw (i, two-second ix (14 * (after - 1) + 5) (3584 + x) _ (after - 1) (omega (arith, t.size)), e) (link_here ρs few (after - 1) h)
      first_of y p (inr i) =
          rw (elsewhere (3584 + y) (omega (arith, few, h)) (omega arith))
          (link-other ρs few (after - 1) h y (first_in ix y) (λ w. i (sym w ∙ sym e)) (later y p))

      next_of : (j : ℕ) → after - 1 ≤ j → j < length ρs → (j ≡ after - 1) ⊎ (j ≡ after - 1 → ⊥)
          → Link ρs (name (rule ρs j).right) (suc j) (next_in two j)
      next_of j p b (inl i) =
          rw (i, two-first ix (14 * (after - 1) + 5) (3584 + x) _ (after - 1) (omega (arith, t.size, few, h)) (omega (arith, few, h)), ← e)
          (later x name-small)
      next_of j p b (inr i) = rw (elsewhere (14 * j + 5) (omega arith) (omega (arith, few))) (t.next j (omega arith) b)

      -- a flag that is not set now, and whether the rules from this one on have its kind
      other_flag : (κ y : ℕ) → y < 64 → ((κ ≡ kind_in ix (after - 1)) × (y ≡ x) → ⊥) → flag_in new κ y ≡ flag_in ix κ y
      other_flag κ y p d =
          get_or-set_other two (3712 + (64 * kind_in ix (after - 1) + x)) (3712 + (64 * κ + y)) 1 0
          (λ g. d (omega (arith, g, name-small), omega (arith, g, name-small)))
          ∙ elsewhere (3712 + (64 * κ + y)) (omega (arith, few, h)) (omega (arith, name-small))

      module _ (κ : ℕ) (small : κ ≤ 1) (r : ℕ) (p : r < 128) where
        was : flag_in ix κ (name r) ≡ bool_byte (has κ (own_shapes (drop (suc (after - 1)) ρs) r))
        was = let a : suc (after - 1) ≡ after = omega arith in rw a (t.kinds κ r small p)

        there : name (rule ρs (after - 1)).right ≡ name r → (b : Bool) → is_kind κ (shape (rule ρs (after - 1))) ≡ b
            → has κ (own_shapes (drop (after - 1) ρs) r) ≡ (b || has κ (own_shapes (drop (suc (after - 1)) ρs) r))
        there g b i =
            ap (has κ) (own_at ρs few (after - 1) h r g (l.apart (after - 1) (omega arith)))
            ∙ has-facing κ r (rule ρs (after - 1)) (own_shapes (drop (suc (after - 1)) ρs) r) ∙ rw i refl

        kind_of : (name r ≡ x) ⊎ (name r ≡ x → ⊥) → (κ ≡ kind_in ix (after - 1)) ⊎ (κ ≡ kind_in ix (after - 1) → ⊥)
            → flag_in new κ (name r) ≡ bool_byte (has κ (own_shapes (drop (after - 1) ρs) r))
        kind_of (inl g) (inl i) =
            rw (there (sym e ∙ sym g) true (ap (is_kind κ) (sym entry.shaped) ∙ kind-same _ _ _ _ κ small (i ∙ kind)), i, g)
            (get_or-set_same two (3712 + (64 * kind_in ix (after - 1) + x)) 1 0 (omega (arith, size, kind-small, name-small)))
        kind_of (inl g) (inr i) =
            rw (there (sym e ∙ sym g) false (ap (is_kind κ) (sym entry.shaped) ∙ kind-other _ _ _ _ κ small (λ c. i (c ∙ sym kind))))
            (other_flag κ (name r) (name_below r 64 p) (λ c. i c.0) ∙ was)
        kind_of (inr g) i =
            rw (link-skip ρs few (after - 1) h r (λ c. g (sym c ∙ sym e))) (other_flag κ (name r) (name_below r 64 p) (λ c. g c.1) ∙ was)

      pub linking_more : Linking ρs (after - 1) before new
      linking_more =
          record {
            size = length-set two _ 1 ∙ size;
            kept = λ m p w. unflagged m (omega arith) ∙ elsewhere m (w (after - 1)) (omega arith) ∙ t.kept m p w;
            level = λ y p. unflagged (3648 + y) (omega arith) ∙ elsewhere (3648 + y) (omega (arith, few, h)) (omega (arith, name-small)) ∙ t.level y p;
            first = λ y p. rw (unflagged (3584 + y) (omega arith)) (first_of y p (eq_or_ne y x));
            next = λ j p b. rw (unflagged (14 * j + 5) (omega (arith, few))) (next_of j p b (eq_or_ne j (after - 1)));
            kinds = λ κ r p g. kind_of κ p r g (eq_or_ne (name r) x) (eq_or_ne κ (kind_in ix (after - 1)));
          }
