-- The steps of filling an index, store by store: each store keeps what the step is to leave.
use Rattle.std.specs.Prelude.{List, ◌⊎◌, ◌≡◌, refl, ℕ, zero, suc, ◌+◌, ◌-◌, ◌*◌, ◌<◌, ◌≤◌, length, get_or, set}
use Rattle.std.proofs.Common.{inl, inr, sym, ap, ◌∙◌, zero-add, arith, length-set, ext_get_or, get_or-set_same, get_or-set_other}
use Rattle.base.specs.Part.{part, get_or_part, length_part}
use Rattle.base.specs.Truth.{eq_or_ne}
use Rattle.roles.specs.Role.{Chain}
use Rattle.roles.specs.Rule.{Rule}
use Rattle.order.specs.Shape.{shape}
use Rattle.book_format.specs.Place.{rule_at, rule_place}
use Rattle.rule_shapes.specs.declared.Shape.{Shape}
use Rattle.rule_shapes.specs.FoundShape.{shape_found}
use Rattle.rule_shapes.specs.FoundShapeLaws.{found-shape, found_within}
use Rattle.rule_shapes.specs.declared.numbers.Numbers.{Numbers}
use Rattle.rule_shapes.specs.ShapeNumbers.{numbers}
use Rattle.rule_index.specs.RuleIndex.{right_in, kind_in, from_in, to_in, size_in, first_in, level_in, flag_in, shape_by, Recorded}
use Rattle.rule_index.specs.NumberedShape.{Says, numbers_say}
use Rattle.rule_index.specs.Filling.{Copied, Entered, Entering, Started}

-- the numbers of a rule, one by one
recorded : (ρ : Rule) (ix : List ℕ) (k kind from to z : ℕ) (inner : Chain) → right_in ix k ≡ ρ.right → kind_in ix k ≡ kind → from_in ix k ≡ from
    → to_in ix k ≡ to → size_in ix k ≡ z → part ix (14 * k + 6) z ≡ inner → shape_by kind from to inner ≡ shape ρ
    → kind ≤ 2 → from ≤ 1 → to ≤ 1 → z ≤ 8 → Recorded ρ ix k
recorded ρ ix k kind from to z inner r a b c d e s p q t u =
    record {
      right = r;
      shaped = (λ i. shape_by (a i) (b i) (c i) ((ap (part ix (14 * k + 6)) d ∙ e) i)) ∙ s;
      kind = rw a p;
      from = rw b q;
      to = rw c t;
      size = rw d u;
    }

same-part : (l m : List ℕ) (a b z : ℕ) → a + z ≤ length l → b + z ≤ length m → ((j : ℕ) → j < z → get_or l (a + j) 0 ≡ get_or m (b + j) 0)
    → part l a z ≡ part m b z
same-part l m a b z p q h =
    ext_get_or 0 (part l a z) (part m b z) (length_part l a z p ∙ sym (length_part m b z q))
    (λ j r. let t : j < z = rw (length_part l a z p) at r in get_or_part l a z j t ∙ h j t ∙ sym (get_or_part m b z j t))

-- where all of them but the link are as before, they say the same
pub recorded_kept : {ρ : Rule} (k : ℕ) {before ix : List ℕ} → k < 256 → length before ≡ 3904 → length ix ≡ 3904
    → ((m : ℕ) → 14 * k ≤ m → m < 14 * k + 14 → (m ≡ 14 * k + 5 → ⊥) → get_or ix m 0 ≡ get_or before m 0) → Recorded ρ before k → Recorded ρ ix k
recorded_kept {ρ} k {before} {ix} h a b same r =
    recorded ρ ix k _ _ _ _ _ (same (14 * k) (omega arith) (omega arith) (omega arith) ∙ r.right)
    (same (14 * k + 1) (omega arith) (omega arith) (omega arith)) (same (14 * k + 2) (omega arith) (omega arith) (omega arith))
    (same (14 * k + 3) (omega arith) (omega arith) (omega arith)) (same (14 * k + 4) (omega arith) (omega arith) (omega arith))
    (same-part ix before (14 * k + 6) (14 * k + 6) (size_in before k) (omega (arith, r.size)) (omega (arith, r.size))
    (λ j p. same (14 * k + 6 + j) (omega arith) (omega (arith, r.size)) (omega arith)))
    r.shaped r.kind r.from r.to r.size

-- inner roles, one more
module _ {left : List ℕ} {start k : ℕ} (h : k < 256) where
  pub copied_none : {ix : List ℕ} → length ix ≡ 3904 → Copied left start k 0 ix ix
  copied_none l = record { size = l; kept = λ m p. refl; inner = λ j p. absurd (let f : ⊥ = omega arith in f) }

  pub copied_more : {before ix : List ℕ} {i : ℕ} → i < 8 → Copied left start k i before ix
      → Copied left start k (i + 1) before (set ix (14 * k + 6 + i) (get_or left (start + i) 0))
  copied_more {before} {ix} {i} p t =
      record {
        size = rw length-set t.size;
        kept = λ m q. other m (omega arith) ∙ t.kept m q;
        inner = λ j q. by_place j q (eq_or_ne j i);
      }
    where
      new : List ℕ
      new = set ix (14 * k + 6 + i) (get_or left (start + i) 0)

      other : (m : ℕ) → (m ≡ 14 * k + 6 + i → ⊥) → get_or new m 0 ≡ get_or ix m 0
      other m = get_or-set_other ix (14 * k + 6 + i) m _ 0

      by_place : (j : ℕ) → j < i + 1 → (j ≡ i) ⊎ (j ≡ i → ⊥) → get_or new (14 * k + 6 + j) 0 ≡ get_or left (start + j) 0
      by_place j q (inl e) = rw e (get_or-set_same ix (14 * k + 6 + i) _ 0 (omega (arith, t.size)))
      by_place j q (inr e) = other (14 * k + 6 + j) (omega arith) ∙ t.inner j (omega arith)

-- the numbers of the shape that is found, with the inner roles, are the rule's
module _ {left : List ℕ} (right : ℕ) {sh : Shape} (f : sh ≡ shape_found left right) {n : Numbers} (g : n ≡ numbers sh) where
  pub found-says : Says left sh n
  found-says = rw g (numbers_say left sh (found_within left right sh f))

  pub copied_all : length left ≤ 8 → {k : ℕ} → k < 256 → {before ix : List ℕ} → length before ≡ 3904 → {i : ℕ} → n.size ≤ i
      → Copied left n.start k i
      (set (set (set (set (set before (14 * k) right) (14 * k + 1) n.kind) (14 * k + 2) n.from) (14 * k + 3) n.to) (14 * k + 4) n.size) ix
      → Entered (record { left = left; right = right }) k before ix
  copied_all h {k} p {before} {ix} l {i} q t =
      record {
        size = t.size;
        kept =
            λ m r.
            t.kept m (omega arith) ∙ other_4 m (omega arith) ∙ other_3 m (omega arith) ∙ other_2 m (omega arith) ∙ other_1 m (omega arith)
            ∙ get_or-set_other before (14 * k) m right 0 (omega arith);
        entry =
            recorded _ ix k _ _ _ _ _
            (t.kept (14 * k) (omega arith) ∙ other_4 (14 * k) (omega arith) ∙ other_3 (14 * k) (omega arith) ∙ other_2 (14 * k) (omega arith)
            ∙ other_1 (14 * k) (omega arith) ∙ get_or-set_same before (14 * k) right 0 (omega arith))
            (t.kept (14 * k + 1) (omega arith) ∙ other_4 (14 * k + 1) (omega arith) ∙ other_3 (14 * k + 1) (omega arith)
            ∙ other_2 (14 * k + 1) (omega arith) ∙ get_or-set_same ix₁ (14 * k + 1) n.kind 0 (simp length-set (omega arith)))
            (t.kept (14 * k + 2) (omega arith) ∙ other_4 (14 * k + 2) (omega arith) ∙ other_3 (14 * k + 2) (omega arith)
            ∙ get_or-set_same ix₂ (14 * k + 2) n.from 0 (simp length-set (omega arith)))
            (t.kept (14 * k + 3) (omega arith) ∙ other_4 (14 * k + 3) (omega arith)
            ∙ get_or-set_same ix₃ (14 * k + 3) n.to 0 (simp length-set (omega arith)))
            (t.kept (14 * k + 4) (omega arith) ∙ get_or-set_same ix₄ (14 * k + 4) n.size 0 (simp length-set (omega arith)))
            (same-part ix left (14 * k + 6) n.start n.size (omega (arith, found-says.within, t.size)) found-says.within
            (λ j r. t.inner j (omega arith)))
            (found-says.shaped ∙ found-shape left right sh f) found-says.kind found-says.from found-says.to
            (omega (arith, found-says.within));
      }
    where
      ix₁ : List ℕ
      ix₁ = set before (14 * k) right

      ix₂ : List ℕ
      ix₂ = set ix₁ (14 * k + 1) n.kind

      ix₃ : List ℕ
      ix₃ = set ix₂ (14 * k + 2) n.from

      ix₄ : List ℕ
      ix₄ = set ix₃ (14 * k + 3) n.to

      other_1 : (m : ℕ) → (m ≡ 14 * k + 1 → ⊥) → get_or ix₂ m 0 ≡ get_or ix₁ m 0
      other_1 m = get_or-set_other ix₁ (14 * k + 1) m n.kind 0

      other_2 : (m : ℕ) → (m ≡ 14 * k + 2 → ⊥) → get_or ix₃ m 0 ≡ get_or ix₂ m 0
      other_2 m = get_or-set_other ix₂ (14 * k + 2) m n.from 0

      other_3 : (m : ℕ) → (m ≡ 14 * k + 3 → ⊥) → get_or ix₄ m 0 ≡ get_or ix₃ m 0
      other_3 m = get_or-set_other ix₃ (14 * k + 3) m n.to 0

      other_4 : (m : ℕ) → (m ≡ 14 * k + 4 → ⊥) → get_or (set ix₄ (14 * k + 4) n.size) m 0 ≡ get_or ix₄ m 0
      other_4 m = get_or-set_other ix₄ (14 * k + 4) m n.size 0

-- rules, one more
pub entering_none : {s ix : List ℕ} → length ix ≡ 3904 → Entering s 0 ix
entering_none h = record { size = h; entry = λ k p. absurd (let f : ⊥ = omega arith in f) }

pub entering_more : {s before ix : List ℕ} {k : ℕ} {ρ : Rule} → k < 256 → ρ ≡ rule_at s (rule_place s k) → Entering s k before → Entered ρ k before ix
    → Entering s (k + 1) ix
entering_more {s} {before} {ix} {k} {ρ} h e t n = record { size = n.size; entry = λ j p. by_place j p (eq_or_ne j k) }
  where
    by_place : (j : ℕ) → j < k + 1 → (j ≡ k) ⊎ (j ≡ k → ⊥) → Recorded (rule_at s (rule_place s j)) ix j
    by_place j p (inl q) = rw (q, ← e) n.entry
    by_place j p (inr q) =
        recorded_kept j (omega arith) t.size n.size (λ m a b c. n.kept m (omega arith)) (t.entry j (omega arith))

-- two stores: what stands elsewhere, at the first and at the second
module _ (ix : List ℕ) (i j v w : ℕ) where
  pub length_two : length (set (set ix i v) j w) ≡ length ix
  length_two = simp length-set

  pub two-other : (m : ℕ) → (m ≡ i → ⊥) → (m ≡ j → ⊥) → get_or (set (set ix i v) j w) m 0 ≡ get_or ix m 0
  two-other m p q = get_or-set_other (set ix i v) j m w 0 q ∙ get_or-set_other ix i m v 0 p

  pub two-first : i < length ix → (i ≡ j → ⊥) → get_or (set (set ix i v) j w) i 0 ≡ v
  two-first h q = get_or-set_other (set ix i v) j i w 0 q ∙ get_or-set_same ix i v 0 h

  pub two-second : j < length ix → get_or (set (set ix i v) j w) j 0 ≡ w
  two-second h = get_or-set_same (set ix i v) j w 0 (rw length-set h)

-- names with no rule and their levels, one more
pub started_none : {levels ix : List ℕ} → length ix ≡ 3904 → Started levels 0 ix ix
started_none h =
    record {
      size = h;
      kept = λ i p. refl;
      first = λ x p. absurd (let f : ⊥ = omega arith in f);
      level = λ x p. absurd (let f : ⊥ = omega arith in f);
      clear = λ κ x q p. absurd (let f : ⊥ = omega arith in f);
    }

pub started_more : {levels before ix : List ℕ} {x : ℕ} → x < 64 → Started levels x before ix
    → Started levels (x + 1) before (set (set (set (set ix (3584 + x) 256) (3648 + x) (get_or levels x 0 - 1)) (3712 + x) 0) (3776 + x) 0)
started_more {levels} {before} {ix} {x} h l =
    record {
      size = length_two two _ _ _ _ ∙ length_two ix _ _ _ _ ∙ l.size;
      kept = λ i p. unflagged i (omega arith) ∙ elsewhere i (omega arith) (omega arith) ∙ l.kept i p;
      first = λ y p. unflagged (3584 + y) (omega arith) ∙ first_of y p (eq_or_ne y x);
      level = λ y p. unflagged (3648 + y) (omega arith) ∙ level_of y p (eq_or_ne y x);
      clear = λ κ y q p. clear_of κ y q p (eq_or_ne y x);
    }
  where
    two : List ℕ
    two = set (set ix (3584 + x) 256) (3648 + x) (get_or levels x 0 - 1)

    new : List ℕ
    new = set (set two (3712 + x) 0) (3776 + x) 0

    elsewhere : (m : ℕ) → (m ≡ 3584 + x → ⊥) → (m ≡ 3648 + x → ⊥) → get_or two m 0 ≡ get_or ix m 0
    elsewhere = two-other ix (3584 + x) (3648 + x) 256 (get_or levels x 0 - 1)

    apart : (m : ℕ) → (m ≡ 3712 + x → ⊥) → (m ≡ 3776 + x → ⊥) → get_or new m 0 ≡ get_or two m 0
    apart = two-other two (3712 + x) (3776 + x) 0 0

    unflagged : (m : ℕ) → m < 3712 → get_or new m 0 ≡ get_or two m 0
    unflagged m p = apart m (omega arith) (omega arith)

    first_of : (y : ℕ) → y < x + 1 → (y ≡ x) ⊎ (y ≡ x → ⊥) → first_in two y ≡ 256
    first_of y p (inl e) = rw e (two-first ix (3584 + x) (3648 + x) 256 _ (omega (arith, l.size)) (omega arith))
    first_of y p (inr e) = elsewhere (3584 + y) (omega arith) (omega arith) ∙ l.first y (omega arith)

    level_of : (y : ℕ) → y < x + 1 → (y ≡ x) ⊎ (y ≡ x → ⊥) → level_in two y ≡ get_or levels y 0 - 1
    level_of y p (inl e) = rw e (two-second ix (3584 + x) (3648 + x) 256 _ (omega (arith, l.size)))
    level_of y p (inr e) = elsewhere (3648 + y) (omega arith) (omega arith) ∙ l.level y (omega arith)

    size : length two ≡ 3904
    size = length_two ix _ _ _ _ ∙ l.size

    clear-here : (κ : ℕ) → κ ≤ 1 → flag_in new κ x ≡ 0
    clear-here zero q = rw zero-add (two-first two (3712 + x) (3776 + x) 0 0 (omega (arith, size)) (omega arith))
    clear-here (suc zero) q = let g : 3712 + (64 * 1 + x) ≡ 3776 + x = omega arith in rw g (two-second two (3712 + x) (3776 + x) 0 0 (omega (arith, size)))
    clear-here (suc (suc κ)) q = absurd (let f : ⊥ = omega arith in f)

    clear_of : (κ y : ℕ) → κ ≤ 1 → y < x + 1 → (y ≡ x) ⊎ (y ≡ x → ⊥) → flag_in new κ y ≡ 0
    clear_of κ y q p (inl e) = rw e (clear-here κ q)
    clear_of κ y q p (inr e) =
        apart (3712 + (64 * κ + y)) (omega arith) (omega arith) ∙ elsewhere (3712 + (64 * κ + y)) (omega arith) (omega arith) ∙ l.clear κ y q (omega arith)
