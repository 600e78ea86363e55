-- The row of a rule is found in the index; and how far laying it has come: the inner roles from j on are left, from the state reached.
use Rattle.std.specs.Prelude.{Bool, true, false, List, [], ◌∷◌, ◌≡◌, refl, ℕ, zero, suc, ◌+◌, ◌-◌, ◌*◌, ◌<◌, ◌≤◌, length, get_or}
use Rattle.std.proofs.Common.{sym, ap, ◌∙◌, arith, eq-eqb, ne_eqb}
use Rattle.base.specs.Part.{part, get_or_part, length_part}
use Rattle.roles.specs.Role.{Chain, name, inv}
use Rattle.roles.specs.RoleLaws.{name-inv, inv-below, length-turn, get_or-inv_chain}
use Rattle.roles.specs.Rule.{Rule}
use Rattle.order.specs.Shape.{Shape}
use Rattle.order.specs.Shape.Shape.{transitive, symmetric, row}
use Rattle.order.specs.ShapeForms.{other, turned}
use Rattle.tables.specs.Tables.{Transition, silent, state, row_size, row_transitions, size_of, transitions_of}
use Rattle.table_laying.specs.Own.{facing}
use Rattle.table_laying.specs.Left.{RowLeft, row-left-start, row-left-next, row-left-end}
use Rattle.rule_index.specs.RuleLinks.{rule}
use Rattle.rule_index.specs.RuleIndex.{Indexed, Recorded, right_in, kind_in, from_in, to_in, size_in, level_in, end_at, shape_by}
use Rattle.rule_index.specs.RuleIndexLaws.{Here}
use Rattle.rule_index.specs.Facing.{ShapeLaid, row-alone, no_row, inner-some, inner-low}
use Rattle.table_writer.specs.Adding.{Small, Lays, Added, Adds, one}
use Rattle.table_writer.specs.AddingLaws.{add-added}
use Rattle.table_builder.specs.Lay.{Ready, FragmentLaid, RowLaid}
use Rattle.table_builder.specs.Row.{count_by, chain_in, Inner, InnerRole, Shown, Found}
use Rattle.table_builder.specs.Memo.{Memo}
use Rattle.table_builder.specs.MemoLaws.{memo-step}
use Rattle.table_writer.specs.declared.Place.{Place}
use Rattle.table_builder.specs.declared.lay.InnerRow.{InnerRow}

-- an inner role as it stands, and inverted
module _ {ix : List ℕ} {ρ : InnerRow} {level : ℕ} (a : Inner ix ρ level) {j : ℕ} (h : j < ρ.size) {s : ℕ} where
  pub inner-straight : ρ.mirrored ≡ false → s ≡ get_or ix (ρ.start + j) 0 → InnerRole ix ρ j s
  inner-straight m e =
      record {
        same = e ∙ (sym (get_or_part ix ρ.start ρ.size j h) ∙ rw m refl);
        small = rw e (a.roles j h).0;
        lower = λ l b. rw e (b.roles j h).1;
      }

  pub inner-mirrored : ρ.mirrored ≡ true → s ≡ inv (get_or ix (ρ.start + (ρ.size - 1 - j)) 0) → InnerRole ix ρ j s
  inner-mirrored m e =
      let w : Chain = part ix ρ.start ρ.size in
      let z : length w ≡ ρ.size = length_part ix ρ.start ρ.size a.fits in
      let g : ρ.size - 1 - j < ρ.size = omega arith in
      record {
        same = e ∙ (ap inv (sym (get_or_part ix ρ.start ρ.size (ρ.size - 1 - j) g)) ∙ (ap (λ (n : ℕ). inv (get_or w (n - 1 - j) 0)) (sym z) ∙ (sym (get_or-inv_chain w j (rw z h)) ∙ rw m refl)));
        small = rw e (inv-below (get_or ix (ρ.start + (ρ.size - 1 - j)) 0) 64 (a.roles (ρ.size - 1 - j) g).0);
        lower = λ l b. rw (e, name-inv (get_or ix (ρ.start + (ρ.size - 1 - j)) 0)) (b.roles (ρ.size - 1 - j) g).1;
      }

at-end : (n i : ℕ) → n ≤ 1 → i + n ≡ state (end_at n) i
at-end zero i h = omega arith
at-end (suc n) i h = omega arith

at_other : (n i : ℕ) → n ≤ 1 → i + 1 - n ≡ state (other (end_at n)) i
at_other zero i h = omega arith
at_other (suc n) i h = omega arith

count_most : (κ z : ℕ) → count_by κ z ≤ z
count_most zero z = omega arith
count_most (suc zero) z = omega arith
count_most (suc (suc κ)) z = omega arith

count-row : (κ z x : ℕ) → x < count_by κ z → (2 ≤ κ) × (x < z)
count-row zero z x h = absurd (let f : ⊥ = omega arith in f)
count-row (suc zero) z x h = absurd (let f : ⊥ = omega arith in f)
count-row (suc (suc κ)) z x h = (omega arith, h)

pub count_none : (κ z : ℕ) → κ < 2 → 0 ≡ count_by κ z
count_none zero z h = refl
count_none (suc zero) z h = refl
count_none (suc (suc κ)) z h = absurd (let f : ⊥ = omega arith in f)

pub count-some : (κ z : ℕ) → 2 ≤ κ → z ≡ count_by κ z
count-some zero z h = absurd (let f : ⊥ = omega arith in f)
count-some (suc zero) z h = absurd (let f : ⊥ = omega arith in f)
count-some (suc (suc κ)) z h = refl

-- the row that a shape's numbers say
module _ (ix : List ℕ) (i at z : ℕ) where
  abbrev straight : (κ f t : ℕ) → InnerRow
  straight κ f t = record { from = i + f; to = i + t; start = at; size = count_by κ z; mirrored = false }

  abbrev mirrored : (κ f t : ℕ) → InnerRow
  mirrored κ f t = record { from = i + 1 - t; to = i + 1 - f; start = at; size = count_by κ z; mirrored = true }

  shown_by : (κ f t : ℕ) → f ≤ 1 → t ≤ 1 → (2 ≤ κ → 0 < z) → Shown ix i (shape_by κ f t (part ix at z)) (straight κ f t)
  shown_by zero f t a b c = refl
  shown_by (suc zero) f t a b c = refl
  shown_by (suc (suc κ)) f t a b c = (refl, c (omega arith), at-end f i a, at-end t i b)

  turned_by : (κ f t : ℕ) → f ≤ 1 → t ≤ 1 → (2 ≤ κ → 0 < z) → Shown ix i (turned (shape_by κ f t (part ix at z))) (mirrored κ f t)
  turned_by zero f t a b c = refl
  turned_by (suc zero) f t a b c = refl
  turned_by (suc (suc κ)) f t a b c = (refl, c (omega arith), at_other t i b, at_other f i a)

-- the row of rule k
module _ {σs : List Rule} {ix : List ℕ} (x : Indexed σs ix) (role k i : ℕ) (here : Here ix role k) (h : k < 256) (g : i ≤ 2046) where
  entry : (ρs : List Rule) → Indexed ρs ix → Recorded (rule ρs k) ix k
  entry ρs y = y.entry k ((here ρs y).real h)

  some : 2 ≤ kind_in ix k → 0 < size_in ix k
  some l = inner-some x k ((here σs x).real h) l

  inner_of : (from to : ℕ) (b : Bool) → Inner ix (record { from = from; to = to; start = 14 * k + 6; size = count_by (kind_in ix k) (size_in ix k); mirrored = b }) (level_in ix (name role))
  inner_of from to b =
      record {
        fits = omega (arith, x.size, (entry σs x).size, count_most (kind_in ix k) (size_in ix k));
        roles = λ j l.
            let c = count-row (kind_in ix k) (size_in ix k) j l in
            rw (← (here σs x).here h) (inner-low x k ((here σs x).real h) c.0 j c.1);
      }

  module _ {f t z : ℕ} (ef : f ≡ from_in ix k) (et : t ≡ to_in ix k) (ez : z ≡ count_by (kind_in ix k) (size_in ix k)) where
    pub found-straight : right_in ix k ≡ role → Found ix k role i (record { from = i + f; to = i + t; start = 14 * k + 6; size = z; mirrored = false })
    found-straight e =
        rw (ef, et, ez) (record {
          near = (omega (arith, (entry σs x).from), omega (arith, (entry σs x).to));
          inner = inner_of _ _ false;
          shown = λ ρs y.
              let r = entry ρs y in
              rw (eq-eqb (rule ρs k).right role (sym r.right ∙ e), ← r.shaped)
              (shown_by ix i (14 * k + 6) (size_in ix k) (kind_in ix k) (from_in ix k) (to_in ix k) r.from r.to some);
        })

    pub found-mirrored : (right_in ix k ≡ role → ⊥) → Found ix k role i (record { from = i + 1 - t; to = i + 1 - f; start = 14 * k + 6; size = z; mirrored = true })
    found-mirrored d =
        rw (ef, et, ez) (record {
          near = (omega (arith, (entry σs x).to), omega (arith, (entry σs x).from));
          inner = inner_of _ _ true;
          shown = λ ρs y.
              let r = entry ρs y in
              rw (ne_eqb (rule ρs k).right role (λ e. d (r.right ∙ e)), ← r.shaped)
              (turned_by ix i (14 * k + 6) (size_in ix k) (kind_in ix k) (from_in ix k) (to_in ix k) r.from r.to some);
        })

-- how far laying the row has come
pub record Rowing (ix : List ℕ) (level : ℕ) (ρ : InnerRow) (p : Place) (m : List ℕ) (q : Place) (o n : List ℕ) (reached j : ℕ) : Type 0 where
  pub small : Small q
  pub near : reached ≤ 2050
  pub same : length n ≡ length m
  pub memo : Memo ix o q n
  pub left : (ρs : List Rule) → Indexed ρs ix → (fuel : ℕ) → level ≤ fuel
      → RowLeft (size_of ρs fuel) (transitions_of ρs fuel) (chain_in ix ρ) ρ.from ρ.to p.state p.count m j reached q.state q.count n

-- a silent transition on the way
pub rowing_added : {ix : List ℕ} {level : ℕ} {ρ : InnerRow} {p : Place} {m : List ℕ} {q : Place} {o n : List ℕ} {reached j : ℕ}
    → Rowing ix level ρ p m q o n reached j → {to : ℕ} → to < 65536 → {v : Place} {n₁ : List ℕ} → Adds (one true reached 128 to) q n v n₁
    → Added (silent reached to ∷ []) q n v n₁
rowing_added b h e = add-added true (omega (arith, b.near)) (omega arith) h b.small e.0 e.1

module _ {ix : List ℕ} {k role i : ℕ} {ρ : InnerRow} (a : Found ix k role i ρ) where
  many : length (chain_in ix ρ) ≡ ρ.size
  many = length-turn ρ.mirrored (part ix ρ.start ρ.size) ∙ length_part ix ρ.start ρ.size a.inner.fits

  -- no row
  pub row-none : {p : Place} {memo m : List ℕ} → ρ.size ≡ 0 → Ready ix role p memo m → RowLaid k i ix role p m p memo m
  row-none {p} {memo} {m} e b =
      record {
        small = b.small;
        laid = λ ρs y fuel l. by_shape (size_of ρs fuel) (transitions_of ρs fuel) (facing role (rule ρs k)) (a.shown ρs y);
        memo = b.memo;
      }
    where
      by_shape : (size : ℕ → ℕ) (inside : ℕ → ℕ → List Transition) (s : Shape) → Shown ix i s ρ → ShapeLaid size inside i s p.state p.count m p.state p.count m
      by_shape size inside transitive h = (no_row size inside i p.state p.count m).0
      by_shape size inside symmetric h = (no_row size inside i p.state p.count m).1
      by_shape size inside (row f t w) h = absurd (let g : ⊥ = omega (arith, h.1) in g)

  pub rowing_start : {p : Place} {memo m : List ℕ} → Ready ix role p memo m → Rowing ix (level_in ix (name role)) ρ p m p memo m ρ.from 0
  rowing_start {p} {memo} {m} b =
      record {
        small = b.small;
        near = omega (arith, a.near.0);
        same = refl;
        memo = b.memo;
        left = λ ρs y fuel l. row-left-start (size_of ρs fuel) (transitions_of ρs fuel) (chain_in ix ρ) ρ.from ρ.to p.state p.count m;
      }

  module _ {p : Place} {m : List ℕ} {q : Place} {memo n : List ℕ} {reached j : ℕ} (b : Rowing ix (level_in ix (name role)) ρ p m q memo n reached j)
      {v : Place} {n₁ : List ℕ} (same : length n₁ ≡ length n) where
    pub rowing_next : Added (silent reached q.state ∷ []) q n v n₁ → j < ρ.size → {s : ℕ} → InnerRole ix ρ j s → {u : Place} {memo₂ n₂ : List ℕ}
        → length n₂ ≡ length n₁ → FragmentLaid ix s v n₁ u memo₂ n₂ → Rowing ix (level_in ix (name role)) ρ p m u memo₂ n₂ (q.state + 1) (j + 1)
    rowing_next t h {s} r {u} {memo₂} {n₂} z c =
        record {
          small = c.small;
          near = omega (arith, b.small.state);
          same = z ∙ (same ∙ b.same);
          memo = c.memo;
          left = λ ρs y fuel l.
              row-left-next (size_of ρs fuel) (transitions_of ρs fuel) (chain_in ix ρ) ρ.from ρ.to p.state p.count m j reached q.state q.count n
              (b.left ρs y fuel l) (rw many h) v.state v.count n₁ t.same t.laid s r.same u.state u.count n₂
              (c.laid ρs y fuel (let g : level_in ix (name s) < level_in ix (name role) = r.lower _ a.inner in omega arith));
        }

    -- the whole row
    pub rowing_end : Added (silent reached ρ.to ∷ []) q n v n₁ → ρ.size ≤ j → (ρ.size ≡ 0 → ⊥) → RowLaid k i ix role p m v memo n₁
    rowing_end t h d =
        record {
          small = t.small;
          laid = λ ρs y fuel l.
              by_shape (size_of ρs fuel) (transitions_of ρs fuel) (facing role (rule ρs k)) (a.shown ρs y)
              (row-left-end (size_of ρs fuel) (transitions_of ρs fuel) (chain_in ix ρ) ρ.from ρ.to p.state p.count m j reached q.state q.count n
              (b.left ρs y fuel l) (rw many h) v.state v.count n₁ t.same t.laid);
          memo = memo-step t.laid same b.memo;
        }
      where
        by_shape : (size : ℕ → ℕ) (inside : ℕ → ℕ → List Transition) (s : Shape) → Shown ix i s ρ
            → Lays (row_size size (chain_in ix ρ)) (row_transitions size inside ρ.from ρ.to p.state (chain_in ix ρ)) p m v n₁
            → ShapeLaid size inside i s p.state p.count m v.state v.count n₁
        by_shape size inside transitive h c = absurd (d h)
        by_shape size inside symmetric h c = absurd (d h)
        by_shape size inside (row f t w) h c = row-alone size inside i f t w p.state p.count m v.state v.count n₁ (rw (h.0, h.2, h.3) at c)
