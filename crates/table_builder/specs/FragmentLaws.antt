-- A fragment laid from its letters, the rows of its role's rules and, if the role is symmetric, of its inverse's.
use Rattle.std.specs.Prelude.{Bool, true, false, cond, List, [], ◌⊎◌, ◌≡◌, refl, ℕ, suc, ◌+◌, ◌<◌, ◌≤◌, length}
use Rattle.std.proofs.Common.{append-nil, ◌∙◌, add-zero, arith}
use Rattle.roles.specs.Role.{name, inv}
use Rattle.roles.specs.RoleLaws.{name-inv}
use Rattle.roles.specs.Rule.{Rule}
use Rattle.order.specs.Shape.{Shape}
use Rattle.tables.specs.Tables.{Transition, own_shapes, has_symmetric, has_transitive, rows_size, rows_transitions, size_of, transitions_of}
use Rattle.rule_index.specs.RuleIndex.{Indexed, first_in, level_in}
use Rattle.rule_index.specs.RuleIndexLaws.{Mirrors, indexed-apart, shapes-start, mirrors_all, mirrors_none}
use Rattle.rule_index.specs.RuleKinds.{has}
use Rattle.table_laying.specs.Laid.{Laid, laid_both}
use Rattle.table_laying.specs.Fragment.{own_letters, laid-plain, laid-symmetric, fragment_over, by_fuel}
use Rattle.table_writer.specs.Adding.{Small, Lays, Added, begun, letters_place, letters_moves}
use Rattle.table_writer.specs.AddingLaws.{letters-added}
use Rattle.table_builder.specs.Lay.{Ready, Lettered, FragmentOf, FragmentLaid, RowsLaid}
use Rattle.table_builder.specs.Memo.{size_in, stored, Sound, Held, Memo}
use Rattle.table_builder.specs.MemoLaws.{laid-after, memo-step, memo_lettered, memo-kept}
use Rattle.table_writer.specs.declared.Place.{Place}

-- then no rows
laid-no-rows : (size : ℕ → ℕ) (inside : ℕ → ℕ → List Transition) (i z : ℕ) (ts : List Transition) (p k : ℕ) (m : List ℕ) (q l : ℕ) (n : List ℕ) (r j : ℕ) (o : List ℕ)
    → Laid z ts p k m q l n → Laid (rows_size size []) (rows_transitions size inside i q []) q l n r j o → Laid z ts p k m r j o
unfolding rows_size rows_transitions
laid-no-rows size inside i z ts p k m q l n r j o a b = rw (add-zero, append-nil) at (laid_both z 0 ts [] [] p k m q l n r j o a b (λ e. refl))

module _ {ix : List ℕ} {role : ℕ} {p : Place} {memo m : List ℕ} (a : Ready ix role p memo m) where
  -- past the limit
  pub over-laid : 2046 < p.state → FragmentLaid ix role p m (record { state = 2049; count = p.count }) memo m
  over-laid h =
      record {
        small = record { state = omega arith; count = a.small.count };
        laid = λ ρs i fuel l. fragment_over ρs fuel _ _ _ _ _ h;
        memo = memo-step (fragment_over a.rules 0 role [] _ _ _ h) refl a.memo;
      }

  -- again from the memo
  module _ (some : 0 < size_in memo role) where
    pub again_held : (z : ℕ) × (at : ℕ → List Transition) × Held memo role p m z at
    again_held = (_, _, a.memo.held role a.role some a.rules a.index (suc (level_in ix (name role))) (omega arith))

    pub again_laid : {q : Place} {n : List ℕ} → Small q → ((z : ℕ) (at : ℕ → List Transition) → Held memo role p m z at → Lays z (at p.state) p m q n)
        → length n ≡ length m → FragmentLaid ix role p m q memo n
    again_laid s b same =
        record {
          small = s;
          laid = λ ρs i fuel h. b _ _ (a.memo.held role a.role some ρs i fuel h);
          memo = memo-step (b _ _ again_held.2) same a.memo;
        }

  -- letters by the kinds of the role's rules, and whose mirrors follow
  module _ {symmetric : Bool} (s : (ρs : List Rule) → Indexed ρs ix → symmetric ≡ has 1 (own_shapes ρs role)) where
    pub lettered_by : p.state ≤ 2046 → {transitive : Bool} → ((ρs : List Rule) → Indexed ρs ix → transitive ≡ has 0 (own_shapes ρs role)) → {q : Place} {n : List ℕ}
        → (q ≡ letters_place symmetric transitive role p) × (n ≡ letters_moves symmetric transitive role p m) → Lettered ix role p m q n
    lettered_by h {transitive} t e ρs i = rw (← s ρs i, ← t ρs i) (letters-added symmetric transitive role h a.small e.0 e.1)

    pub mirrors_by : {first k : ℕ} → first ≡ first_in ix (name role) → k ≡ cond symmetric first 256 → Mirrors ix role k
    mirrors_by {first} {k} f e = by_kind symmetric s e
      where
        by_kind : (b : Bool) → ((ρs : List Rule) → Indexed ρs ix → b ≡ has 1 (own_shapes ρs role)) → k ≡ cond b first 256 → Mirrors ix role k
        by_kind true u g = mirrors_all ix role a.role u k (g ∙ f)
        by_kind false u g = rw g (mirrors_none ix role a.role u)

  -- what is required again after more was laid
  pub ready_lettered : {q : Place} {n : List ℕ} → Lettered ix role p m q n → length n ≡ length m → Ready ix role q memo n
  ready_lettered b same =
      let c = b a.rules a.index in
      record { rules = a.rules; index = a.index; role = a.role; small = c.small; memo = memo_lettered c same a.memo }

  pub ready-laid : {q : Place} {memo' n : List ℕ} → Small q → Memo ix memo' q n → (s : ℕ) → s < 128 → Ready ix s q memo' n
  ready-laid b k s h = record { rules = a.rules; index = a.index; role = h; small = b; memo = k }

  pub ready-added : {ts : List Transition} {v : Place} {l memo' : List ℕ} {q : Place} {n : List ℕ} → Added ts v l q n → length n ≡ length l → Memo ix memo' v l
      → (s : ℕ) → s < 128 → Ready ix s q memo' n
  ready-added b same k s h = record { rules = a.rules; index = a.index; role = h; small = b.small; memo = memo-step b.laid same k }

  module _ {v : Place} {n : List ℕ} (letters : Lettered ix role p m v n) {k : ℕ} (e : k ≡ first_in ix (name role)) {q : Place} {memo₁ o : List ℕ}
      (own : RowsLaid k p.state ix role v n q memo₁ o) {j : ℕ} (mirrors : Mirrors ix role j) {r : ℕ} (f : r ≡ inv role) {u : Place} {memo₂ w : List ℕ}
      (inverse : RowsLaid j p.state ix r q o u memo₂ w) where
    -- letters, rows and rows of the inverse
    laid : FragmentOf ix role p m u w
    laid ρs i fuel h =
        by_fuel (λ (g : ℕ). Lays (size_of ρs g role) (transitions_of ρs g role p.state) p m u w) (level_in ix (name role)) fuel h
        (λ g l. by_test g l (has_symmetric (own_shapes ρs role)) refl)
      where
        added : Added (own_letters (has_symmetric (own_shapes ρs role)) (has_transitive (own_shapes ρs role)) role p.state) (begun p) m v n
        added = letters ρs i

        -- from fuel f, the rows of some shapes from one place to another
        Rows : (f : ℕ) → List Shape → (at l : ℕ) → List ℕ → Place → List ℕ → Type 0
        Rows f ss at l m q n =
            Laid (rows_size (size_of ρs f) ss) (rows_transitions (size_of ρs f) (transitions_of ρs f) p.state at ss) at l m q.state q.count n

        own_rows : (g : ℕ) → level_in ix (name role) ≤ g → Rows g (own_shapes ρs role) (p.state + 2) v.count n q o
        own_rows g l = rw (e, ← shapes-start i role a.role role refl, added.same) at (own.laid ρs i g l)

        inverse-rows : (g : ℕ) → level_in ix (name role) ≤ g → Rows g (cond (has_symmetric (own_shapes ρs role)) (own_shapes ρs (inv role)) []) q.state q.count o u w
        inverse-rows g l = rw (f, mirrors.same ρs i) at (inverse.laid ρs i g (rw (f, name-inv role) l))

        by_test : (g : ℕ) → level_in ix (name role) ≤ g → (b : Bool) → has_symmetric (own_shapes ρs role) ≡ b
            → Lays (size_of ρs (suc g) role) (transitions_of ρs (suc g) role p.state) p m u w
        by_test g l true t =
            laid-symmetric ρs (indexed-apart i) g role p.state p.count m v.count n q.state q.count o (own_rows g l) t (rw (added.same, t) at added.laid)
            u.state u.count w (rw t at (inverse-rows g l))
        by_test g l false t =
            laid-no-rows (size_of ρs g) (transitions_of ρs g) p.state _ _ p.state p.count m q.state q.count o u.state u.count w
            (laid-plain ρs (indexed-apart i) g role p.state p.count m v.count n q.state q.count o (own_rows g l) t (rw (added.same, t) at added.laid))
            (rw t at (inverse-rows g l))

    pub fragment_after : Sound u → (p.state ≤ u.state) × (p.count ≤ u.count)
    fragment_after s = laid-after _ _ p m u w (laid a.rules a.index (suc (level_in ix (name role))) (omega arith)) s

    -- put down in the memo
    pub fragment_laid : length w ≡ length m → {memo₃ : List ℕ} → (memo₃ ≡ memo₂) ⊎ (Sound u × (memo₃ ≡ stored memo₂ role p u)) → FragmentLaid ix role p m u memo₃ w
    fragment_laid same {memo₃} d = record { small = inverse.small; laid = laid; memo = memo-kept ix role p m u w laid same memo₂ memo₃ a.role d inverse.memo }
