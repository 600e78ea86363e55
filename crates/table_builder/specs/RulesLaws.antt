-- The rows of a role's rules laid one rule after another: none past the last; that of rule k, then those of the rules after it.
use Rattle.std.specs.Prelude.{List, ◌∷◌, ◌≡◌, refl, ℕ, ◌<◌, ◌≤◌, length, drop}
use Rattle.std.proofs.Common.{sym, ap, ◌∙◌}
use Rattle.tables.specs.Tables.{own_shapes, size_of, transitions_of}
use Rattle.table_laying.specs.Own.{facing}
use Rattle.table_laying.specs.Laid.{laid-rows-end}
use Rattle.table_laying.specs.Left.{laid-shapes}
use Rattle.rule_index.specs.RuleLinks.{rule}
use Rattle.rule_index.specs.RuleIndex.{next_in}
use Rattle.rule_index.specs.RuleIndexLaws.{Here, at_next, later, shapes-next, shapes-end}
use Rattle.table_builder.specs.Lay.{Ready, RowLaid, RowsLaid}
use Rattle.table_writer.specs.declared.Place.{Place}

module _ {ix : List ℕ} (role k initial : ℕ) where
  pub rows_none : {p : Place} {m memo : List ℕ} → Ready ix role p memo m → 256 ≤ k → RowsLaid k initial ix role p m p memo m
  rows_none {p} {m} a h =
      record {
        small = a.small;
        laid = λ ρs i fuel l. rw (shapes-end i role k h) (laid-rows-end (size_of ρs fuel) (transitions_of ρs fuel) initial p.state p.count m);
        memo = a.memo;
      }

  module _ (here : Here ix role k) (h : k < 256) (j : ℕ) (e : j ≡ next_in ix k) where
    pub here-next : Here ix role j
    here-next ρs i = rw e (at_next i role k h (here ρs i))

    pub rows_more : {p : Place} {m : List ℕ} {q : Place} {memo n : List ℕ} {r : Place} {memo' o : List ℕ} → RowLaid k initial ix role p m q memo n → RowsLaid j initial ix role q n r memo' o
        → RowsLaid k initial ix role p m r memo' o
    rows_more {p} {m} {q} {memo} {n} {r} {memo'} {o} a b =
        record {
          small = b.small;
          laid = λ ρs i fuel l.
              rw (shapes-next i role k h (here ρs i) ∙ ap (λ (x : ℕ). facing role (rule ρs k) ∷ own_shapes (drop x ρs) role) (sym e))
              (laid-shapes (size_of ρs fuel) (transitions_of ρs fuel) initial (facing role (rule ρs k)) (own_shapes (drop j ρs) role) p.state p.count m
              q.state q.count n r.state r.count o (a.laid ρs i fuel l) (b.laid ρs i fuel l));
          memo = b.memo;
        }

-- the rows up to rule k are laid: what lays those from k on lays all
pub record Walking (ix : List ℕ) (role initial first : ℕ) (p : Place) (m : List ℕ) (k : ℕ) (q : Place) (memo n : List ℕ) : Type 0 where
  pub ready : Ready ix role q memo n
  pub here : Here ix role k
  pub same : length n ≡ length m
  pub rest : (r : Place) (memo' o : List ℕ) → RowsLaid k initial ix role q n r memo' o → RowsLaid first initial ix role p m r memo' o

module _ {ix : List ℕ} {role initial first : ℕ} {p : Place} {m : List ℕ} where
  pub walking_start : {memo : List ℕ} → Ready ix role p memo m → Here ix role first → Walking ix role initial first p m first p memo m
  walking_start a h = record { ready = a; here = h; same = refl; rest = λ r memo' o b. b }

  module _ {k : ℕ} {q : Place} {memo n : List ℕ} (w : Walking ix role initial first p m k q memo n) where
    pub walking_later : k < 256 → {j : ℕ} → j ≡ next_in ix k → k < j
    walking_later h e = rw e (later w.ready.index role k h (w.here w.ready.rules w.ready.index))

    pub walking_next : k < 256 → {j : ℕ} → j ≡ next_in ix k → {q' : Place} {memo' n' : List ℕ} → RowLaid k initial ix role q n q' memo' n' → length n' ≡ length n
        → Walking ix role initial first p m j q' memo' n'
    walking_next h {j} e b s =
        record {
          ready = record { rules = w.ready.rules; index = w.ready.index; role = w.ready.role; small = b.small; memo = b.memo };
          here = here-next role k initial w.here h j e;
          same = s ∙ w.same;
          rest = λ r memo'' o c. w.rest r memo'' o (rows_more role k initial w.here h j e b c);
        }

    pub walking_end : 256 ≤ k → RowsLaid first initial ix role p m q memo n
    walking_end h = w.rest q memo n (rows_none role k initial w.ready h)
