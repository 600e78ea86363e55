-- How far laying the roots has come: those of the names from x on are left.
use Rattle.std.specs.Prelude.{List, ◌≡◌, refl, ℕ, ◌+◌, ◌*◌, ◌<◌, ◌≤◌, length, set}
use Rattle.std.proofs.Common.{◌∙◌, zero-add, arith, length-set}
use Rattle.roles.specs.Rule.{Rule}
use Rattle.rule_index.specs.RuleIndex.{Indexed}
use Rattle.table_laying.specs.RootsLeft.{name-twice, RootsLaid, RootsLeft, roots-left-start, roots-left-next, roots-left-end}
use Rattle.table_writer.specs.Adding.{Small}
use Rattle.table_builder.specs.Lay.{FragmentOf, Enough, Roots, Rooted}
use Rattle.table_writer.specs.declared.Place.{Place}

-- all roots, read off what is laid from state 0 on
roots-all : (ρs : List Rule) (fuel names : ℕ) (r : Place) (h h' m m' : List ℕ)
    → RootsLaid ρs fuel names 0 0 0 h m r.state r.count h' m' → Roots ρs fuel names r h h' m m'
roots-all ρs fuel names r h h' m m' a =
    record {
      counted =
          record {
            within = λ l. rw zero-add at (a.laid.within (rw zero-add l));
            over = λ l. a.laid.over (rw zero-add l);
            count = λ l g. rw zero-add at (a.laid.count (rw zero-add l) (rw zero-add g));
          };
      exact = λ l g f. a.laid.exact (rw zero-add l) (rw zero-add g) (rw zero-add f);
      places = λ l. a.heads (rw zero-add l);
    }

module _ (index : List ℕ) (names : ℕ) (h m : List ℕ) where
  pub record Rooting (q : Place) (g n : List ℕ) (x : ℕ) : Type 0 where
    pub small : Small q
    pub heads : length g ≡ length h
    pub moves : length n ≡ length m
    pub none : names ≡ 0 → (g ≡ h) × (n ≡ m)
    pub left : (ρs : List Rule) → Indexed ρs index → (fuel : ℕ) → Enough index names fuel → RootsLeft ρs fuel names h m x q.state q.count g n

module _ {index : List ℕ} {names : ℕ} {h m : List ℕ} where
  pub rooting_start : Rooting index names h m (record { state = 0; count = 0 }) h m 0
  rooting_start =
      record {
        small = record { state = omega arith; count = omega arith };
        heads = refl;
        moves = refl;
        none = λ e. (refl, refl);
        left = λ ρs i fuel e. roots-left-start ρs fuel names h m;
      }

  module _ {q : Place} {g n : List ℕ} {x : ℕ} (a : Rooting index names h m q g n x) where
    pub rooting_next : x < names → {f : List ℕ} → f ≡ set g x q.state → {v : Place} {o : List ℕ} → Small v → length o ≡ length n
        → FragmentOf index (2 * x) q n v o
        → Rooting index names h m v f o (x + 1)
    rooting_next l {f} p {v} {o} s z b =
        record {
          small = s;
          heads = rw p (length-set g x q.state ∙ a.heads);
          moves = z ∙ a.moves;
          none = λ e. absurd (let y : ⊥ = omega arith in y);
          left = λ ρs i fuel e.
              rw p (roots-left-next ρs fuel names h m x q.state q.count g n (a.left ρs i fuel e) l v.state v.count o
              (b ρs i fuel (rw (name-twice x) (e x l))));
        }

    pub rooting_end : names ≤ x → Rooted index names q h g m n
    rooting_end l =
        record {
          roots = λ ρs i fuel e. roots-all ρs fuel names q h g m n (roots-left-end ρs fuel names h m x q.state q.count g n (a.left ρs i fuel e) l);
          none = a.none;
        }
