-- What the levels of an ordered book serve for where its rules are laid: counted from 0, they are below the number of names and fit every rule.
use mathlib.Core.List.{List, Memᴰ}
use Rattle.std.specs.Prelude.{◌≡◌, ℕ, ◌-◌, ◌<◌, get_or}
use Rattle.std.proofs.Common.{ap, ◌∙◌, arith}
use Rattle.base.specs.Result.Result.{ok}
use Rattle.base.specs.Writing.{over}
use Rattle.base.specs.WritingLaws.{over-new}
use Rattle.roles.specs.Role.{name}
use Rattle.roles.specs.Rule.{Rule, Book}
use Rattle.order.specs.Shape.{Shape, shape, inner_of}
use Rattle.order.specs.Shape.Shape.{transitive, symmetric, row}
use Rattle.order.specs.ClosureLaws.Forced.{edge}
use Rattle.order.specs.Regularity.{regular_closed}
use Rattle.order.specs.Leveled.{Fits}
use Rattle.order.specs.Depth.{level}
use Rattle.order.specs.DepthLaws.{levels-length, level-at, level-some, level-few, levels-fit, forced-low, right-low}
use Rattle.book_format.specs.ReadLaws.{read_names}
use Rattle.book_causes.specs.Ordered.{ordered}
use Rattle.book_causes.specs.OrderedRun.{ordered-read, ordered_regular}
use Rattle.book_causes.specs.Accepted.{levels_of}

pub record Fitting (levels : List ℕ) (b : Book) : Type 0 where
  pub few : (x : ℕ) → x < b.names → get_or levels x 0 - 1 < b.names
  pub fits : (ρ : Rule) → Memᴰ ρ b.rules → Fits (λ x. get_or levels x 0 - 1) (name ρ.right) (shape ρ)

-- levels that agree on a rule's names fit it alike
pub fits-same : (f g : ℕ → ℕ) (x : ℕ) (sh : Shape) → f x ≡ g x → ((s : ℕ) → Memᴰ s (inner_of sh) → f (name s) ≡ g (name s)) → Fits g x sh → Fits f x sh
fits-same f g x transitive e h l = tt
fits-same f g x symmetric e h l = tt
fits-same f g x (row from to inner) e h l = (l.0, λ s m. rw (h s m, e) (l.1 s m))

module _ (s : List ℕ) (b : Book) (o : ordered s ≡ ok b) (old : List ℕ) where
  given : (x : ℕ) → x < b.names → get_or (over (levels_of b) old) x 0 ≡ level b.names b.rules x
  given x p = over-new (levels_of b) old x (rw levels-length p) ∙ level-at b.names b.rules x p

  pub levels-fitting : Fitting (over (levels_of b) old) b
  levels-fitting =
      let named = read_names s b (ordered-read s b o) in
      let c = (regular_closed b.rules (ordered_regular s b o)).1 in
      let below : (x : ℕ) → x < b.names → get_or (over (levels_of b) old) x 0 - 1 ≡ level b.names b.rules x - 1 = λ x p. ap (λ (k : ℕ). k - 1) (given x p) in
      record {
        few = λ x p. rw (below x p) (omega (arith, level-some b.names b.rules named c x p, level-few b.names b.rules named c x p));
        fits =
            λ ρ m.
            fits-same (λ x. get_or (over (levels_of b) old) x 0 - 1) (λ x. level b.names b.rules x - 1) (name ρ.right) (shape ρ)
            (below (name ρ.right) (right-low b.names b.rules named ρ m))
            (λ t k. below (name t) (forced-low b.names b.rules named (edge ρ m t k)))
            (levels-fit b.names b.rules named c ρ m);
      }
