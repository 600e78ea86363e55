-- Walking the rules of a role through an index: from rule to rule, the shapes that are left; and whether there is one of form 4 or form 5.
use Rattle.std.specs.Prelude.{Bool, true, false, cond, List, [], ◌∷◌, ◌≡◌, ℕ, suc, ◌<◌, ◌≤◌, eqb, length, drop}
use Rattle.std.proofs.Math.Path.{refl}
use Rattle.std.proofs.Common.{sym, ap, ◌∙◌, arith, drop_of_length-le}
use mir.Val.{bool_byte}
use Rattle.roles.specs.Role.{name, inv}
use Rattle.roles.specs.RoleLaws.{name_below, name-inv}
use Rattle.roles.specs.Rule.{Rule}
use Rattle.order.specs.Shape.{Shape, shape}
use Rattle.table_languages.specs.LeftSides.{fits-apart}
use Rattle.tables.specs.Tables.{rules_of, own_shapes, has_symmetric}
use Rattle.table_laying.specs.Own.{facing, ApartRules}
use Rattle.rule_index.specs.RuleLinks.{rule, rule-member, Link, own_at}
use Rattle.rule_index.specs.RuleKinds.{has}
use Rattle.rule_index.specs.RuleIndex.{Indexed, next_in, first_in, level_in, flag_in}

-- k is a rule of name x, or 256
pub record At (ρs : List Rule) (x k : ℕ) : Type 0 where
  pub most : k ≤ 256
  pub real : k < 256 → k < length ρs
  pub here : k < 256 → name (rule ρs k).right ≡ x

-- the same of every list of rules that a list of numbers is an index of
abbrev pub Here : (ix : List ℕ) (r k : ℕ) → Type 0
Here ix r k = (ρs : List Rule) → Indexed ρs ix → At ρs (name r) k

at-link : {ρs : List Rule} {x from k : ℕ} → Link ρs x from k → At ρs x k
at-link l = record { most = l.most; real = l.real; here = l.here }

module _ {ρs : List Rule} {ix : List ℕ} (i : Indexed ρs ix) where
  pub indexed-apart : ApartRules ρs
  indexed-apart ρ m = fits-apart (level_in ix) ρ.right (shape ρ) (i.fits ρ m)

  -- where a role's rules begin, and past the last
  module _ (r : ℕ) (h : r < 128) where
    start : Link ρs (name r) 0 (first_in ix (name r))
    start = i.first (name r) (name_below r 64 h)

    pub at-start : At ρs (name r) (first_in ix (name r))
    at-start = at-link start

    pub shapes-start : (s : ℕ) → name s ≡ name r → own_shapes ρs s ≡ own_shapes (drop (first_in ix (name r)) ρs) s
    shapes-start s e = start.same s e

  pub shapes-end : (r k : ℕ) → 256 ≤ k → own_shapes (drop k ρs) r ≡ []
  unfolding rules_of
  shapes-end r k h = rw (drop_of_length-le ρs {i = k} (omega (arith, i.few))) refl

  -- at a rule of the role's name: its shape, and those of the rules after it
  module _ (r k : ℕ) (h : k < 256) (a : At ρs (name r) k) where
    next-link : Link ρs (name r) (suc k) (next_in ix k)
    next-link = rw (a.here h) at (i.next k (a.real h))

    pub shapes-next : own_shapes (drop k ρs) r ≡ facing r (rule ρs k) ∷ own_shapes (drop (next_in ix k) ρs) r
    shapes-next =
        own_at ρs i.few k (a.real h) r (a.here h) (indexed-apart (rule ρs k) (rule-member ρs k (a.real h)))
        ∙ ap (λ (ss : List Shape). facing r (rule ρs k) ∷ ss) (next-link.same r refl)

    pub at_next : At ρs (name r) (next_in ix k)
    at_next = at-link next-link

    pub later : k < next_in ix k
    later = next-link.later

-- what the flag of a kind says
flag_test : (b : Bool) → eqb (bool_byte b) 1 ≡ b
flag_test true = refl
flag_test false = refl

pub flagged : {ρs : List Rule} {ix : List ℕ} → Indexed ρs ix → (kind r : ℕ) → kind ≤ 1 → r < 128 → eqb (flag_in ix kind (name r)) 1 ≡ has kind (own_shapes ρs r)
flagged i kind r h l = rw (i.kinds kind r h l) (flag_test _)

-- from rule k on the inverse's rules are those that a fragment of r has rows of: all if r is symmetric, else none
pub record Mirrors (ix : List ℕ) (r k : ℕ) : Type 0 where
  pub here : Here ix (inv r) k
  pub same : (ρs : List Rule) → Indexed ρs ix → own_shapes (drop k ρs) (inv r) ≡ cond (has_symmetric (own_shapes ρs r)) (own_shapes ρs (inv r)) []

module _ (ix : List ℕ) (r : ℕ) (h : r < 128) where
  pub mirrors_all : ((ρs : List Rule) → Indexed ρs ix → true ≡ has 1 (own_shapes ρs r)) → (k : ℕ) → k ≡ first_in ix (name r) → Mirrors ix r k
  mirrors_all s k e =
      record {
        here = λ ρs i. rw (e, name-inv r) (at-start i r h);
        same = λ ρs i. rw (e, ← s ρs i) (sym (shapes-start i r h (inv r) (name-inv r)));
      }

  pub mirrors_none : ((ρs : List Rule) → Indexed ρs ix → false ≡ has 1 (own_shapes ρs r)) → Mirrors ix r 256
  mirrors_none s =
      record {
        here = λ ρs i. record { most = omega arith; real = λ l. absurd (let f : ⊥ = omega arith in f); here = λ l. absurd (let f : ⊥ = omega arith in f) };
        same = λ ρs i. rw (← s ρs i) (shapes-end i (inv r) 256 (omega arith));
      }
