-- The rules of each right name linked in book order: from a rule on, the next rule of a name, or 256 where there is none.
use mathlib.Core.List.{List, [], ◌∷◌, Memᴰ}
use Rattle.std.specs.Prelude.{◌≡◌, refl, ℕ, zero, suc, ◌<◌, ◌≤◌, length, get_or, drop}
use Rattle.std.proofs.Common.{sym, ap, ◌∙◌, le_refl, not-suc-le-zero, le_of_suc-le-suc, arith, drop_of_length-le, drop-cons}
use Rattle.roles.specs.Role.{name}
use Rattle.roles.specs.Rule.{Rule}
use Rattle.order.specs.Shape.{shape}
use Rattle.order.specs.ShapeForms.{AllApart}
use Rattle.tables.specs.Tables.{own_shapes}
use Rattle.table_laying.specs.Own.{facing, own-other, own_same}

-- a rule to look up past the last one
abbrev pub no_rule : Rule
no_rule = record { left = []; right = 0 }

abbrev pub rule : List Rule → ℕ → Rule
rule ρs k = get_or ρs k no_rule

pub rule-member : (ρs : List Rule) (k : ℕ) → k < length ρs → Memᴰ (rule ρs k) ρs
rule-member [] k h = absurd (not-suc-le-zero h)
rule-member (ρ ∷ ρs) zero h = Memᴰ.head refl
rule-member (ρ ∷ ρs) (suc k) h = Memᴰ.tail (rule-member ρs k (le_of_suc-le-suc h))

-- k is the first rule of name x from a rule on, or 256
pub record Link (ρs : List Rule) (x from k : ℕ) : Type 0 where
  pub later : from ≤ k
  pub most : k ≤ 256
  pub real : k < 256 → k < length ρs
  pub here : k < 256 → name (rule ρs k).right ≡ x
  pub same : (r : ℕ) → name r ≡ x → own_shapes (drop from ρs) r ≡ own_shapes (drop k ρs) r

pub link-none : (ρs : List Rule) (x : ℕ) → length ρs ≤ 256 → Link ρs x (length ρs) 256
link-none ρs x h =
    record {
      later = h;
      most = omega arith;
      real = λ l. absurd (let f : ⊥ = omega arith in f);
      here = λ l. absurd (let f : ⊥ = omega arith in f);
      same = λ r e. ap (λ (l : List Rule). own_shapes l r) (drop_of_length-le ρs (le_refl (length ρs)) ∙ sym (drop_of_length-le ρs h));
    }

module _ (ρs : List Rule) (few : length ρs ≤ 256) (k : ℕ) (h : k < length ρs) where
  split : drop k ρs ≡ rule ρs k ∷ drop (suc k) ρs
  split = drop-cons ρs k no_rule h

  pub link_here : Link ρs (name (rule ρs k).right) k k
  link_here = record { later = omega arith; most = omega arith; real = λ l. h; here = λ l. refl; same = λ r e. refl }

  -- a rule of another name adds nothing to a role
  pub link-skip : (r : ℕ) → (name (rule ρs k).right ≡ name r → ⊥) → own_shapes (drop k ρs) r ≡ own_shapes (drop (suc k) ρs) r
  link-skip r d = ap (λ (ys : List Rule). own_shapes ys r) split ∙ own-other (rule ρs k) (drop (suc k) ρs) r d

  pub link-other : (x j : ℕ) → (name (rule ρs k).right ≡ x → ⊥) → Link ρs x (suc k) j → Link ρs x k j
  link-other x j d l =
      record {
        later = omega (arith, l.later);
        most = l.most;
        real = l.real;
        here = l.here;
        same = λ r e. link-skip r (λ q. d (q ∙ e)) ∙ l.same r e;
      }

  -- a rule of a role's name adds its shape
  pub own_at : (r : ℕ) → name (rule ρs k).right ≡ name r → AllApart (rule ρs k).right (shape (rule ρs k))
      → own_shapes (drop k ρs) r ≡ facing r (rule ρs k) ∷ own_shapes (drop (suc k) ρs) r
  own_at r e a = ap (λ (ys : List Rule). own_shapes ys r) split ∙ own_same (rule ρs k) (drop (suc k) ρs) r e a
