-- Masks that absorb a set, one mask after another: those of a name and of all names above it. Then they hold the order with a rule more.
use Rattle.std.specs.Prelude.{Bool, true, false, cond, ◌&&◌, ◌||◌, List, [], ◌⊎◌, ◌≡◌, refl, ℕ, ◌+◌, ◌<◌, ◌≤◌, eqb, length, get_or, set, replicate}
use Rattle.std.proofs.Math.Bool.{or-false, and-false}
use Rattle.std.proofs.Common.{inl, inr, sym, ◌∙◌, arith, eq-eqb, ne_eqb, length-set, get_or-set_same, get_or-set_other}
use Rattle.std.specs.Int.Bits.{bit_or}
use Rattle.std.proofs.lemmas.List.{get_or-replicate}
use Rattle.base.specs.Truth.{eq_or_ne}
use Rattle.roles.specs.Role.{Chain}
use Rattle.order.specs.Closure.{reaches, no_order, with_inner}
use Rattle.name_sets.specs.Mask.{has, Holds}
use Rattle.name_sets.specs.MaskLaws.{has_zero, has_or}

-- a mask, with the set where it has the name
abbrev pub grown : (right lower m : ℕ) → ℕ
grown right lower m = cond (has m right) (bit_or m lower) m

-- masks in which that of the name itself has absorbed the set
abbrev pub own_first : List ℕ → (right lower : ℕ) → List ℕ
own_first masks right lower = set masks right (bit_or (get_or masks right 0) lower)

-- the masks before x have grown, those from x on are as they were
pub record Absorbing (old : List ℕ) (right lower : ℕ) (new : List ℕ) (x : ℕ) : Type 0 where
  pub size : length new ≡ length old
  pub past : (z : ℕ) → z < x → get_or new z 0 ≡ grown right lower (get_or old z 0)
  pub ahead : (z : ℕ) → x ≤ z → get_or new z 0 ≡ get_or old z 0

-- a name of a mask that grew
has-grown : (right lower m y : ℕ) → has (grown right lower m) y ≡ (has m y || (has m right && has lower y))
has-grown right lower m y = by_test (has m right)
  where
    by_test : (t : Bool) → has (cond t (bit_or m lower) m) y ≡ (has m y || (t && has lower y))
    by_test true = has_or m lower y
    by_test false = sym (or-false (has m y))

-- where it had absorbed the set before, growing does not change it
again : (a b c : Bool) → ((a || b) || (c && b)) ≡ (a || b)
again true b c = refl
again false true c = refl
again false false true = refl
again false false false = refl

module _ {old : List ℕ} {right lower : ℕ} where
  pub absorbing_start : Absorbing old right lower old 0
  absorbing_start = record { size = refl; past = λ z p. absurd (let f : ⊥ = omega arith in f); ahead = λ z p. refl }

  module _ {new : List ℕ} {x : ℕ} (fits : x < length old) (a : Absorbing old right lower new x) where
    here : get_or new x 0 ≡ get_or old x 0
    here = a.ahead x (omega arith)

    -- the next mask
    pub absorbing_next : (m : ℕ) → m ≡ grown right lower (get_or new x 0) → Absorbing old right lower (set new x m) (x + 1)
    absorbing_next m own =
        record {
          size = length-set new x m ∙ a.size;
          past = λ z p. by_place z p (eq_or_ne z x);
          ahead = λ z p. get_or-set_other new x z m 0 (omega arith) ∙ a.ahead z (omega arith);
        }
      where
        by_place : (z : ℕ) → z < x + 1 → (z ≡ x) ⊎ (z ≡ x → ⊥) → get_or (set new x m) z 0 ≡ grown right lower (get_or old z 0)
        by_place z p (inl e) = rw (e, get_or-set_same new x m 0 (omega (arith, a.size)), ← here) own
        by_place z p (inr e) = get_or-set_other new x z m 0 e ∙ a.past z (omega arith)

-- all masks have grown: they hold the order with a rule more
module _ (masks : List ℕ) (right lower : ℕ) (inside : right < length masks) where
  -- the mask of a name then
  has-after : (z y : ℕ) → has (grown right lower (get_or (own_first masks right lower) z 0)) y
      ≡ (has (get_or masks z 0) y || ((eqb z right || has (get_or masks z 0) right) && has lower y))
  has-after z y = by_place (eq_or_ne z right)
    where
      by_place : (z ≡ right) ⊎ (z ≡ right → ⊥) → has (grown right lower (get_or (own_first masks right lower) z 0)) y
          ≡ (has (get_or masks z 0) y || ((eqb z right || has (get_or masks z 0) right) && has lower y))
      by_place (inl e) =
          let m = get_or masks right 0 in
          rw (e, eq-eqb right right refl, get_or-set_same masks right (bit_or m lower) 0 inside, has-grown right lower (bit_or m lower) y, has_or m lower y)
          (again (has m y) (has lower y) (has (bit_or m lower) right))
      by_place (inr e) =
          rw (ne_eqb z right e, get_or-set_other masks right z (bit_or (get_or masks right 0) lower) 0 e)
          (has-grown right lower (get_or masks z 0) y)

  pub absorbing_end : {new : List ℕ} {x : ℕ} → 64 ≤ x → right < 64 → Absorbing (own_first masks right lower) right lower new x
      → (order : ℕ → ℕ → Bool) (inner : Chain) → Holds masks order → ((y : ℕ) → y < 64 → has lower y ≡ reaches order inner y)
      → Holds new (with_inner order right inner)
  unfolding with_inner
  absorbing_end p q a order inner h e =
      record {
        bits =
            λ z y k l.
            rw (a.past z (omega arith), has-after z y, h.bits z y k l, h.bits z right k q, e y l) refl;
      }

-- a rule without inner roles changes nothing
pub holds-empty : (masks : List ℕ) (order : ℕ → ℕ → Bool) (right : ℕ) → Holds masks order → Holds masks (with_inner order right [])
unfolding with_inner reaches
holds-empty masks order right h =
    record { bits = λ x y p q. h.bits x y p q ∙ sym (rw (and-false (eqb x right || order right x)) (or-false (order y x))) }

-- masks without a name hold no order
pub holds-none : Holds (replicate 64 0) no_order
holds-none = record { bits = λ x y p q. rw (get_or-replicate {A = ℕ} 64 x 0 0 p) (has_zero y) }
