-- Laws of pending roles: parts joined, how many fit, and the bound on steps, which falls by 1 where a role gives way to the left side of its rule.
use Rattle.std.specs.Prelude.{List, [], ◌∷◌, ◌++◌, ◌≡◌, refl, ℕ, suc, ◌+◌, ◌-◌, ◌*◌, ◌<◌, ◌≤◌, length, get_or}
use Rattle.std.proofs.Common.{sym, zero-add}
use native.Mathlib.Omega.{arith}
use Rattle.derivation_writer.specs.Pending.{end_of, role_of, roles_of, Below, Tiles, left_over}
use Rattle.derivation_writer.specs.Pending.Tiles.{none, more}

pub tiles_append : {F : (i j r : ℕ) → Type 0} {ps qs : List ℕ} {i m j : ℕ} → Tiles F ps i m → Tiles F qs m j → Tiles F (ps ++ qs) i j
tiles_append none q = q
tiles_append (more f p) q = more f (tiles_append p q)

-- roles below a bound
pub tiles-below : {F : (i j r : ℕ) → Type 0} {roles : ℕ} {ps : List ℕ} {i j : ℕ}
    → ((k : ℕ) → k < length (roles_of ps) → get_or (roles_of ps) k 0 < roles) → Tiles F ps i j → Tiles (Below roles F) ps i j
tiles-below named none = none
tiles-below named (more f t) = more (named 0 (omega arith), f) (tiles-below (λ k h. named (suc k) (omega arith)) t)

pub left_over_append : {F : (i j r : ℕ) → Type 0} {ps : List ℕ} {i m : ℕ} (rank : (i j r : ℕ) → ℕ) → Tiles F ps i m → (qs : List ℕ)
    → left_over rank (ps ++ qs) i ≡ left_over rank ps i + left_over rank qs m
unfolding left_over
left_over_append rank none qs = sym (zero-add _)
left_over_append rank (more f p) qs = omega (arith, left_over_append rank p qs)

-- parts that run forward, with ranks below 128
module _ {F : (i j r : ℕ) → Type 0} (n : ℕ) (inside : (i j r : ℕ) → F i j r → (i < j) × (j ≤ n)) where
  -- each has a link at least
  pub tiles_long : {ps : List ℕ} {i j : ℕ} → Tiles F ps i j → i + length ps ≤ j
  tiles_long none = omega arith
  tiles_long {i = i} (more {p} {ps} f t) = omega (arith, (inside i (end_of p) (role_of p) f).0, tiles_long t)

  module _ (rank : (i j r : ℕ) → ℕ) (low : (i j r : ℕ) → F i j r → rank i j r < 128) where
    pub left_over-most : {ps : List ℕ} {i j : ℕ} → Tiles F ps i j → left_over rank ps i + 128 * length ps ≤ 255 * (j - i)
    unfolding left_over
    left_over-most none = omega arith
    left_over-most {i = i} (more {p} {ps} f t) =
        omega
        (arith, (inside i (end_of p) (role_of p) f).0, low i (end_of p) (role_of p) f, left_over-most t, tiles_long t)

    -- the left side of a rule, where a rule of one role lowers the rank
    pub left_over-less : {ps : List ℕ} {i j : ℕ} (r : ℕ) → Tiles F ps i j → 1 ≤ length ps
        → ((s : ℕ) → roles_of ps ≡ s ∷ [] → rank i j s < rank i j r) → left_over rank ps i < 255 * (j - i - 1) + rank i j r
    unfolding left_over
    left_over-less r none some lower = absurd (let f : ⊥ = omega arith in f)
    left_over-less {i = i} r (more {p} f none) some lower = omega (arith, lower (role_of p) refl)
    left_over-less {i = i} r (more {p} f (more {p = q} {ps} g t)) some lower =
        omega (arith, left_over-most (more {p = p} f (more {p = q} g t)), tiles_long (more {p = p} f (more {p = q} g t)))
