-- Laying the roots of names one by one: those from a name on, laid from the place reached, lay all.
use Rattle.std.specs.Prelude.{List, ◌≡◌, ℕ, suc, ◌+◌, ◌-◌, ◌*◌, ◌<◌, ◌≤◌, set}
use Rattle.std.proofs.Math.Path.{refl, ap}
use Rattle.std.proofs.Common.{◌∙◌, subst, arith}
use Rattle.std.proofs.Math.Seq.{sets}
use Rattle.roles.specs.Role.{name}
use Rattle.roles.specs.Rule.{Rule}
use Rattle.tables.specs.Tables.{size_of, transitions_of, roots_from, transitions_from, states_from}
use Rattle.table_laying.specs.Laid.{Laid, laid_none, laid_both}

pub name-twice : (x : ℕ) → name (2 * x) ≡ x
unfolding name
name-twice x = omega arith

module _ (ρs : List Rule) (fuel : ℕ) where
  -- the roots of names from x on, as many as are left, laid from a place on, and where each stands written in a table
  pub record RootsLaid (left x p k : ℕ) (h m : List ℕ) (r j : ℕ) (h' m' : List ℕ) : Type 0 where
    pub laid : Laid (states_from ρs fuel left x) (transitions_from ρs fuel left x p) p k m r j m'
    pub heads : p + states_from ρs fuel left x ≤ 2048 → h' ≡ sets h x (roots_from ρs fuel left x p)

  roots-none : (x p k : ℕ) (h m : List ℕ) → RootsLaid 0 x p k h m p k h m
  unfolding states_from transitions_from roots_from
  roots-none x p k h m = record { laid = laid_none p k m; heads = λ l. refl }

  -- one, then the rest
  roots-one : (left x p k : ℕ) (h m : List ℕ) (q l : ℕ) (n : List ℕ) (r j : ℕ) (h' m' : List ℕ)
      → Laid (size_of ρs fuel (2 * x)) (transitions_of ρs fuel (2 * x) p) p k m q l n → RootsLaid left (suc x) q l (set h x p) n r j h' m'
      → RootsLaid (suc left) x p k h m r j h' m'
  unfolding states_from transitions_from roots_from
  roots-one left x p k h m q l n r j h' m' a b =
      record {
        laid =
            laid_both (size_of ρs fuel (2 * x)) (states_from ρs fuel left (suc x)) (transitions_of ρs fuel (2 * x) p) (transitions_from ρs fuel left (suc x) q)
            (transitions_from ρs fuel left (suc x) (p + size_of ρs fuel (2 * x))) p k m q l n r j m' a b.laid
            (λ e. ap (transitions_from ρs fuel left (suc x)) e);
        heads = λ g.
            let e : q ≡ p + size_of ρs fuel (2 * x) = a.within (omega arith) in
            b.heads (omega arith) ∙ ap (λ (v : ℕ). sets (set h x p) (suc x) (roots_from ρs fuel left (suc x) v)) e;
      }

  -- all from name 0 on, begun at state 0; those from x on are left
  pub record RootsLeft (names : ℕ) (h m : List ℕ) (x q l : ℕ) (g n : List ℕ) : Type 0 where
    pub whole : (r j : ℕ) (h' m' : List ℕ) → RootsLaid (names - x) x q l g n r j h' m' → RootsLaid names 0 0 0 h m r j h' m'

  module _ (names : ℕ) (h m : List ℕ) where
    pub roots-left-start : RootsLeft names h m 0 0 0 h m
    roots-left-start =
        let e : names - 0 ≡ names = omega arith in
        record { whole = λ r j h' m' a. rw e at a }

    module _ (x q l : ℕ) (g n : List ℕ) (a : RootsLeft names h m x q l g n) where
      pub roots-left-next : x < names → (q₁ l₁ : ℕ) (n₁ : List ℕ) → Laid (size_of ρs fuel (2 * x)) (transitions_of ρs fuel (2 * x) q) q l n q₁ l₁ n₁
          → RootsLeft names h m (x + 1) q₁ l₁ (set g x q) n₁
      roots-left-next f q₁ l₁ n₁ b =
          let e : names - x ≡ suc (names - (x + 1)) = omega arith in
          let s : x + 1 ≡ suc x = omega arith in
          record {
            whole = λ r j h' m' c.
                a.whole r j h' m'
                (rw e (roots-one (names - (x + 1)) x q l g n q₁ l₁ n₁ r j h' m' b
                (subst (λ (y : ℕ). RootsLaid (names - (x + 1)) y q₁ l₁ (set g x q) n₁ r j h' m') s c)));
          }

      pub roots-left-end : names ≤ x → RootsLaid names 0 0 0 h m q l g n
      roots-left-end f =
          let e : names - x ≡ 0 = omega arith in
          a.whole q l g n (rw e (roots-none x q l g n))
