-- Laws of spelled chains and of runs: append and split, larger languages, more fuel, and the machine of the inverse role.
use Rattle.std.specs.Prelude.{true, ◌≡◌, refl, ℕ, zero, suc, ◌≤◌}
use mathlib.Core.List.{List, [], ◌∷◌, ◌++◌, append-nil, append_assoc, Memᴰ}
use Rattle.std.proofs.Common.{sym, ap, ◌∙◌, arith}
use Rattle.roles.specs.Role.{Chain, inv}
use Rattle.roles.specs.RoleLaws.{inv-inv}
use Rattle.roles.specs.Rule.{Rule}
use Rattle.order.specs.Shape.{End, Shape}
use Rattle.order.specs.Shape.Shape.{transitive, row}
use Rattle.tables.specs.Tables.{has_symmetric}
use Rattle.tables.specs.Run.{Spelled, Run, Language}
use Rattle.tables.specs.Run.Spelled.{none, more}
use Rattle.tables.specs.Run.Run.{stop, letter, second, back, through}
use Rattle.table_languages.specs.RoleShapes.{has_transitive-member, member-has_transitive}

-- a chain in two parts, each with its property
pub record Parts (P Q : Chain → Type 0) (w : Chain) : Type 0 where
  pub front : Chain
  pub rest : Chain
  pub whole : w ≡ front ++ rest
  pub of_front : P front
  pub of_rest : Q rest

pub spelled_map : {L M : ℕ → Chain → Type 0} {v w : Chain} → ((s : ℕ) (u : Chain) → Memᴰ s v → L s u → M s u) → Spelled L v w → Spelled M v w
spelled_map f none = none
spelled_map f (more {s = s} {u = u} p q) = more (f s u (Memᴰ.head refl) p) (spelled_map (λ x y m. f x y (Memᴰ.tail m)) q)

pub run_map : {L M : ℕ → Chain → Type 0} {r : ℕ} {ss : List Shape} {e t : End} {w : Chain} → ((s : ℕ) (u : Chain) → L s u → M s u)
    → Run L r ss e w t → Run M r ss e w t
run_map f stop = stop
run_map f (letter p) = letter (run_map f p)
run_map f (second h p) = second h (run_map f p)
run_map f (back h p) = back h (run_map f p)
run_map f (through m q p) = through m (spelled_map (λ s u _. f s u) q) (run_map f p)

-- a language grows with its fuel
pub language_more : (ρs : List Rule) (fuel more-fuel r : ℕ) (w : Chain) → fuel ≤ more-fuel → Language ρs fuel r w → Language ρs more-fuel r w
language_more ρs zero g r w h p = absurd p
language_more ρs (suc f) zero r w h p = absurd (omega arith)
language_more ρs (suc f) (suc g) r w h p = run_map (λ s u. language_more ρs f g s u (omega arith)) p

module _ {L : ℕ → Chain → Type 0} where
  pub spelled_append : {v w x y : Chain} → Spelled L v w → Spelled L x y → Spelled L (v ++ x) (w ++ y)
  spelled_append none q = q
  spelled_append {y = y} (more {u = u} {v = v} p k) q = rw (append_assoc u v y) (more p (spelled_append k q))

  pub spelled-cons : {s : ℕ} {v w : Chain} → Spelled L (s ∷ v) w → Parts (L s) (Spelled L v) w
  spelled-cons (more {u = u} {v = x} p q) = record { front = u; rest = x; whole = refl; of_front = p; of_rest = q }

  pub spelled-split : (v x : Chain) {w : Chain} → Spelled L (v ++ x) w → Parts (Spelled L v) (Spelled L x) w
  spelled-split [] x {w} p = record { front = []; rest = w; whole = refl; of_front = none; of_rest = p }
  spelled-split (s ∷ v) x {w} p = join (spelled-cons p) (spelled-split v x (spelled-cons p).of_rest)
    where
      join : (k : Parts (L s) (Spelled L (v ++ x)) w) → Parts (Spelled L v) (Spelled L x) k.rest → Parts (Spelled L (s ∷ v)) (Spelled L x) w
      join k t =
          record {
            front = k.front ++ t.front;
            rest = t.rest;
            whole = k.whole ∙ (ap (λ (z : Chain). k.front ++ z) t.whole ∙ sym (append_assoc k.front t.front t.rest));
            of_front = more k.of_front t.of_front;
            of_rest = t.of_rest;
          }

  spelled_none : {w : Chain} → Spelled L [] w → w ≡ []
  spelled_none none = refl

  pub one-spelled : {s : ℕ} {w : Chain} → Spelled L (s ∷ []) w → L s w
  one-spelled {s} {w} p = of_parts (spelled-cons p)
    where
      of_parts : Parts (L s) (Spelled L []) w → L s w
      of_parts k = rw (k.whole, spelled_none k.of_rest, append-nil k.front) k.of_front

  pub run_append : {r : ℕ} {ss : List Shape} {e m t : End} {w x : Chain} → Run L r ss e w m → Run L r ss m x t → Run L r ss e (w ++ x) t
  run_append stop q = q
  run_append (letter p) q = letter (run_append p q)
  run_append (second h p) q = second h (run_append p q)
  run_append (back h p) q = back h (run_append p q)
  run_append {x = x} (through {u = u} {w = w} m k p) q = rw (append_assoc u w x) (through m k (run_append p q))

  pub run_row : {r : ℕ} {ss : List Shape} {from to : End} {inner u : Chain} → Memᴰ (row from to inner) ss → Spelled L inner u
      → Run L r ss from u to
  run_row {r} {ss} {from} {to} {inner} {u} m q =
      let p : Run L r ss from (u ++ []) to = through m q stop in
      rw append-nil at p

  -- a run of the inverse role is one of the role, where the role is symmetric and has the inverse's shapes
  pub run_turned : {r : ℕ} {ss ts : List Shape} {e t : End} {w : Chain} → has_symmetric ts ≡ true → ((s : Shape) → Memᴰ s ss → Memᴰ s ts)
      → Run L (inv r) ss e w t → Run L r ts e w t
  run_turned h f stop = stop
  run_turned h f (letter p) = second h (run_turned h f p)
  run_turned {r} h f (second k p) = rw inv-inv (letter (run_turned h f p))
  run_turned {ss = ss} {ts = ts} h f (back k p) = back (member-has_transitive ts (f transitive (has_transitive-member ss k))) (run_turned h f p)
  run_turned h f (through {from = from} {to = to} {inner = inner} m k p) = through (f (row from to inner) m) k (run_turned h f p)
