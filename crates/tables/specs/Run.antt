-- What a fragment accepts, before any state number: runs of the two-state machine of a role, whose rows read chains of the inner roles'
-- languages. The language of a role at a nesting depth is what its machine reads from initial to final.
use Rattle.std.specs.Prelude.{true, ◌≡◌, ℕ, zero, suc}
use mathlib.Core.List.{List, [], ◌∷◌, ◌++◌, Memᴰ}
use Rattle.roles.specs.Role.{Chain, inv}
use Rattle.roles.specs.Rule.{Rule}
use Rattle.order.specs.Shape.{End, Shape}
use Rattle.order.specs.Shape.End.{initial, final}
use Rattle.order.specs.Shape.Shape.{row}
use Rattle.tables.specs.Tables.{shapes, has_symmetric, has_transitive}

-- a chain that is put together from one chain of each role's language, in order
pub data Spelled (L : ℕ → Chain → Type 0) : Chain → Chain → Type 0 where
  none : Spelled L [] []
  more : {s : ℕ} {w u v : Chain} → L s u → Spelled L w v → Spelled L (s ∷ w) (u ++ v)

-- the machine of r with the given shapes goes from one state to another, reading a chain
pub data Run (L : ℕ → Chain → Type 0) (r : ℕ) (ss : List Shape) : End → Chain → End → Type 0 where
  stop : {e : End} → Run L r ss e [] e
  letter : {w : Chain} {t : End} → Run L r ss final w t → Run L r ss initial (r ∷ w) t
  second : {w : Chain} {t : End} → has_symmetric ss ≡ true → Run L r ss final w t → Run L r ss initial (inv r ∷ w) t
  back : {w : Chain} {t : End} → has_transitive ss ≡ true → Run L r ss initial w t → Run L r ss final w t
  through : {from to t : End} {inner u w : Chain} → Memᴰ (row from to inner) ss → Spelled L inner u → Run L r ss to w t → Run L r ss from (u ++ w) t

abbrev pub Language : List Rule → (fuel r : ℕ) → Chain → Type 0
Language ρs zero r w = ⊥
Language ρs (suc fuel) r w = Run (Language ρs fuel) r (shapes ρs r) initial w final
