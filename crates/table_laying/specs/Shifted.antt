-- Transitions with all states moved alike.
use Rattle.std.specs.Prelude.{List, [], ◌∷◌, ◌≡◌, ℕ, ◌+◌, ◌<◌}
use Rattle.tables.specs.Tables.{Transition}

-- the states of the first are below a bound; the second are the first with d added to their states
pub data Shifted (d bound : ℕ) : List Transition → List Transition → Type 0 where
  none : Shifted d bound [] []
  one : {t u : Transition} {ts us : List Transition} → t.from < bound → t.to < bound → u.from ≡ t.from + d → u.label ≡ t.label → u.to ≡ t.to + d
      → Shifted d bound ts us → Shifted d bound (t ∷ ts) (u ∷ us)
