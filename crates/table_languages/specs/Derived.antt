-- A role derives exactly the chains that its machine reads.
use Rattle.std.specs.Prelude.{List, ℕ, zero, suc, ◌<◌}
use Rattle.roles.specs.Role.{Chain, name}
use Rattle.roles.specs.Rule.{Rule}
use Rattle.roles.specs.Derivation.{Derives}
use Rattle.order.specs.Leveled.{Leveled}
use Rattle.tables.specs.Run.{Language}
use Rattle.table_languages.specs.MachineRuns.{language_more}
use Rattle.table_languages.specs.Sound.{run_derives}
use Rattle.table_languages.specs.Complete.{derives-reads}

-- what the machine of a role reads is derived from it, at any depth
pub language_derives : (ρs : List Rule) (fuel r : ℕ) (w : Chain) → Language ρs fuel r w → Derives ρs r w
language_derives ρs zero r w p = absurd p
language_derives ρs (suc fuel) r w p = run_derives ρs (Language ρs fuel) (language_derives ρs fuel) r w p

-- what is derived from a role is read by its machine, where the levels fit and the fuel is above the role's level
pub derives_language : (n : ℕ) (ρs : List Rule) (l : Leveled n ρs) (fuel r : ℕ) (w : Chain) → l.level (name r) < fuel
    → Derives ρs r w → Language ρs fuel r w
derives_language n ρs l fuel r w h d = language_more ρs (suc (l.level (name r))) fuel r w h (derives-reads n ρs l r w d)
