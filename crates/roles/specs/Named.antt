-- Rules over the names below n.
use mathlib.Core.List.{List, Memᴰ}
use Rattle.std.specs.Prelude.{ℕ, ◌*◌, ◌<◌}
use Rattle.roles.specs.Rule.{Rule}

-- every role of the rules has a name below n
abbrev pub Named : ℕ → List Rule → Type 0
Named n ρs = (ρ : Rule) → Memᴰ ρ ρs → (ρ.right < 2 * n) × ((s : ℕ) → Memᴰ s ρ.left → s < 2 * n)
