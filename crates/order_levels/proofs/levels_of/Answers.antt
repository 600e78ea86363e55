-- `levels_of` meets its contract: the names are sorted by rank and then put in their tiers.
use Rattle.std.proofs.Math.Nat.{min_comm}
use Rattle.std.proofs.lemmas.List.{take_min}
use Rattle.order_levels.proofs.levels_of.Goals as goal

pub returns : goal.returns
returns c = rw (c.min.ensures, min_comm, take_min) at c.climb-depth.ensures
