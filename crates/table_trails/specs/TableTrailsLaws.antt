-- Hops lead exactly where a path through the table and a trail along the links spell the same chain.
use Rattle.std.specs.Prelude.{List, [], ◌∷◌, ℕ}
use Rattle.roles.specs.Role.{Chain, inv}
use Rattle.networks.specs.Network.{Link}
use Rattle.networks.specs.Trail.{Trail}
use Rattle.networks.specs.Trail.Trail.{stop as stay, ahead as forth, back as fro}
use Rattle.tables.specs.Tables.{Transition}
use Rattle.tables.specs.Path.{Path}
use Rattle.tables.specs.Path.Path.{stop as done, skip, read}
use Rattle.table_trails.specs.TableTrails.{Leads}
use Rattle.table_trails.specs.TableTrails.Hop.{quiet, ahead, back}
use Rattle.table_trails.specs.TableTrails.Leads.{stop, hop}

module _ {ms : List Transition} {ls : List Link} {t j : ℕ} where
  pub leads-spelled : {p i : ℕ} → Leads ms ls t j p i → (v : Chain) × Path ms p v t × Trail ls v i j
  leads-spelled stop = ([], done, stay)
  leads-spelled (hop (quiet m) s) = let (v, path, trail) = leads-spelled s in (v, skip m path, trail)
  leads-spelled (hop (ahead l k h m) s) = let (v, path, trail) = leads-spelled s in (l.role ∷ v, read h m path, forth l k trail)
  leads-spelled (hop (back l k h m) s) = let (v, path, trail) = leads-spelled s in (inv l.role ∷ v, read h m path, fro l k trail)

  pub spelled-leads : {v : Chain} {p i : ℕ} → Path ms p v t → Trail ls v i j → Leads ms ls t j p i
  spelled-leads done stay = stop
  spelled-leads (skip m path) trail = hop (quiet m) (spelled-leads path trail)
  spelled-leads (read h m path) (forth l k trail) = hop (ahead l k h m) (spelled-leads path trail)
  spelled-leads (read h m path) (fro l k trail) = hop (back l k h m) (spelled-leads path trail)
