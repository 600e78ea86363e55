-- A role gives way to the left side of its rule: where the parts of the left roles end, and the pending roles then.
use Rattle.std.specs.Prelude.{List, ◌++◌, ◌≡◌, ℕ, suc, ◌+◌, ◌<◌, ◌≤◌, length, get_or, take, drop}
use Rattle.std.proofs.lemmas.List.Edits.{sets}
use Rattle.roles.specs.Role.{Chain}
use Rattle.derivation_charts.specs.Chart.{Found, Splits}
use Rattle.derivation_writer.specs.Pending.{roles_of, Tiles}

-- m is where the t-th role of a left side can end, of the part from i to j that it spells with those behind it
pub record CutAt (chart : List ℕ) (left : Chain) (t i j m : ℕ) : Type 0 where
  pub near : m < 64
  pub found : Found chart i m (get_or left t 0)
  pub behind : Splits (Found chart) (drop (t + 1) left) m j

-- such a place is not before m
pub record Cutting (chart : List ℕ) (left : Chain) (t i j m : ℕ) : Type 0 where
  pub place : ℕ
  pub later : m ≤ place
  pub less : place < j
  pub found : Found chart i place (get_or left t 0)
  pub behind : Splits (Found chart) (drop (t + 1) left) place j

-- pending numbers for the first t roles, whose parts go from i to m, are stored from a place on; the other roles spell the part from m to j
pub record Dividing (chart : List ℕ) (left : Chain) (i j : ℕ) (old : List ℕ) (first t m : ℕ) (new : List ℕ) : Type 0 where
  pub pairs : List ℕ
  pub named : roles_of pairs ≡ take t left
  pub tiles : Tiles (Found chart) pairs i m
  pub behind : Splits (Found chart) (drop t left) m j
  pub stored : new ≡ sets old first pairs

-- pending numbers for the whole left side stand in the place of the pending role at the top
pub record Divided (chart : List ℕ) (left : Chain) (i j : ℕ) (old : List ℕ) (top : ℕ) (new : List ℕ) (first : ℕ) : Type 0 where
  pub pairs : List ℕ
  pub named : roles_of pairs ≡ left
  pub tiles : Tiles (Found chart) pairs i j
  pub place : first + length left ≡ suc top
  pub size : length new ≡ length old
  pub stored : drop first new ≡ pairs ++ drop (suc top) old
