-- The pairs that hops lead to from the state `head` at the place `begin`, gathered in a set.
use Rattle.std.specs.Prelude.{List, ℕ, ◌<◌, ◌≤◌, get_or}
use Rattle.roles.specs.Role.{Chain}
use Rattle.networks.specs.LaidChain.{laid}
use Rattle.table_trails.specs.TableTrails.{Leads}
use Rattle.query_causes.specs.Query.{transitions_in}
use Rattle.query_binder.specs.Hops.{Hops}
use Rattle.query_binder.specs.PairSets.{pair, state_of, place_of, Member, PairSet}

-- the set so far; the hops of its first n members lead to members
pub record Reaching (moves : List ℕ) (w : Chain) (room stamp head begin n : ℕ) (s : List ℕ) (count : ℕ) : Type 0 where
  pub good : PairSet room stamp s count
  pub done : n ≤ count
  pub start : Member s count (pair head begin)
  pub sound : (i : ℕ) → i < count → (t j : ℕ) → Leads (transitions_in moves) (laid w) t j (state_of (get_or s i 0)) (place_of (get_or s i 0))
      → Leads (transitions_in moves) (laid w) t j head begin
  pub closed : (i : ℕ) → i < n → (y : ℕ) → Hops moves w (get_or s i 0) y → Member s count y
