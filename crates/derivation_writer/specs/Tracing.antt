-- Writing the steps of a derivation, leftmost role first: some links stand, roles are pending from a top on, and steps are written.
use Rattle.std.specs.Prelude.{List, [], ◌∷◌, ◌++◌, ◌≡◌, ℕ, suc, ◌+◌, ◌*◌, ◌≤◌, length, get_or, take, drop}
use Rattle.base.specs.Result.Result.{ok}
use Rattle.roles.specs.Role.{Chain}
use Rattle.derivation_steps.specs.WrittenSteps.{leads}
use Rattle.derivation_charts.specs.Chart.{Found, Charted}
use Rattle.book_questions.specs.RuleTable.{rule_in, Rules}
use Rattle.derivation_writer.specs.Pending.{roles_of, Below, Tiles, left_over}
use Rattle.derivation_writer.specs.declared.trace.Place.{Place}

-- a table of some rules over some roles, and a chart of the parts of a chain by them
pub record Ready (table : List ℕ) (w : Chain) (chart : List ℕ) : Type 0 where
  pub count : ℕ
  pub roles : ℕ
  pub rules : Rules table count roles
  pub charted : Charted count (rule_in table) roles w chart

-- the parts of the roles from the top on make up what is left of the chain
pub record Pends (roles : ℕ) (w : Chain) (chart pending : List ℕ) (p : Place) : Type 0 where
  pub size : length pending ≡ 16
  pub few : p.top ≤ 16
  pub tiles : Tiles (Below roles (Found chart)) (drop p.top pending) p.link (length w)

module _ {table : List ℕ} {w : Chain} {chart : List ℕ} (ready : Ready table w chart) (role : ℕ) (old : List ℕ) where
  -- the steps written so far lead to the links that stand, followed by the pending roles; the bytes behind them are the old ones
  pub record Tracing (steps pending : List ℕ) (p : Place) : Type 0 where
    pub pends : Pends ready.roles w chart pending p
    pub size : length steps ≡ length old
    pub kept : (x : ℕ) → 4 * p.step ≤ x → get_or steps x 0 ≡ get_or old x 0
    pub led : leads ready.count (rule_in table) steps 0 p.step (role ∷ []) ≡ ok (take p.link w ++ roles_of (drop p.top pending))
    pub bound : p.step + left_over ready.charted.rank (drop p.top pending) p.link ≤ 3952

  -- so many steps lead to the chain
  pub record Traced (steps : List ℕ) (n : ℕ) : Type 0 where
    pub few : n ≤ 4096
    pub size : length steps ≡ length old
    pub kept : (x : ℕ) → 4 * n ≤ x → get_or steps x 0 ≡ get_or old x 0
    pub led : leads ready.count (rule_in table) steps 0 n (role ∷ []) ≡ ok w

-- one link more stands, or one step more is written
pub record Turned (table : List ℕ) (w : Chain) (chart steps pending : List ℕ) (p : Place) (steps' pending' : List ℕ) (p' : Place) : Type 0 where
  pub onward : p'.step + p'.link ≡ suc (p.step + p.link)
  pub tracing : (ready : Ready table w chart) (role : ℕ) (old : List ℕ) → Tracing ready role old steps pending p
      → Tracing ready role old steps' pending' p'
