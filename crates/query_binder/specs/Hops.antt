-- The hops of a pair over a chain that is laid, kind by kind: what is to be added to a set of pairs.
use Rattle.std.specs.Prelude.{List, ◌≡◌, ℕ, suc, ◌-◌, ◌<◌, ◌≤◌, length, get_or}
use Rattle.roles.specs.Role.{Chain, inv}
use Rattle.networks.specs.LaidChain.{laid}
use Rattle.tables.specs.Tables.{epsilon}
use Rattle.table_trails.specs.TableTrails.{Hop}
use Rattle.query_causes.specs.Query.{transitions_in}
use Rattle.query_simulation.specs.TransitionIndex.{slot, slot_at}
use Rattle.query_simulation.specs.Transitions.{label_at, to_at, transition_count, Arrow}
use Rattle.query_binder.specs.PairSets.{pair, state_of, place_of, Gains}
use Rattle.query_binder.specs.TrailIndex.{Indexed}

module _ (moves : List ℕ) where
  -- transition k has the label a, and leads to the pair y at place i
  abbrev pub Meets : (k a i y : ℕ) → Type 0
  Meets k a i y = (label_at moves k ≡ a) × (y ≡ pair (to_at moves k) i)

  -- a transition from p with the label a leads to the state of the pair y, whose place is i
  abbrev pub By : (p a i y : ℕ) → Type 0
  By p a i y = (place_of y ≡ i) × Arrow moves p a (state_of y)

  -- some such transition has a number from the entry on
  pub record Listed (p a i entry y : ℕ) : Type 0 where
    pub number : ℕ
    pub later : entry ≤ number
    pub inside : number < transition_count moves
    pub own : slot_at moves number ≡ slot p a
    pub meets : Meets number a i y

  -- a walk along the list for the state p and the label a: the transitions before the entry are left
  pub record Walked (room stamp p a i entry : ℕ) (s : List ℕ) (count : ℕ) (t : List ℕ) (more : ℕ) : Type 0 where
    pub low : entry ≤ transition_count moves
    pub own : 0 < entry → slot_at moves (entry - 1) ≡ slot p a
    pub gains : Gains room stamp (Listed p a i entry) s count t more

  module _ (w : Chain) where
    -- from the state p at place i along the next link
    abbrev pub Ahead : (p i y : ℕ) → Type 0
    Ahead p i y = (i < length w) × (place_of y ≡ suc i) × (get_or w i 0 < epsilon) × Arrow moves p (get_or w i 0) (state_of y)

    -- along the link before, backwards
    abbrev pub Back : (p i y : ℕ) → Type 0
    Back p i y =
        (i ≡ suc (place_of y)) × (place_of y < length w) × (inv (get_or w (place_of y) 0) < epsilon)
        × Arrow moves p (inv (get_or w (place_of y) 0)) (state_of y)

    -- the hops from the pair x to the pair y
    abbrev pub Hops : (x y : ℕ) → Type 0
    Hops x y = Hop (transitions_in moves) (laid w) (state_of x) (place_of x) (state_of y) (place_of y)

-- tables in an index, and a chain of at most 16 letters: what hops are taken by
pub record Ground (room : ℕ) (moves index : List ℕ) (w : Chain) : Type 0 where
  pub indexed : Indexed room moves index (transition_count moves)
  pub few : length w ≤ 16
  pub small : (k : ℕ) → k < length w → get_or w k 0 < epsilon
