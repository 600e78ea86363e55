-- What a set of states stands for while a chain is read: some member has a path along what is left exactly where the first state has one
-- along the whole.
use Rattle.std.specs.Prelude.{List, ◌∷◌, ℕ, ◌+◌, ◌-◌, ◌<◌, ◌≤◌, length, get_or, drop}
use Rattle.roles.specs.Role.{Chain}
use Rattle.tables.specs.Tables.{epsilon}
use Rattle.tables.specs.Path.{Path}
use Rattle.query_causes.specs.Query.{transitions_in}
use Rattle.query_simulation.specs.States.{Members, States, Member, Unused, Behind, Added}
use Rattle.query_simulation.specs.Transitions.{transition_count, Arrow, Fit}
use Rattle.query_simulation.specs.TransitionIndex.{Indexed, Prepared}

-- a chain that can be asked, over any names
pub record Letters (w : Chain) : Type 0 where
  pub few : length w ≤ 1024
  pub small : (k : ℕ) → k < length w → get_or w k 0 < epsilon

module _ (moves : List ℕ) where
  -- a path in the transitions that the numbers spell
  abbrev pub Leads : ℕ → Chain → ℕ → Type 0
  Leads p w t = Path (transitions_in moves) p w t

  -- some member has a path along w to t
  pub record Reaches (s : List ℕ) (list count : ℕ) (w : Chain) (t : ℕ) : Type 0 where
    pub place : ℕ
    pub inside : place < count
    pub path : Leads (get_or s (list + place) 0) w t

  -- the silent transitions of the first n members lead to members
  abbrev pub Closed : (n : ℕ) (s : List ℕ) (list count : ℕ) → Type 0
  Closed n s list count = (i : ℕ) → i < n → (q : ℕ) → Arrow moves (get_or s (list + i) 0) epsilon q → Member s list count q

  module _ (room stamp list : ℕ) where
    -- t is s with what its members reach silently, the first n members of t done
    pub record Closing (n : ℕ) (s : List ℕ) (count : ℕ) (t : List ℕ) (more : ℕ) : Type 0 where
      pub added : Added room stamp list s count t more (λ q. (w : Chain) (u : ℕ) → Leads q w u → Reaches s list count w u)
      pub closed : Closed n t list more

    -- a set to read the letter a from, and a stamp for the next
    pub record Steps (a : ℕ) (s : List ℕ) (count : ℕ) : Type 0 where
      pub letter : a < epsilon
      pub members : Members room s list count
      pub closed : Closed count s list count
      pub unused : Unused room stamp s
      pub indexed : Indexed room moves s (transition_count moves)

    -- t has in the other list what the first n members of s reach by the label a
    pub record Gathered (a n : ℕ) (s : List ℕ) (count : ℕ) (t : List ℕ) (more : ℕ) : Type 0 where
      pub added : Added room stamp (room - list) s 0 t more (λ q. (i : ℕ) × (i < count) × Arrow moves (get_or s (list + i) 0) a q)
      pub there : (i : ℕ) → i < n → (q : ℕ) → Arrow moves (get_or s (list + i) 0) a q → Member t (room - list) more q

    -- t has in the other list the set after that of s when the letter a is read
    pub record Stepped (a : ℕ) (s : List ℕ) (count : ℕ) (t : List ℕ) (more : ℕ) : Type 0 where
      pub good : States room stamp t (room - list) more
      pub closed : Closed more t (room - list) more
      pub behind : Behind room s t
      pub forth : (w : Chain) (u : ℕ) → Reaches s list count (a ∷ w) u → Reaches t (room - list) more w u
      pub back : (w : Chain) (u : ℕ) → Reaches t (room - list) more w u → Reaches s list count (a ∷ w) u

    -- the set after the first i links of the chain w are read from the state p on
    pub record Read (p : ℕ) (w : Chain) (i : ℕ) (s : List ℕ) (count : ℕ) : Type 0 where
      pub good : States room stamp s list count
      pub closed : Closed count s list count
      pub indexed : Indexed room moves s (transition_count moves)
      pub forth : (u : ℕ) → Leads p w u → Reaches s list count (drop i w) u
      pub back : (u : ℕ) → Reaches s list count (drop i w) u → Leads p w u

  -- a chain that can be asked of transitions that fit, from the state `head` to the next one
  pub record Askable (head : ℕ) (w : Chain) : Type 0 where
    pub few : length moves ≤ 15360
    pub fit : Fit 2048 moves
    pub low : head ≤ 2046
    pub letters : Letters w

  -- what reading a chain from the state `head` to the next one asks for
  pub record Readable (room stamp head : ℕ) (w : Chain) (s : List ℕ) : Type 0 where
    pub prepared : Prepared room stamp moves (transition_count moves) s
    pub letters : Letters w
    pub inside : head + 1 < room
    pub early : stamp ≤ 64000
