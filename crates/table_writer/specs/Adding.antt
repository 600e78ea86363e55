-- What adding transitions does to the place and to the lent numbers, and what a caller is to know of it.
use Rattle.std.specs.Prelude.{Bool, cond, ◌&&◌, List, [], ◌∷◌, ◌≡◌, ℕ, ◌+◌, ◌*◌, ◌%◌, ◌≤◌, leb, ltb, length}
use Rattle.std.proofs.lemmas.List.Edits.{sets}
use Rattle.tables.specs.Tables.{Transition, numbers}
use Rattle.table_laying.specs.Laid.{Laid}
use Rattle.table_laying.specs.Fragment.{own_letters}
use Rattle.table_writer.specs.declared.Place.{Place}

-- within the limits
abbrev pub within : Place → Bool
within p = leb p.state 2048 && ltb p.count 60000

-- one transition more: counted within the limits, written where there is room
abbrev pub more : Place → Place
more p = cond (within p) (record { state = p.state; count = p.count + 1 }) p

abbrev pub put_one : Transition → Place → List ℕ → List ℕ
put_one t p m = cond (within p && leb (3 * p.count + 3) (length m)) (sets m (3 * p.count) (numbers (t ∷ []))) m

-- some transitions, one after another
unfoldable pub adds_place : List Transition → Place → Place
adds_place [] p = p
adds_place (t ∷ ts) p = adds_place ts (more p)

unfoldable pub adds_moves : List Transition → Place → List ℕ → List ℕ
adds_moves [] p m = m
adds_moves (t ∷ ts) p m = adds_moves ts (more p) (put_one t p m)

-- so much is added between two places and two lists of numbers
abbrev pub Adds : List Transition → Place → List ℕ → Place → List ℕ → Type 0
Adds ts p m q n = (q ≡ adds_place ts p) × (n ≡ adds_moves ts p m)

-- one transition if there is to be one, by the low 16 bits of its numbers
abbrev pub one : Bool → (from label to : ℕ) → List Transition
one present from label to = cond present (record { from = from % 65536; label = label % 65536; to = to % 65536 } ∷ []) []

-- two states further
abbrev pub begun : Place → Place
begun p = record { state = p.state + 2; count = p.count }

-- the letters of a fragment and its transition back, where there is room for its two states
unfoldable pub letters_place : (symmetric transitive : Bool) → ℕ → Place → Place
letters_place symmetric transitive role p =
    cond (leb p.state 2046) (adds_place (own_letters symmetric transitive role p.state) (begun p)) (record { state = 2049; count = p.count })

unfoldable pub letters_moves : (symmetric transitive : Bool) → ℕ → Place → List ℕ → List ℕ
letters_moves symmetric transitive role p m =
    cond (leb p.state 2046) (adds_moves (own_letters symmetric transitive role p.state) (begun p) m) m

-- states up to one past the limit, and no more transitions than are counted
pub record Small (p : Place) : Type 0 where
  pub state : p.state ≤ 2049
  pub count : p.count ≤ 60000

-- z states and some transitions are laid between two places
abbrev pub Lays : ℕ → List Transition → Place → List ℕ → Place → List ℕ → Type 0
Lays z ts p m q n = Laid z ts p.state p.count m q.state q.count n

-- some transitions are added that take no state
pub record Added (ts : List Transition) (p : Place) (m : List ℕ) (q : Place) (n : List ℕ) : Type 0 where
  pub small : Small q
  pub same : q.state ≡ p.state
  pub laid : Lays 0 ts p m q n
