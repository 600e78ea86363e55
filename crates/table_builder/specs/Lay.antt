-- What the functions that lay fragments require and promise, over the place that they are handed and the one that they hand back.
use Rattle.std.specs.Prelude.{List, [], ◌∷◌, ◌≡◌, ℕ, suc, ◌*◌, ◌<◌, ◌≤◌, length, drop}
use Rattle.std.proofs.lemmas.List.Edits.{sets}
use Rattle.roles.specs.Role.{name}
use Rattle.roles.specs.Rule.{Rule}
use Rattle.order.specs.Shape.{Shape}
use Rattle.tables.specs.Tables.{Transition, numbers, own_shapes, rows_size, rows_transitions, size_of, transitions_of}
use Rattle.tables.specs.Tables.{states_from, transitions_from, roots_from}
use Rattle.table_laying.specs.Own.{facing}
use Rattle.table_laying.specs.Fragment.{own_letters}
use Rattle.rule_index.specs.RuleLinks.{rule}
use Rattle.rule_index.specs.RuleIndex.{Indexed, level_in}
use Rattle.rule_index.specs.RuleKinds.{has}
use Rattle.table_builder.specs.Memo.{Memo}
use Rattle.table_writer.specs.declared.Place.{Place}
use Rattle.table_writer.specs.Adding.{Small, Lays, Added, begun}

-- the letters of a fragment and its transition back
abbrev pub Lettered : (index : List ℕ) (role : ℕ) → Place → List ℕ → Place → List ℕ → Type 0
Lettered index role p m q n =
    (ρs : List Rule) → Indexed ρs index → Added (own_letters (has 1 (own_shapes ρs role)) (has 0 (own_shapes ρs role)) role p.state) (begun p) m q n

-- required: an index of some rules, a role of a declared name, a small place and a true memo
pub record Ready (ix : List ℕ) (r : ℕ) (p : Place) (o m : List ℕ) : Type 0 where
  pub rules : List Rule
  pub index : Indexed rules ix
  pub role : r < 128
  pub small : Small p
  pub memo : Memo ix o p m

-- promised: for fuel from a level on, so many states and these transitions are laid between two places, and the memo is true of the second
pub record Lain (size : List Rule → ℕ → ℕ) (ts : List Rule → ℕ → List Transition) (ix : List ℕ) (level : ℕ)
    (p : Place) (m : List ℕ) (q : Place) (o n : List ℕ) : Type 0 where
  pub small : Small q
  pub laid : (ρs : List Rule) → Indexed ρs ix → (fuel : ℕ) → level ≤ fuel → Lays (size ρs fuel) (ts ρs fuel) p m q n
  pub memo : Memo ix o q n

-- a fragment of a role
abbrev pub FragmentOf : (index : List ℕ) (role : ℕ) → Place → List ℕ → Place → List ℕ → Type 0
FragmentOf index role p m q n =
    (ρs : List Rule) → Indexed ρs index → (fuel : ℕ) → level_in index (name role) < fuel
    → Lays (size_of ρs fuel role) (transitions_of ρs fuel role p.state) p m q n

abbrev pub FragmentLaid : (index : List ℕ) (role : ℕ) → Place → List ℕ → Place → (memo n : List ℕ) → Type 0
FragmentLaid index role p m q memo n =
    Lain (λ ρs fuel. size_of ρs fuel role) (λ ρs fuel. transitions_of ρs fuel role p.state) index (suc (level_in index (name role))) p m q memo n

-- the rows of some shapes, for a fragment of a role at an initial state
abbrev pub ShapesLaid : (List Rule → List Shape) → (initial : ℕ) (index : List ℕ) (role : ℕ) → Place → List ℕ → Place → (memo n : List ℕ) → Type 0
ShapesLaid ss initial index role p m q memo n =
    Lain (λ ρs fuel. rows_size (size_of ρs fuel) (ss ρs)) (λ ρs fuel. rows_transitions (size_of ρs fuel) (transitions_of ρs fuel) initial p.state (ss ρs))
    index (level_in index (name role)) p m q memo n

-- those of the role's rules from rule k on, and that of rule k
abbrev pub RowsLaid : (k initial : ℕ) (index : List ℕ) (role : ℕ) → Place → List ℕ → Place → (memo n : List ℕ) → Type 0
RowsLaid k initial index role p m q memo n = ShapesLaid (λ ρs. own_shapes (drop k ρs) role) initial index role p m q memo n

abbrev pub RowLaid : (k initial : ℕ) (index : List ℕ) (role : ℕ) → Place → List ℕ → Place → (memo n : List ℕ) → Type 0
RowLaid k initial index role p m q memo n = ShapesLaid (λ ρs. facing role (rule ρs k) ∷ []) initial index role p m q memo n

-- fuel for the roots of names
abbrev pub Enough : (ix : List ℕ) (names fuel : ℕ) → Type 0
Enough ix names fuel = (x : ℕ) → x < names → level_in ix x < fuel

-- the roots of names are counted from state 0 on
pub record Counted (ρs : List Rule) (fuel names : ℕ) (r : Place) : Type 0 where
  pub within : states_from ρs fuel names 0 ≤ 2048 → r.state ≡ states_from ρs fuel names 0
  pub over : 2048 < states_from ρs fuel names 0 → 2048 < r.state
  pub count : states_from ρs fuel names 0 ≤ 2048 → length (transitions_from ρs fuel names 0 0) < 60000
      → r.count ≡ length (transitions_from ρs fuel names 0 0)

-- and laid, and their places written
pub record Roots (ρs : List Rule) (fuel names : ℕ) (r : Place) (heads heads' moves moves' : List ℕ) : Type 0 where
  pub counted : Counted ρs fuel names r
  pub exact : states_from ρs fuel names 0 ≤ 2048 → length (transitions_from ρs fuel names 0 0) < 60000
      → 3 * length (transitions_from ρs fuel names 0 0) ≤ length moves → moves' ≡ sets moves 0 (numbers (transitions_from ρs fuel names 0 0))
  pub places : states_from ρs fuel names 0 ≤ 2048 → heads' ≡ sets heads 0 (roots_from ρs fuel names 0 0)

-- where there are names, for every list of rules that a list of numbers is an index of; where there are none, nothing is written
pub record Rooted (ix : List ℕ) (names : ℕ) (r : Place) (heads heads' moves moves' : List ℕ) : Type 0 where
  pub roots : (ρs : List Rule) → Indexed ρs ix → (fuel : ℕ) → Enough ix names fuel → Roots ρs fuel names r heads heads' moves moves'
  pub none : names ≡ 0 → (heads' ≡ heads) × (moves' ≡ moves)
