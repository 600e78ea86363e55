-- What each step of filling an index leaves: the rules entered; then no rule of any name or kind, and the levels; then the rules linked, from the
-- last to the first.
use Rattle.std.specs.Prelude.{true, List, ◌≡◌, ℕ, suc, ◌+◌, ◌-◌, ◌*◌, ◌<◌, ◌≤◌, length, get_or, drop}
use mir.Val.{bool_byte}
use Rattle.roles.specs.Role.{name}
use Rattle.roles.specs.Rule.{Rule}
use Rattle.order.specs.Shape.{shape}
use Rattle.order.specs.ShapeForms.{AllApart}
use Rattle.tables.specs.Tables.{own_shapes}
use Rattle.book_format.specs.Place.{rule_at, whole_at, rule_place}
use Rattle.rule_index.specs.RuleLinks.{rule, Link}
use Rattle.rule_index.specs.RuleKinds.{has}
use Rattle.rule_index.specs.RuleIndex.{next_in, first_in, level_in, flag_in, Recorded}

-- n whole rules follow one another in the bytes of a book
pub record Ruled (s : List ℕ) (n : ℕ) : Type 0 where
  pub few : n ≤ 256
  pub whole : (k : ℕ) → k < n → whole_at s (rule_place s k) ≡ true

-- the first i inner roles of rule k are copied from a place of its left side on; the numbers before them are as they were
pub record Copied (left : List ℕ) (start k i : ℕ) (before ix : List ℕ) : Type 0 where
  pub size : length ix ≡ 3904
  pub kept : (m : ℕ) → m < 14 * k + 6 → get_or ix m 0 ≡ get_or before m 0
  pub inner : (j : ℕ) → j < i → get_or ix (14 * k + 6 + j) 0 ≡ get_or left (start + j) 0

-- rule k is entered; the numbers before its own are as they were
pub record Entered (ρ : Rule) (k : ℕ) (before ix : List ℕ) : Type 0 where
  pub size : length ix ≡ 3904
  pub kept : (m : ℕ) → m < 14 * k → get_or ix m 0 ≡ get_or before m 0
  pub entry : Recorded ρ ix k

-- the first n rules of a book are entered
pub record Entering (s : List ℕ) (n : ℕ) (ix : List ℕ) : Type 0 where
  pub size : length ix ≡ 3904
  pub entry : (k : ℕ) → k < n → Recorded (rule_at s (rule_place s k)) ix k

-- the first n names have no rule of any kind, and their levels, counted from 0; the numbers of rules are as before
pub record Started (levels : List ℕ) (n : ℕ) (before ix : List ℕ) : Type 0 where
  pub size : length ix ≡ 3904
  pub kept : (m : ℕ) → m < 3584 → get_or ix m 0 ≡ get_or before m 0
  pub first : (x : ℕ) → x < n → first_in ix x ≡ 256
  pub level : (x : ℕ) → x < n → level_in ix x ≡ get_or levels x 0 - 1
  pub clear : (kind x : ℕ) → kind ≤ 1 → x < n → flag_in ix kind x ≡ 0

-- the index has n rules, over at most 64 names, whose inner names are not their right names, and no name has a rule yet
pub record Linkable (ρs : List Rule) (n : ℕ) (ix : List ℕ) : Type 0 where
  pub size : length ix ≡ 3904
  pub count : n ≡ length ρs
  pub few : n ≤ 256
  pub entry : (k : ℕ) → k < n → Recorded (rule ρs k) ix k
  pub small : (k : ℕ) → k < n → (rule ρs k).right < 128
  pub apart : (k : ℕ) → k < n → AllApart (rule ρs k).right (shape (rule ρs k))
  pub none : (x : ℕ) → x < 64 → first_in ix x ≡ 256
  pub clear : (kind x : ℕ) → kind ≤ 1 → x < 64 → flag_in ix kind x ≡ 0

-- the rules from k on are linked; all else in the numbers of rules, and the levels, are as before
pub record Linking (ρs : List Rule) (k : ℕ) (before ix : List ℕ) : Type 0 where
  pub size : length ix ≡ 3904
  pub kept : (m : ℕ) → m < 3584 → ((j : ℕ) → m ≡ 14 * j + 5 → ⊥) → get_or ix m 0 ≡ get_or before m 0
  pub level : (x : ℕ) → x < 64 → level_in ix x ≡ level_in before x
  pub first : (x : ℕ) → x < 64 → Link ρs x k (first_in ix x)
  pub next : (j : ℕ) → k ≤ j → j < length ρs → Link ρs (name (rule ρs j).right) (suc j) (next_in ix j)
  pub kinds : (kind r : ℕ) → kind ≤ 1 → r < 128 → flag_in ix kind (name r) ≡ bool_byte (has kind (own_shapes (drop k ρs) r))
