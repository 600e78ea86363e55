-- From a book's bytes to the answer: where a book is accepted, a question over its names with a chain of 1 to 1,024 links, put to its tables,
-- is never refused, and the path that it asks for exists exactly where finitely many replacements lead from the role to the chain. Trails lead
-- exactly where the chain binds the role.
use Rattle.std.specs.Prelude.{true, List, [], ◌∷◌, ◌↔◌, ◌⊎◌, ◌≡◌, refl, ℕ, ◌+◌, ◌*◌, ◌%◌, ◌<◌, ◌≤◌, length, get_or}
use mathlib.Core.List.Memᴰ
use Rattle.std.proofs.Common.{inl, inr, ap, ◌∙◌, zero-add, arith, le-leb, eq-eqb, ne_eqb}
use Rattle.roles.specs.Role.{Chain, name, polarity, inv, inv_chain}
use Rattle.roles.specs.RoleLaws.{name_below}
use Rattle.roles.specs.Rule.{Book}
use Rattle.roles.specs.Named.{Named}
use Rattle.roles.specs.Derivation.{Derives}
use Rattle.base.specs.Truth.{eq_or_ne}
use Rattle.networks.specs.Network.{Binds}
use Rattle.order.specs.Regular.{Regular}
use Rattle.tables.specs.Tables.{Transition, transitions, numbers}
use Rattle.base.specs.Result.Result.{ok}
use Rattle.book_format.specs.Format.{read, named}
use Rattle.book_format.specs.ReadLaws.{rules-some, read_names, read-some_name, read-few_names}
use Rattle.book_causes.specs.OrderedRun.{ordered-read, ordered_regular}
use Rattle.book_causes.specs.Accepted.{states_of, count_of, heads_of, moves_of, built}
use Rattle.book_causes.specs.AcceptedLaws.{Passed, accepted-passed, built-accepted}
use Rattle.table_laying.specs.Pieces.{length-numbers, length-roots}
use Rattle.query_causes.specs.Query.{transitions_in, heads_fit, transitions_fit, tables_fit, question, query, asked, Accepts}
use Rattle.base.specs.Every.{Every, every_tail}
use Rattle.table_correctness.specs.Derivable.{accepted-derives, accepted-derives-inverse}
use Rattle.table_trails.specs.TableTrails.{TablesBind}
use Rattle.table_trails.specs.TrailsBind.{trails_bind}
use Rattle.query_correctness.specs.Within.{Within, roots-within, heads-within}

-- the numbers of transitions spell them
transitions-numbers : (ms : List Transition) → transitions_in (numbers ms) ≡ ms
unfolding transitions_in numbers
transitions-numbers [] = refl
transitions-numbers (m ∷ ms) = ap (λ (ns : List Transition). m ∷ ns) (transitions-numbers ms)

-- cause 12, for states below 2,048
heads-fitting : (hs : List ℕ) → Every (λ (h : ℕ). h + 2 ≤ 2048) hs → heads_fit hs ≡ true
unfolding heads_fit
heads-fitting [] every = refl
heads-fitting (h ∷ hs) every =
    let l : h + 2 ≤ 2048 = every h (Memᴰ.head refl) in
    rw (le-leb h 2046 (omega arith), heads-fitting hs (every_tail (λ (h : ℕ). h + 2 ≤ 2048) every)) refl

transitions-fitting : (ms : List Transition) → Every (Within 2048) ms → transitions_fit ms ≡ true
unfolding transitions_fit
transitions-fitting [] every = refl
transitions-fitting (m ∷ ms) every =
    let w = every m (Memᴰ.head refl) in
    let from : m.from < 2048 = w.0 in
    let to : m.to < 2048 = w.2 in
    rw (
      le-leb m.from 2047 (omega arith),
      le-leb m.label 128 w.1,
      le-leb m.to 2047 (omega arith),
      transitions-fitting ms (every_tail (Within 2048) every),
    )
    refl

fitting_tables : (hs ms : List ℕ) → 1 ≤ length hs → length hs ≤ 64 → heads_fit hs ≡ true → length ms % 3 ≡ 0 → length ms ≤ 15360
    → transitions_fit (transitions_in ms) ≡ true → tables_fit hs ms ≡ true
unfolding tables_fit
fitting_tables hs ms some few heads threes short moves =
    rw (le-leb 1 (length hs) some, le-leb (length hs) 64 few, heads, eq-eqb (length ms % 3) 0 threes, le-leb (length ms) 15360 short, moves) refl

-- tables that pass cause 12 leave causes 13 and 14
asking : (hs ms : List ℕ) (r : ℕ) (w : Chain) → tables_fit hs ms ≡ true → query hs ms r w ≡ question (length hs) r w
unfolding query
asking hs ms r w fit = rw fit refl

-- a role by its name and polarity
role-plain : (r : ℕ) → (polarity r ≡ 1 → ⊥) → 2 * name r ≡ r
unfolding polarity name
role-plain r h = omega (arith, h)

role-inverse : (r : ℕ) → polarity r ≡ 1 → inv (2 * name r) ≡ r
unfolding polarity name inv
role-inverse r h = omega (arith, h)

asked-plain : (r : ℕ) (w : Chain) → (polarity r ≡ 1 → ⊥) → asked r w ≡ w
unfolding asked
asked-plain r w h = rw (ne_eqb (polarity r) 1 h) refl

asked-inverse : (r : ℕ) (w : Chain) → polarity r ≡ 1 → asked r w ≡ inv_chain w
unfolding asked
asked-inverse r w h = rw (eq-eqb (polarity r) 1 h) refl

module _ (s : List ℕ) (heads moves : ℕ) (b : Book) (e : built s heads moves ≡ ok b) where
  passed : Passed s b
  passed = accepted-passed s b (built-accepted s heads moves b e)

  well_read : read s ≡ ok b
  well_read = ordered-read s b passed.ordered

  regular : Regular b.rules
  regular = ordered_regular s b passed.ordered

  few : b.names ≤ 64
  few = read-few_names s b well_read

  over : Named b.names b.rules
  over = read_names s b well_read

  fit : tables_fit (heads_of b) (moves_of b) ≡ true
  fit =
      let size : states_of b ≤ 2048 = passed.states in
      let count : count_of b ≤ 5120 = passed.count in
      let roots : length (heads_of b) ≡ b.names = length-roots b.rules b.names b.names 0 0 in
      let three : length (moves_of b) ≡ 3 * count_of b = length-numbers (transitions b.names b.rules) in
      fitting_tables (heads_of b) (moves_of b) (rw roots (read-some_name s b well_read)) (rw roots few)
      (heads-fitting (heads_of b) (heads-within b.names 2048 few b.rules over b.names b.names 0 0 (rw zero-add size)))
      (omega (arith, three)) (omega (arith, three, count))
      (rw (transitions-numbers (transitions b.names b.rules))
      (transitions-fitting (transitions b.names b.rules)
      (roots-within b.names 2048 few b.rules over b.names b.names 0 0 (omega arith) (rw zero-add size))))

  -- cause 12 never comes
  pub query-question : (r : ℕ) (w : Chain) → query (heads_of b) (moves_of b) r w ≡ question b.names r w
  query-question r w =
      asking (heads_of b) (moves_of b) r w fit ∙ ap (λ (n : ℕ). question n r w) (length-roots b.rules b.names b.names 0 0)

  -- never refused
  pub never_refused : (r : ℕ) (w : Chain) → 1 ≤ length w → length w ≤ 1024 → named b.names (r ∷ w) ≡ true
      → query (heads_of b) (moves_of b) r w ≡ ok tt
  never_refused r w some short own = query-question r w ∙ rw (le-leb 1 (length w) some, le-leb (length w) 1024 short, own) refl

  -- yes exactly where derived
  pub accepts-derives : (r : ℕ) → r < 2 * b.names → (w : Chain) → Accepts (heads_of b) (moves_of b) r w ↔ Derives b.rules r w
  accepts-derives r h w = by-polarity (eq_or_ne (polarity r) 1)
    where
      below : name r < b.names
      below = name_below r b.names h

      by-polarity : (polarity r ≡ 1) ⊎ (polarity r ≡ 1 → ⊥) → Accepts (heads_of b) (moves_of b) r w ↔ Derives b.rules r w
      by-polarity (inl p) =
          rw (transitions-numbers (transitions b.names b.rules), asked-inverse r w p)
          (rw (role-inverse r p) at (accepted-derives-inverse b.names b.rules few over regular (name r) below w))
      by-polarity (inr p) =
          rw (transitions-numbers (transitions b.names b.rules), asked-plain r w p)
          (rw (role-plain r p) at (accepted-derives b.names b.rules few over regular (name r) below w))

  -- by trails, yes exactly where it binds
  pub trails_bind_book : (r : ℕ) (w : Chain) → r < 2 * b.names → ((i : ℕ) → i < length w → get_or w i 0 < 2 * b.names)
      → TablesBind (heads_of b) (transitions_in (moves_of b)) r w ↔ Binds b.rules r w
  trails_bind_book r w h roles =
      rw (transitions-numbers (transitions b.names b.rules))
      (trails_bind b.names b.rules few over regular (rules-some s b well_read) r w h roles)
