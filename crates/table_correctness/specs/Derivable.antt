-- On the tables of rules with a regular order, a path from a name's initial state to its final state spells a chain exactly where
-- finitely many replacements lead from the name to the chain. Over names and rules, not over bytes.
use Rattle.std.specs.Prelude.{List, ◌↔◌, ◌≡◌, ℕ, ◌+◌, ◌*◌, ◌/◌, ◌<◌, ◌≤◌, get_or}
use native.Mathlib.Omega.{arith}
use Rattle.roles.specs.Role.{Chain, name, inv, inv_chain}
use Rattle.roles.specs.RoleLaws.{inv-inv, inv_chain-inv_chain}
use Rattle.roles.specs.Rule.{Rule}
use Rattle.roles.specs.Named.{Named}
use Rattle.roles.specs.Derivation.{Derives}
use Rattle.order.specs.Regular.{Regular}
use Rattle.order.specs.DepthLaws.{regular_leveled}
use Rattle.tables.specs.Tables.{initial_states, transitions}
use Rattle.tables.specs.Path.{Path}
use Rattle.table_languages.specs.Derived.{language_derives, derives_language}
use Rattle.rewriting.specs.Replacing.{derives-inverse}
use Rattle.table_automata.specs.Accepts.{path_language, language_path}

-- the path that a question about a name asks for
abbrev pub Accepted : ℕ → List Rule → ℕ → Chain → Type 0
Accepted n ρs x w = Path (transitions n ρs) (get_or (initial_states n ρs) x 0) w (get_or (initial_states n ρs) x 0 + 1)

module _ (n : ℕ) (ρs : List Rule) (few : n ≤ 64) (named : Named n ρs) (regular : Regular ρs) where
  level-small : (x : ℕ) → x < n → (regular_leveled n ρs named regular).level (name (2 * x)) < n
  unfolding name
  level-small x h = let e : 2 * x / 2 ≡ x = omega arith in rw e ((regular_leveled n ρs named regular).small x h)

  -- of a name
  pub accepted-derives : (x : ℕ) → x < n → (w : Chain) → Accepted n ρs x w ↔ Derives ρs (2 * x) w
  accepted-derives x h w = (
    λ p. language_derives ρs n (2 * x) w (path_language n ρs named few x h w p),
    λ d. language_path n ρs named few x h w (derives_language n ρs (regular_leveled n ρs named regular) n (2 * x) w (level-small x h) d),
  )

  -- of its inverse: the name is asked with the inverse of the chain
  pub accepted-derives-inverse : (x : ℕ) → x < n → (w : Chain) → Accepted n ρs x (inv_chain w) ↔ Derives ρs (inv (2 * x)) w
  accepted-derives-inverse x h w = (
    λ p. rw inv_chain-inv_chain at (derives-inverse ρs (2 * x) (inv_chain w) ((accepted-derives x h (inv_chain w)).0 p)),
    λ d. (accepted-derives x h (inv_chain w)).1 (rw inv-inv at (derives-inverse ρs (inv (2 * x)) w d)),
  )
