-- The numbered tables accept exactly what the two-state machines read: the paths from a root's initial state to its final state spell
-- the chains of the name's language.
use Rattle.std.specs.Prelude.{List, [], ◌≡◌, refl, get_or}
use Rattle.std.proofs.Common.{append-nil, not-suc-le-zero}
use Prim.Native.Nat.{ℕ, zero, suc, ◌+◌, ◌*◌, ◌<◌, ◌≤◌}
use native.Mathlib.Omega.{arith}
use Rattle.roles.specs.Role.{Chain}
use Rattle.roles.specs.Rule.{Rule}
use Rattle.tables.specs.Tables.{Transition, size_of, transitions_of, roots_from, transitions_from, states_from, initial_states, transitions}
use Rattle.tables.specs.Path.{Path}
use Rattle.tables.specs.Path.Path.{stop}
use Rattle.tables.specs.Run.{Language}
use Rattle.base.specs.Every.{Every, every_nil, every_append, every_left, every_right}
use Rattle.roles.specs.Named.{Named}
use Rattle.table_automata.specs.FromRun.{In, language_leads}
use Rattle.table_automata.specs.Carried.{Property, Split, glue, Agree, agree_self, agree_below, agree_from, Carries, carried, Fits}
use Rattle.table_automata.specs.Carried.Split.{split}
use Rattle.table_automata.specs.CarriedRows.{Sound}
use Rattle.table_automata.specs.FromPath.{sound-at}

-- nothing follows the final state of a root
Ended : Property
Ended w = w ≡ []

split-ended : {P : Property} {w : Chain} → Split P Ended w → P w
unfolding Ended
split-ended (split {u} p e) = rw (e, append-nil) p

module _ (n : ℕ) (ρs : List Rule) (fuel : ℕ) where
  -- the place of the root of name x + j, where those from x on stand from a place on
  abbrev root : (left x at j : ℕ) → ℕ
  root left x at j = get_or (roots_from ρs fuel left x at) j 0

  -- every root has its transitions among those of all
  root-has : (ms : List Transition) (left x at j : ℕ) → j < left → Every (In ms) (transitions_from ρs fuel left x at)
      → Every (In ms) (transitions_of ρs fuel (2 * (x + j)) (root left x at j))
  unfolding transitions_from roots_from
  root-has ms zero x at j h has = absurd (not-suc-le-zero h)
  root-has ms (suc left) x at zero h has =
      let e : x + 0 ≡ x = omega arith in
      rw e (every_left (In ms) (transitions_from ρs fuel left (suc x) (at + size_of ρs fuel (2 * x))) has)
  root-has ms (suc left) x at (suc j) h has =
      let e : x + suc j ≡ suc x + j = omega arith in
      rw e (root-has ms left (suc x) (at + size_of ρs fuel (2 * x)) j (omega arith) (every_right (In ms) (transitions_of ρs fuel (2 * x) at) has))

  module _ (sound : Sound n (Language ρs fuel) (size_of ρs fuel) (transitions_of ρs fuel)) where
    -- the properties at the states of all roots
    in_roots : (left x at : ℕ) → ℕ → Property
    in_roots zero x at = λ y v. ⊥
    in_roots (suc left) x at =
        glue (at + size_of ρs fuel (2 * x)) (sound.at_state (2 * x) at Ended) (in_roots left (suc x) (at + size_of ρs fuel (2 * x)))

    module _ (K : ℕ → Property) where
      abbrev Rooted : (left x at : ℕ) → Type 1
      Rooted left x at = Agree K (in_roots left x at) at (at + states_from ρs fuel left x)

      first_fits : (left x at : ℕ) → x < n → Rooted (suc left) x at → Fits (Language ρs fuel (2 * x)) (transitions_of ρs fuel (2 * x) at) at Ended K
      unfolding in_roots states_from
      first_fits left x at b agree =
          let next : ℕ = at + size_of ρs fuel (2 * x) in
          sound.fits (2 * x) at Ended (omega arith) K
          (agree_below next (sound.at_state (2 * x) at Ended) (in_roots left (suc x) next) agree (omega arith))

      rest_rooted : (left x at : ℕ) → Rooted (suc left) x at → Rooted left (suc x) (at + size_of ρs fuel (2 * x))
      unfolding in_roots states_from
      rest_rooted left x at agree =
          let next : ℕ = at + size_of ρs fuel (2 * x) in
          agree_from next (sound.at_state (2 * x) at Ended) (in_roots left (suc x) next) agree (next + states_from ρs fuel left (suc x)) (omega arith) (omega arith)

      roots-carry : (left x at : ℕ) → x + left ≤ n → Rooted left x at → Every (Carries K) (transitions_from ρs fuel left x at)
      unfolding transitions_from
      roots-carry zero x at b agree = every_nil (Carries K)
      roots-carry (suc left) x at b agree =
          every_append (Carries K) (transitions_of ρs fuel (2 * x) at) (first_fits left x at (omega arith) agree).carry
          (roots-carry left (suc x) (at + size_of ρs fuel (2 * x)) (omega arith) (rest_rooted left x at agree))

      root-fits : (left x at j : ℕ) → x + left ≤ n → j < left → Rooted left x at
          → Fits (Language ρs fuel (2 * (x + j))) (transitions_of ρs fuel (2 * (x + j)) (root left x at j)) (root left x at j) Ended K
      unfolding roots_from
      root-fits zero x at j b h agree = absurd (not-suc-le-zero h)
      root-fits (suc left) x at zero b h agree = let e : x + 0 ≡ x = omega arith in rw e (first_fits left x at (omega arith) agree)
      root-fits (suc left) x at (suc j) b h agree =
          let e : x + suc j ≡ suc x + j = omega arith in
          rw e (root-fits left (suc x) (at + size_of ρs fuel (2 * x)) j (omega arith) (omega arith) (rest_rooted left x at agree))

-- a path from a root's initial state to its final state spells a chain of the name's language, and every such chain has one
pub path_language : (n : ℕ) (ρs : List Rule) → Named n ρs → n ≤ 64 → (x : ℕ) → x < n → (w : Chain)
    → Path (transitions n ρs) (get_or (initial_states n ρs) x 0) w (get_or (initial_states n ρs) x 0 + 1) → Language ρs n (2 * x) w
unfolding Ended
path_language n ρs named small x h w path =
    let sound = sound-at ρs n named small n in
    let K : ℕ → Property = in_roots n ρs n sound n 0 0 in
    let agree : Rooted n ρs n sound K n 0 0 = agree_self K 0 (0 + states_from ρs n n 0) in
    let e : 0 + x ≡ x = omega arith in
    let fit = rw e at (root-fits n ρs n sound K n 0 0 x (omega arith) h agree) in
    split-ended (fit.entry w (carried K (roots-carry n ρs n sound K n 0 0 (omega arith) agree) path (fit.exit [] refl)))

pub language_path : (n : ℕ) (ρs : List Rule) → Named n ρs → n ≤ 64 → (x : ℕ) → x < n → (w : Chain)
    → Language ρs n (2 * x) w → Path (transitions n ρs) (get_or (initial_states n ρs) x 0) w (get_or (initial_states n ρs) x 0 + 1)
language_path n ρs named small x h w l =
    let e : 0 + x ≡ x = omega arith in
    let head : ℕ = get_or (initial_states n ρs) x 0 in
    let has = rw e at (root-has n ρs n (transitions n ρs) n 0 0 x h (λ m k. k)) in
    rw append-nil at (language_leads (transitions n ρs) ρs n named small n (2 * x) head (omega arith) has w [] (head + 1) l stop)
