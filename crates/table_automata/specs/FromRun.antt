-- From runs to paths: in any list of transitions that has those of a fragment, a run of the fragment's machine leads on a path that
-- begins at the state where the run ends.
use mathlib.Core.List.{List, [], ◌∷◌, ◌++◌, append_assoc, Memᴰ}
use Rattle.std.proofs.Math.Path.{◌≡◌}
use Rattle.std.specs.Prelude.{refl}
use Prim.Native.Nat.{ℕ, zero, suc, ◌+◌, ◌*◌, ◌<◌, ◌≤◌}
use Rattle.std.proofs.Common.{arith}
use Rattle.roles.specs.Role.{Chain, inv}
use Rattle.roles.specs.Rule.{Rule}
use Rattle.order.specs.Shape.{End, Shape}
use Rattle.order.specs.Shape.Shape.{transitive, symmetric, row}
use Rattle.tables.specs.Tables
use Rattle.tables.specs.Tables.{Transition, silent, state, row_size, row_transitions, rows_transitions, letters, shapes, size_of, transitions_of}
use Rattle.tables.specs.Path.{Path}
use Rattle.tables.specs.Path.Path.{skip, read}
use Rattle.tables.specs.Run.{Spelled, Run, Language}
use Rattle.tables.specs.Run.Spelled.{none, more}
use Rattle.tables.specs.Run.Run.{stop, letter, second, back, through}
use Rattle.base.specs.Every.{Every, every_tail, every_left, every_right, every_if_in}
use Rattle.roles.specs.Named.{Named}
use Rattle.table_automata.specs.InnerNamed.{RoleBelow, Below, InnerBelow, below-shapes, role-letter, inv-letter}

module _ (ms : List Transition) where
  -- a transition is one of ms
  abbrev pub In : Transition → Type 0
  In m = Memᴰ m ms

  -- a chain of a role's language leads through the role's fragment, from its initial state to a path that begins at its final state
  abbrev pub Leads : (n : ℕ) (L : ℕ → Chain → Type 0) (inside : ℕ → ℕ → List Transition) → Type 0
  Leads n L inside =
      (s at : ℕ) → s < 2 * n → Every In (inside s at) → (u v : Chain) (t : ℕ) → L s u → Path ms (at + 1) v t → Path ms at (u ++ v) t

  -- one level, where the chains of the inner roles' languages lead
  module _ (n : ℕ) (L : ℕ → Chain → Type 0) (size : ℕ → ℕ) (inside : ℕ → ℕ → List Transition) (lead : Leads n L inside) where
    row-path : {w u : Chain} → Spelled L w u → (p q at : ℕ) → Below n w → Every In (row_transitions size inside p q at w)
        → {v : Chain} {t : ℕ} → Path ms q v t → Path ms p (u ++ v) t
    unfolding row_transitions
    row-path none p q at b has path = skip (has (silent p q) (Memᴰ.head refl)) path
    row-path (more {s} {w} {u} {v = u'} l spelled) p q at b has {v} {t} path =
        rw append_assoc
        (skip (has (silent p at) (Memᴰ.head refl))
        (lead s at (b s (Memᴰ.head refl))
        (every_left In (row_transitions size inside (at + 1) q (at + size s) w) (every_tail In has)) u (u' ++ v) t l
        (row-path spelled (at + 1) q (at + size s) (every_tail (RoleBelow n) b) (every_right In (inside s at) (every_tail In has)) path)))

    -- a row of the shapes has its transitions somewhere
    row_has : {f e : End} {w : Chain} (ss : List Shape) → Memᴰ (row f e w) ss → (i at : ℕ) → Every In (rows_transitions size inside i at ss)
        → (place : ℕ) × Every In (row_transitions size inside (state f i) (state e i) place w)
    unfolding rows_transitions
    row_has [] m i at has = elim m [ ]
    row_has (transitive ∷ ss) (Memᴰ.head eq) i at has = let z : ◌≡◌ {A = ℕ} 0 1 = cc in absurd (omega arith)
    row_has (transitive ∷ ss) (Memᴰ.tail m) i at has = row_has ss m i at has
    row_has (symmetric ∷ ss) (Memᴰ.head eq) i at has = let z : ◌≡◌ {A = ℕ} 0 1 = cc in absurd (omega arith)
    row_has (symmetric ∷ ss) (Memᴰ.tail m) i at has = row_has ss m i at has
    row_has {f} {e} {w} (row f' e' w' ∷ ss) (Memᴰ.head eq) i at has =
        let a : f ≡ f' = cc in
        let b : e ≡ e' = cc in
        let c : w ≡ w' = cc in
        (at, rw (a, b, c) (every_left In (rows_transitions size inside i (at + row_size size w') ss) has))
    row_has (row f' e' w' ∷ ss) (Memᴰ.tail m) i at has =
        row_has ss m i (at + row_size size w') (every_right In (row_transitions size inside (state f' i) (state e' i) at w') has)

    module _ (small : n ≤ 64) (r : ℕ) (r-below : r < 2 * n) (ss : List Shape) (inner_below : Every (InnerBelow n) ss) (i : ℕ) where
      abbrev rows : List Transition
      rows = rows_transitions size inside i (i + 2) ss

      module _ (has : Every In (letters r i ss ++ (Tables.back i ss ++ rows))) where
        has-letters : Every In (letters r i ss)
        has-letters = every_left In (Tables.back i ss ++ rows) has

        has-back : Every In (Tables.back i ss)
        has-back = every_left In rows (every_right In (letters r i ss) has)

        has-rows : Every In rows
        has-rows = every_right In (Tables.back i ss) (every_right In (letters r i ss) has)

        run_path : {e e' : End} {w : Chain} → Run L r ss e w e' → {v : Chain} {t : ℕ} → Path ms (state e' i) v t → Path ms (state e i) (w ++ v) t
        unfolding letters Tables.back
        run_path stop path = path
        run_path (letter run) path =
            read (role-letter n small r r-below) (has-letters (record { from = i; label = r; to = i + 1 }) (Memᴰ.head refl)) (run_path run path)
        run_path (second e run) path =
            read (inv-letter n small r r-below)
            (every_if_in In e (every_tail In has-letters) (record { from = i; label = inv r; to = i + 1 }) (Memᴰ.head refl)) (run_path run path)
        run_path (back e run) path = skip (every_if_in In e has-back (silent (i + 1) i) (Memᴰ.head refl)) (run_path run path)
        run_path (through {from} {to} {inner} m spelled run) path =
            let found = row_has ss m i (i + 2) has-rows in
            rw append_assoc
            (row-path spelled (state from i) (state to i) found.0 (inner_below (row from to inner) m) found.1 (run_path run path))

  module _ (ρs : List Rule) (n : ℕ) (named : Named n ρs) (small : n ≤ 64) where
    pub language_leads : (fuel : ℕ) → Leads n (Language ρs fuel) (transitions_of ρs fuel)
    unfolding transitions_of
    language_leads zero r i b has u v t l path = absurd l
    language_leads (suc fuel) r i b has u v t l path =
        run_path n (Language ρs fuel) (size_of ρs fuel) (transitions_of ρs fuel) (language_leads fuel)
        small r b (shapes ρs r) (below-shapes n ρs named r) i has l path
