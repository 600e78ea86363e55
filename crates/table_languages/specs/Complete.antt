-- What is derived from a role is read by its machine, where levels fit the rules: each role reads at its own level.
use mathlib.Core.List.{List, [], ◌∷◌, ◌++◌, Memᴰ}
use mathlib.Mathlib.Logic.Relation.ReflTransGenᴰ
use Rattle.std.specs.Prelude.{ℕ, suc}
use Rattle.roles.specs.Role.{Chain, name}
use Rattle.roles.specs.RoleLaws.{name-inv}
use Rattle.roles.specs.Rule.{Rule, completion}
use Rattle.roles.specs.Derivation.{Step, Derives}
use Rattle.roles.specs.Derivation.Step.{replace}
use Rattle.order.specs.Shape.{Shape, shape}
use Rattle.order.specs.Shape.End.{initial, final}
use Rattle.order.specs.Shape.Shape.{transitive, symmetric, row}
use Rattle.order.specs.Leveled.{Fits, Leveled}
use Rattle.tables.specs.Tables.{own_shapes, shapes}
use Rattle.tables.specs.Run.{Spelled, Language}
use Rattle.tables.specs.Run.Spelled.{none, more}
use Rattle.tables.specs.Run.Run.{stop, letter, back, through}
use Rattle.rewriting.specs.Replacing.{Replaces}
use Rattle.table_languages.specs.LeftSides.{Shaped, shape-shaped, completed-fits}
use Rattle.table_languages.specs.RoleShapes.{member-has_symmetric, member-has_transitive, rule-own-shape, shapes-own, shapes-turned}
use Rattle.table_languages.specs.MachineRuns.{Parts, spelled_map, spelled_append, spelled-cons, spelled-split, one-spelled}
use Rattle.table_languages.specs.MachineRuns.{run_append, run_row, run_turned, language_more}

module _ (n : ℕ) (ρs : List Rule) (l : Leveled n ρs) where
  -- what the machine of a role reads at the role's level
  abbrev pub Reads : ℕ → Chain → Type 0
  Reads r w = Language ρs (suc (l.level (name r))) r w

  inner-spelled : (r : ℕ) (inner u : Chain) → Fits l.level (name r) (row initial final inner) → Spelled Reads inner u
      → Spelled (Language ρs (l.level (name r))) inner u
  inner-spelled r inner u f = spelled_map (λ s v m. language_more ρs (suc (l.level (name s))) (l.level (name r)) s v (f.1 s m))

  -- the machine of a rule's right role reads what its left roles read one after another
  shape-reads : (ρ : Rule) (s : Shape) → Memᴰ s (own_shapes ρs ρ.right) → Shaped ρ s → Fits l.level (name ρ.right) s
      → (w : Chain) → Spelled Reads ρ.left w → Reads ρ.right w
  shape-reads ρ transitive m h f w q = twice (spelled-cons (rw h at q))
    where
      twice : Parts (Reads ρ.right) (Spelled Reads (ρ.right ∷ [])) w → Reads ρ.right w
      twice k =
          rw k.whole
          (run_append k.of_front
          (back (member-has_transitive (shapes ρs ρ.right) (shapes-own ρs ρ.right transitive m)) (one-spelled k.of_rest)))
  shape-reads ρ symmetric m h f w q =
      run_turned (member-has_symmetric (shapes ρs ρ.right) (shapes-own ρs ρ.right symmetric m))
      (λ s. shapes-turned ρs ρ.right s m)
      (rw (name-inv ρ.right) at (one-spelled (rw h at q)))
  shape-reads ρ (row initial initial inner) m h f w q = before (spelled-split inner (ρ.right ∷ []) (rw h at q))
    where
      before : Parts (Spelled Reads inner) (Spelled Reads (ρ.right ∷ [])) w → Reads ρ.right w
      before k =
          rw k.whole
          (through (shapes-own ρs ρ.right (row initial initial inner) m) (inner-spelled ρ.right inner k.front f k.of_front)
          (one-spelled k.of_rest))
  shape-reads ρ (row initial final inner) m h f w q =
      run_row (shapes-own ρs ρ.right (row initial final inner) m) (inner-spelled ρ.right inner w f (rw h at q))
  shape-reads ρ (row final initial inner) m h f w q = absurd h
  shape-reads ρ (row final final inner) m h f w q = after (spelled-cons (rw h at q))
    where
      after : Parts (Reads ρ.right) (Spelled Reads inner) w → Reads ρ.right w
      after k =
          rw k.whole
          (run_append k.of_front
          (run_row (shapes-own ρs ρ.right (row final final inner) m) (inner-spelled ρ.right inner k.rest f k.of_rest)))

  rule-reads : (ρ : Rule) → Memᴰ ρ (completion ρs) → (w : Chain) → Spelled Reads ρ.left w → Reads ρ.right w
  rule-reads ρ m = shape-reads ρ (shape ρ) (rule-own-shape ρs ρ m) (shape-shaped ρ) (completed-fits l.level ρs l.fits ρ m)

  letters-spelled : (w : Chain) → Spelled Reads w w
  letters-spelled [] = none
  letters-spelled (r ∷ w) = more {u = r ∷ []} (letter stop) (letters-spelled w)

  -- one replacement at the front of a derivation
  step-spelled : (v w x : Chain) → Step ρs v w → Spelled Reads w x → Spelled Reads v x
  step-spelled v w x (replace before after ρ m) p = around (spelled-split before (ρ.left ++ after) p)
    where
      grown : (u : Chain) → Parts (Spelled Reads ρ.left) (Spelled Reads after) u → Spelled Reads (ρ.right ∷ after) u
      grown u k = rw k.whole (more (rule-reads ρ m k.front k.of_front) k.of_rest)

      around : Parts (Spelled Reads before) (Spelled Reads (ρ.left ++ after)) x → Spelled Reads (before ++ (ρ.right ∷ after)) x
      around k = rw k.whole (spelled_append k.of_front (grown k.rest (spelled-split ρ.left after k.of_rest)))

  replaces_spelled : (v w : Chain) → Replaces ρs v w → Spelled Reads v w
  replaces_spelled v w p =
      ReflTransGenᴰ.head_induction_on p (λ x _. Spelled Reads x w) (letters-spelled w) (λ x y s _ q. step-spelled x y w s q)

  pub derives-reads : (r : ℕ) (w : Chain) → Derives ρs r w → Reads r w
  derives-reads r w d = one-spelled (replaces_spelled (r ∷ []) w d)
