-- The rows of a fragment carry properties of chains backwards, where each inner fragment does.
use mathlib.Core.List.Memᴰ
use mathlib.Core.List.{List, [], ◌∷◌, ◌++◌, append_assoc}
use Rattle.std.specs.Prelude.{◌≡◌, refl}
use Rattle.std.proofs.Common.{sym, arith}
use Prim.Native.Nat.{ℕ, ◌+◌, ◌*◌, ◌<◌}
use Rattle.roles.specs.Role.{Chain}
use Rattle.order.specs.Shape.{End, Shape}
use Rattle.order.specs.Shape.Shape.{transitive, symmetric, row}
use Rattle.tables.specs.Tables.{Transition, state, row_size, rows_size, row_transitions, rows_transitions}
use Rattle.tables.specs.Run.{Spelled}
use Rattle.tables.specs.Run.Spelled.{none, more}
use Rattle.base.specs.Every.{Every, every_nil, every_cons, every_tail, every_append}
use Rattle.table_automata.specs.InnerNamed.{RoleBelow, Below, InnerBelow}
use Rattle.table_automata.specs.Carried.{Property, transfer, Split, glue, Agree, agree_below, agree_from, Carries, carries_silent, Fits}
use Rattle.table_automata.specs.Carried.Split.{split}

module _ (L : ℕ → Property) where
  -- a chain of each role's language, in order, and then what may follow
  abbrev pub Reads : Chain → Property → Property
  Reads [] after = after
  Reads (s ∷ w) after = Split (L s) (Reads w after)

  spelled-first : {s : ℕ} {w u v : Chain} {after : Property} → L s u → Split (Spelled L w) after v → Split (Spelled L (s ∷ w)) after (u ++ v)
  spelled-first l (split spelled h) = rw (← append_assoc) (split (more l spelled) h)

  pub reads-spelled : (w : Chain) {v : Chain} {after : Property} → Reads w after v → Split (Spelled L w) after v
  reads-spelled [] h = split none h
  reads-spelled (s ∷ w) (split l rest) = spelled-first l (reads-spelled w rest)

module _ (n : ℕ) (L : ℕ → Property) (size : ℕ → ℕ) (inside : ℕ → ℕ → List Transition) where
  -- the fragment of each role at each place has properties at its states, such that all that agree with them there fit it
  pub record Sound : Type 1 where
    pub at_state : (r i : ℕ) (after : Property) → ℕ → Property
    pub fits : (r i : ℕ) (after : Property) → r < 2 * n → (K : ℕ → Property) → Agree K (at_state r i after) i (i + size r)
        → Fits (L r) (inside r i) i after K

  module _ (sound : Sound) where
    -- the properties at the states of a row's inner fragments
    in_row : (at : ℕ) → Chain → Property → ℕ → Property
    in_row at [] after = λ x v. ⊥
    in_row at (s ∷ w) after = glue (at + size s) (sound.at_state s at (Reads L w after)) (in_row (at + size s) w after)

    row_carries : (K : ℕ → Property) (after : Property) (q : ℕ) → ((v : Chain) → K q v → after v)
        → (w : Chain) → Below n w → (p at : ℕ) → ((v : Chain) → Reads L w after v → K p v)
        → Agree K (in_row at w after) at (at + row_size size w) → Every (Carries K) (row_transitions size inside p q at w)
    unfolding row_transitions row_size in_row
    row_carries K after q out [] b p at into agree =
        every_cons (Carries K) (carries_silent K p q (λ v k. into v (out v k))) (every_nil (Carries K))
    row_carries K after q out (s ∷ w) b p at into agree =
        let rest : Property = Reads L w after in
        let A : ℕ → Property = sound.at_state s at rest in
        let B : ℕ → Property = in_row (at + size s) w after in
        let fit = sound.fits s at rest (b s (Memᴰ.head refl)) K (agree_below (at + size s) A B agree (omega arith)) in
        every_cons (Carries K) (carries_silent K p at (λ v k. into v (fit.entry v k)))
        (every_append (Carries K) (inside s at) fit.carry
        (row_carries K after q out w (every_tail (RoleBelow n) b) (at + 1) (at + size s) fit.exit
        (agree_from (at + size s) A B agree (at + size s + row_size size w) (omega arith) (omega arith))))

    module _ (own : End → Property) where
      -- the properties at the states of all rows' inner fragments, where the fragment's own two states have theirs
      pub in_rows : (at : ℕ) → List Shape → ℕ → Property
      in_rows at [] = λ x v. ⊥
      in_rows at (transitive ∷ ss) = in_rows at ss
      in_rows at (symmetric ∷ ss) = in_rows at ss
      in_rows at (row f t w ∷ ss) = glue (at + row_size size w) (in_row at w (own t)) (in_rows (at + row_size size w) ss)

      -- the property at a row's start follows from what the row reads and the property at its end
      abbrev pub Follows : Shape → Type 0
      Follows transitive = Unit
      Follows symmetric = Unit
      Follows (row f t w) = (v : Chain) → Reads L w (own t) v → own f v

      pub rows-carry : (K : ℕ → Property) (i : ℕ) → ((e : End) → K (state e i) ≡ own e)
          → (ss : List Shape) → Every (InnerBelow n) ss → Every Follows ss → (at : ℕ)
          → Agree K (in_rows at ss) at (at + rows_size size ss) → Every (Carries K) (rows_transitions size inside i at ss)
      unfolding rows_transitions rows_size in_rows
      rows-carry K i ends [] b follows at agree = every_nil (Carries K)
      rows-carry K i ends (transitive ∷ ss) b follows at agree =
          rows-carry K i ends ss (every_tail (InnerBelow n) b) (every_tail Follows follows) at agree
      rows-carry K i ends (symmetric ∷ ss) b follows at agree =
          rows-carry K i ends ss (every_tail (InnerBelow n) b) (every_tail Follows follows) at agree
      rows-carry K i ends (row f t w ∷ ss) b follows at agree =
          let next : ℕ = at + row_size size w in
          let A : ℕ → Property = in_row at w (own t) in
          let B : ℕ → Property = in_rows next ss in
          every_append (Carries K) (row_transitions size inside (state f i) (state t i) at w)
          (row_carries K (own t) (state t i) (λ v k. transfer (ends t) k) w (b (row f t w) (Memᴰ.head refl)) (state f i) at
          (λ v h. transfer (sym (ends f)) (follows (row f t w) (Memᴰ.head refl) v h))
          (agree_below next A B agree (omega arith)))
          (rows-carry K i ends ss (every_tail (InnerBelow n) b) (every_tail Follows follows) next
          (agree_from next A B agree (next + rows_size size ss) (omega arith) (omega arith)))
