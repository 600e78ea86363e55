-- From paths to runs: each state of a fragment has a property of chains, such that every transition of the fragment carries them
-- backwards, and the property at its initial state says that a front part of the chain is in the language of its role.
use Rattle.std.specs.Prelude.{true, ◌≡◌}
use mathlib.Core.List.{List, [], ◌∷◌, ◌++◌, append_assoc, Memᴰ}
use Rattle.std.proofs.Common.{sym, arith}
use Prim.Native.Nat.{ℕ, zero, suc, ◌+◌, ◌*◌, ◌<◌, ◌≤◌}
use Rattle.roles.specs.Role.{Chain, inv}
use Rattle.roles.specs.Rule.{Rule}
use Rattle.order.specs.Shape.{End, Shape}
use Rattle.order.specs.Shape.End.{initial, final}
use Rattle.order.specs.Shape.Shape.{transitive, symmetric, row}
use Rattle.tables.specs.Tables
use Rattle.tables.specs.Tables.{Transition, state, has_symmetric, has_transitive, rows_size, rows_transitions, letters, shapes, size_of, transitions_of}
use Rattle.tables.specs.Run.{Spelled, Run, Language}
use Rattle.tables.specs.Run.Run.{stop, letter, second, back, through}
use Rattle.base.specs.Every.{Every, every_nil, every_cons, every_append, every_if}
use Rattle.roles.specs.Named.{Named}
use Rattle.table_automata.specs.InnerNamed.{InnerBelow, below-shapes, role-letter, inv-letter}
use Rattle.table_automata.specs.Carried.{Property, transfer, Split, glue, Agree, agree_below, agree_from, Carries, carries_silent, carries_letter, Fits}
use Rattle.table_automata.specs.Carried.Split.{split}
use Rattle.table_automata.specs.CarriedRows.{reads-spelled, Sound, in_rows, Follows, rows-carry}

-- a run of the machine from one of its two states to its final state, and then what may follow
module _ (L : ℕ → Property) (r : ℕ) (ss : List Shape) (after : Property) where
  abbrev Own : End → Property
  Own e = Split (λ (u : Chain). Run L r ss e u final) after

  own-letter : (v : Chain) → Own final v → Own initial (r ∷ v)
  own-letter v (split run h) = split (letter run) h

  own-second : has_symmetric ss ≡ true → (v : Chain) → Own final v → Own initial (inv r ∷ v)
  own-second e v (split run h) = split (second e run) h

  own_back : has_transitive ss ≡ true → (v : Chain) → Own initial v → Own final v
  own_back e v (split run h) = split (back e run) h

  own_row : {f t : End} {w u v : Chain} → Memᴰ (row f t w) ss → Spelled L w u → Own t v → Own f (u ++ v)
  own_row m spelled (split run h) = rw (← append_assoc) (split (through m spelled run) h)

  own-spelled : {f t : End} {w v : Chain} → Memᴰ (row f t w) ss → Split (Spelled L w) (Own t) v → Own f v
  own-spelled m (split spelled own) = own_row m spelled own

-- one level, where the inner fragments are sound
module _ (n : ℕ) (L : ℕ → Property) (size : ℕ → ℕ) (inside : ℕ → ℕ → List Transition) (sound : Sound n L size inside)
    (r : ℕ) (ss : List Shape) (after : Property) where
  abbrev own : End → Property
  own = Own L r ss after

  -- the properties at the states of the fragment: its initial and its final state, and those of its inner fragments
  inner : ℕ → ℕ → Property
  inner i = in_rows n L size inside sound own (i + 2) ss

  from-final : ℕ → ℕ → Property
  from-final i = glue (i + 2) (λ x. own final) (inner i)

  in_fragment : ℕ → ℕ → Property
  in_fragment i = glue (i + 1) (λ x. own initial) (from-final i)

  follows : Every (Follows n L size inside sound own) ss
  follows transitive m = tt
  follows symmetric m = tt
  follows (row f t w) m = λ v h. own-spelled L r ss after m (reads-spelled L w h)

  module _ (small : n ≤ 64) (r-below : r < 2 * n) (inner_below : Every (InnerBelow n) ss)
      (K : ℕ → Property) (i : ℕ) (agree : Agree K (in_fragment i) i (i + (2 + rows_size size ss))) where
    agree_final : Agree K (from-final i) (i + 1) (i + 2 + rows_size size ss)
    unfolding in_fragment
    agree_final = agree_from (i + 1) (λ x. own initial) (from-final i) agree (i + 2 + rows_size size ss) (omega arith) (omega arith)

    ends : (e : End) → K (state e i) ≡ own e
    unfolding in_fragment from-final
    ends initial = agree_below (i + 1) (λ x. own initial) (from-final i) agree (omega arith) i (omega arith) (omega arith)
    ends final = agree_below (i + 2) (λ x. own final) (inner i) agree_final (omega arith) (i + 1) (omega arith) (omega arith)

    at-final : (v : Chain) → K (i + 1) v → own final v
    at-final v k = transfer (ends final) k

    at-initial : (v : Chain) → own initial v → K i v
    at-initial v h = transfer (sym (ends initial)) h

    letters-carry : Every (Carries K) (letters r i ss)
    unfolding letters
    letters-carry =
        every_cons (Carries K)
        (carries_letter K i r (i + 1) (role-letter n small r r-below) (λ v k. at-initial (r ∷ v) (own-letter L r ss after v (at-final v k))))
        (every_if (Carries K) (has_symmetric ss) (λ e. every_cons (Carries K)
        (carries_letter K i (inv r) (i + 1) (inv-letter n small r r-below) (λ v k. at-initial (inv r ∷ v) (own-second L r ss after e v (at-final v k))))
        (every_nil (Carries K))))

    back_carries : Every (Carries K) (Tables.back i ss)
    unfolding Tables.back
    back_carries =
        every_if (Carries K) (has_transitive ss) (λ e. every_cons (Carries K)
        (carries_silent K (i + 1) i (λ v k. transfer (sym (ends final)) (own_back L r ss after e v (transfer (ends initial) k))))
        (every_nil (Carries K)))

    inner-carry : Every (Carries K) (rows_transitions size inside i (i + 2) ss)
    unfolding from-final inner
    inner-carry =
        rows-carry n L size inside sound own K i ends ss inner_below follows (i + 2)
        (agree_from (i + 2) (λ x. own final) (inner i) agree_final (i + 2 + rows_size size ss) (omega arith) (omega arith))

    fragment_fits : Fits (λ (w : Chain). Run L r ss initial w final)
        (letters r i ss ++ (Tables.back i ss ++ rows_transitions size inside i (i + 2) ss)) i after K
    fragment_fits = record {
      entry = λ w k. transfer (ends initial) k;
      exit = λ w h. transfer (sym (ends final)) (split stop h);
      carry = every_append (Carries K) (letters r i ss) letters-carry (every_append (Carries K) (Tables.back i ss) back_carries inner-carry);
    }

-- a fragment with no fuel: two states, no transition, and no chain in the language
in_bare : ℕ → Property → ℕ → Property
in_bare i after = glue (i + 1) (λ x v. ⊥) (λ x. after)

bare_fits : (i : ℕ) (after : Property) (K : ℕ → Property) → Agree K (in_bare i after) i (i + 2) → Fits (λ w. ⊥) [] i after K
unfolding in_bare
bare_fits i after K agree = record {
  entry = λ w k. absurd (transfer (agree_below (i + 1) (λ x v. ⊥) (λ x. after) agree (omega arith) i (omega arith) (omega arith)) k);
  exit = λ w h. transfer (sym (agree_from (i + 1) (λ x v. ⊥) (λ x. after) agree (i + 2) (omega arith) (omega arith) (i + 1) (omega arith) (omega arith))) h;
  carry = every_nil (Carries K);
}

module _ (ρs : List Rule) (n : ℕ) (named : Named n ρs) (small : n ≤ 64) where
  pub sound-at : (fuel : ℕ) → Sound n (Language ρs fuel) (size_of ρs fuel) (transitions_of ρs fuel)
  unfolding size_of transitions_of
  sound-at zero = record { at_state = λ r i after. in_bare i after; fits = λ r i after b K agree. bare_fits i after K agree }
  sound-at (suc fuel) = record {
    at_state = λ r i after.
        in_fragment n (Language ρs fuel) (size_of ρs fuel) (transitions_of ρs fuel) (sound-at fuel) r (shapes ρs r) after i;
    fits = λ r i after b K agree.
        fragment_fits n (Language ρs fuel) (size_of ρs fuel) (transitions_of ρs fuel) (sound-at fuel) r (shapes ρs r) after
        small b (below-shapes n ρs named r) K i agree;
  }
