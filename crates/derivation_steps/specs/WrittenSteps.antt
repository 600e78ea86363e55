-- Derivations written out in bytes, step by step (document 02: slips), and what checking one gives. A step is a `WrittenStep` of src/lib.rt: a place of the
-- present chain, the number of a rule, and side 0 for the rule as it stands or 1 for its inverse.
use Rattle.std.specs.Prelude.{Bool, cond, ◌&&◌, List, [], ◌∷◌, ◌++◌, ℕ, zero, suc, ◌+◌, ◌*◌, ◌/◌, ◌%◌, leb, ltb, eqb, length, get_or, take, drop}
use Rattle.base.specs.Result.{Result, demand, map_result}
use Rattle.base.specs.Result.Result.{ok}
use Rattle.roles.specs.Role.{Chain, same_chain}
use Rattle.roles.specs.Rule.{Rule, inverse}
use Rattle.words.specs.Word.{word}
use Rattle.derivation_steps.specs.declared.WrittenStep.{WrittenStep}

-- step k of some bytes, four bytes each: the place in 16 bits, low byte first, the rule's number, the side
unfoldable pub step_at : List ℕ → ℕ → WrittenStep
step_at s k = record { place = word s (4 * k); number = get_or s (4 * k + 2) 0; side = get_or s (4 * k + 3) 0 }

-- over so many numbered rules, each with its inverse
module _ (count : ℕ) (rule : (number side : ℕ) → Rule) where
  -- the rule, or inverse of one, that a step is by
  abbrev pub used : WrittenStep → Rule
  used t = rule t.number t.side

  -- whether a step is possible on a chain: the place and the rule are there, the side is 0 or 1, the link there is the right role, and at most 16
  -- links result
  unfoldable pub possible : WrittenStep → Chain → Bool
  possible t w =
      ltb t.place (length w) && ltb t.number count && leb t.side 1 && eqb (get_or w t.place 0) (used t).right
      && leb (length w + length (used t).left) 17

  -- the chain after a step: the left side in the place of the link
  unfoldable pub replaced : WrittenStep → Chain → Chain
  replaced t w = take t.place w ++ ((used t).left ++ drop (suc t.place) w)

  -- the chain to which as many steps as are left lead, from step k on; 17 with the number of the first impossible one
  unfoldable pub leads : List ℕ → (k left : ℕ) → Chain → Result Chain
  leads s k zero w = ok w
  leads s k (suc left) w = demand (possible (step_at s k) w) 17 k (leads s (suc k) left (replaced (step_at s k) w))

  -- the chain to which all steps lead from a role; 17 with 0 where the bytes are not in fours
  unfoldable pub ending : ℕ → List ℕ → Result Chain
  ending r s = demand (eqb (length s % 4) 0) 17 0 (leads s 0 (length s / 4) (r ∷ []))

  -- whether the steps lead from a role to a chain
  unfoldable pub checked : ℕ → Chain → List ℕ → Result Bool
  checked r w s = map_result (λ v. same_chain v w) (ending r s)

-- the rule of a number as it stands, or its inverse
unfoldable pub completed : List Rule → (number side : ℕ) → Rule
completed ρs number side = let ρ = get_or ρs number (record { left = []; right = 0 }) in cond (eqb side 0) ρ (inverse ρ)

-- whether some bytes are a derivation of a chain from a role by the rules
unfoldable pub derivation : List Rule → ℕ → Chain → List ℕ → Result Bool
derivation ρs = checked (length ρs) (completed ρs)
