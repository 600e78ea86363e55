-- Questions that follow one another on an input, and bytes that answer them.
use Rattle.std.specs.Prelude.{Bool, true, false, List, [], ◌∷◌, ◌++◌, ◌⊎◌, ◌≡◌, ℕ, zero, suc, ◌+◌, ◌≤◌, length, get_or, take, drop}
use Rattle.base.specs.Result.{Result}
use Rattle.base.specs.Result.Result.{refused, ok}
use Rattle.roles.specs.Role.{Chain}
use Rattle.query_causes.specs.Query.{Answered}
use Rattle.query_causes.specs.ManyQueries.{names_in}
use Rattle.query_causes.specs.Input.{links_of, Whole, Broken}
use Rattle.query_simulation.specs.States.{Unused}
use Rattle.query_simulation.specs.Transitions.{transition_count}
use Rattle.query_simulation.specs.TransitionIndex.{Indexed}
use Rattle.query_answerer.specs.declared.batch.Batch.{Batch}

-- what a byte says: no, yes, or a refusal by its number
abbrev pub told : ℕ → Result Bool
told zero = ok false
told (suc zero) = ok true
told (suc (suc n)) = refused (suc (suc n)) 0

-- over what it is to answer a question about a role and a chain
module _ (Answers : ℕ → Chain → Result Bool → Type 0) where
  -- the bytes answer, one each, the whole questions at the front of s, which take n bytes
  pub data Batched : List ℕ → ℕ → List ℕ → Type 0 where
    none : (s : List ℕ) → Batched s 0 []
    more : (s : List ℕ) (byte n : ℕ) (bytes : List ℕ) → Whole s → Answers (get_or s 0 0) (take (links_of s) (drop 3 s)) (told byte)
        → Batched (drop (3 + links_of s) s) n bytes → Batched s (3 + links_of s + n) (byte ∷ bytes)

  -- as many of the questions on q as there is room for are answered
  pub record Batches (q answers answers' : List ℕ) (b : Batch) : Type 0 where
    pub fits : b.answered ≤ length answers
    pub same : length answers' ≡ length answers
    pub written : Batched q b.read (take b.answered answers')
    pub kept : drop b.answered answers' ≡ drop b.answered answers
    pub stopped : (b.answered ≡ length answers) ⊎ Broken (drop b.read q)

  -- questions on q are answered up to a place: what answers the rest completes the bytes
  pub record Going (q answers : List ℕ) (read answered : ℕ) (answers' : List ℕ) : Type 0 where
    pub within : read ≤ length q
    pub fits : answered ≤ length answers
    pub same : length answers' ≡ length answers
    pub completes : (n : ℕ) (bytes : List ℕ) → Batched (drop read q) n bytes → Batched q (read + n) (take answered answers' ++ bytes)
    pub kept : drop answered answers' ≡ drop answered answers

module _ (heads moves : List ℕ) where
  -- how many names the tables have, 0 where they do not fit; those that fit are indexed, and the sets are empty under a stamp
  pub record Ready (names stamp : ℕ) (space : List ℕ) : Type 0 where
    pub unused : Unused 2048 stamp space
    pub named : names ≡ names_in heads moves
    pub indexed : (names ≡ 0 → ⊥) → Indexed 2048 moves space (transition_count moves)

  -- the byte answers the question at the front of s; what stands in the space is older than the stamp
  pub record Asked (names : ℕ) (s : List ℕ) (byte stamp : ℕ) (space : List ℕ) : Type 0 where
    pub answered : Answered heads moves (get_or s 0 0) (take (links_of s) (drop 3 s)) (told byte)
    pub ready : Ready names stamp space
