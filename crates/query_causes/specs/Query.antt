-- A question put to tables (document 01, "Tables", last paragraph): causes 12 to 15, and the answer. The tables are any numbers; a book
-- need not have given them.
use Rattle.std.specs.Prelude.{Bool, true, ◌&&◌, List, [], ◌∷◌, ℕ, ◌+◌, ◌%◌, leb, eqb, length, get_or}
use Rattle.roles.specs.Role.{Chain, name, polarity, turn}
use Rattle.tables.specs.Tables.{Transition}
use Rattle.tables.specs.Path.{Path}
use Rattle.base.specs.Result.{Result, demand, and_then}
use Rattle.base.specs.Result.Result.{ok}
use Rattle.base.specs.Decision.{Decision}
use Rattle.book_format.specs.Format.{named}

-- the transitions that numbers spell, three for each; one or two numbers at the end spell none
unfoldable pub transitions_in : List ℕ → List Transition
transitions_in [] = []
transitions_in (p ∷ []) = []
transitions_in (p ∷ a ∷ []) = []
transitions_in (p ∷ a ∷ q ∷ ms) = record { from = p; label = a; to = q } ∷ transitions_in ms

-- each initial state is at most 2,046
unfoldable pub heads_fit : List ℕ → Bool
heads_fit [] = true
heads_fit (h ∷ hs) = leb h 2046 && heads_fit hs

-- each transition has states of at most 2,047 and a label of at most 128
unfoldable pub transitions_fit : List Transition → Bool
transitions_fit [] = true
transitions_fit (m ∷ ms) = leb m.from 2047 && leb m.label 128 && leb m.to 2047 && transitions_fit ms

-- cause 12
unfoldable pub tables_fit : (heads moves : List ℕ) → Bool
tables_fit heads moves =
    leb 1 (length heads) && leb (length heads) 64 && heads_fit heads
    && (eqb (length moves % 3) 0 && leb (length moves) 15360 && transitions_fit (transitions_in moves))

-- cause 13
abbrev pub chain_fits : Chain → Bool
chain_fits w = leb 1 (length w) && leb (length w) 1024

-- causes 13 and 14, in this order, for so many names
abbrev pub question : ℕ → ℕ → Chain → Result (Unit {0})
question n r w = demand (chain_fits w) 13 0 (demand (named n (r ∷ w)) 14 0 (ok tt))

-- cause 15, of questions that take at most 16 links; what is handed on else
abbrev pub short_chain : {A : Type 0} → Chain → A → Result A
short_chain w a = demand (leb (length w) 16) 15 0 (ok a)

-- causes 13, 14 and 15, in this order, for so many names
abbrev pub short_question : {A : Type 0} → ℕ → ℕ → Chain → A → Result A
short_question n r w a = and_then (question n r w) (λ _. short_chain w a)

-- causes 12, 13 and 14, in this order
unfoldable pub query : (heads moves : List ℕ) → ℕ → Chain → Result (Unit {0})
query heads moves r w = demand (tables_fit heads moves) 12 0 (question (length heads) r w)

-- a question about the inverse of a name asks the name with the inverse of the chain
unfoldable pub asked : ℕ → Chain → Chain
asked r w = turn (eqb (polarity r) 1) w

-- some path from the name's initial state to the next state, its final one, spells the chain
abbrev pub Accepts : (heads moves : List ℕ) → ℕ → Chain → Type 0
Accepts heads moves r w = Path (transitions_in moves) (get_or heads (name r) 0) (asked r w) (get_or heads (name r) 0 + 1)

-- the answer to a question: the first refusal met; else yes, exactly where such a path exists
abbrev pub Answered : (heads moves : List ℕ) → ℕ → Chain → Result Bool → Type 0
Answered heads moves r w = Decision (query heads moves r w) (Accepts heads moves r w)
