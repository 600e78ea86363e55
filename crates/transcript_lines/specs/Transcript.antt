-- The questions on the program's input, and what it writes for a book and for them.
use Rattle.std.specs.Prelude.{Bool, cond, List, [], ◌∷◌, ◌++◌, ◌≡◌, ℕ, suc, ◌+◌, take, drop}
use Rattle.roles.specs.Role.{Chain}
use Rattle.roles.specs.Rule.{Book}
use Rattle.base.specs.Result.{Result}
use Rattle.base.specs.Result.Result.{refused, ok}
use Rattle.book_causes.specs.Accepted.{summary, built, Building}
use Rattle.query_causes.specs.Input.{links_of, is_whole}
use Rattle.query_correctness.specs.BindingReply.{DecidedByBinding}
use Rattle.transcript_lines.specs.Lines.{first_line, answer_line, cut_line}

-- what stands at the front of the input: nothing, a part of a question, or a whole one (role, chain) and the input after it
pub data Next : Type 0 where
  nothing : Next
  part : Next
  whole : ℕ → Chain → List ℕ → Next

-- the question at the front is its role byte and its chain, of as many links as it says
unfoldable pub next : List ℕ → Next
next [] = nothing
next (r ∷ s) =
    cond (is_whole (r ∷ s))
    (whole r (take (links_of (r ∷ s)) (drop 3 (r ∷ s))) (drop (3 + links_of (r ∷ s)) (r ∷ s)))
    part

-- the lines for the questions on the input, numbered from k on, where `Says` gives the answers
pub data Transcript (Says : ℕ → Chain → Result Bool → Type 0) : ℕ → List ℕ → List ℕ → Type 0 where
  ended : (k : ℕ) (q : List ℕ) → next q ≡ nothing → Transcript Says k q []
  cut : (k : ℕ) (q : List ℕ) → next q ≡ part → Transcript Says k q (cut_line k)
  answered : (k : ℕ) (q : List ℕ) (r : ℕ) (w : Chain) (rest : List ℕ) (a : Result Bool) (lines : List ℕ) → next q ≡ whole r w rest → Says r w a
      → Transcript Says (suc k) rest lines → Transcript Says k q (answer_line k a ++ lines)

-- all that the program writes for a book's bytes and an input: the first line is that of the book that is built from, and the answers are by
-- what binds under the rules of the book as written
pub data Session (s q : List ℕ) : List ℕ → Type 0 where
  refuses : (cause value : ℕ) → built s 64 15360 ≡ refused cause value → Session s q (first_line (refused cause value))
  served : (b d : Book) (lines : List ℕ) → Building s 64 15360 b d → Transcript (DecidedByBinding b) 0 q lines
      → Session s q (first_line (ok (summary d)) ++ lines)
