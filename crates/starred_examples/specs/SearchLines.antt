-- The lines for the questions on an input, computed with the answers that the searches give.
use Rattle.std.specs.Prelude.{Bool, true, false, ◌&&◌, List, [], ◌++◌, ℕ, zero, suc}
use Rattle.transcript_lines.specs.Lines.{answer_line, cut_line}
use Rattle.transcript_lines.specs.Transcript.{Next, next}
use Rattle.transcript_lines.specs.Transcript.Next.{nothing, part, whole}
use Rattle.starred_examples.specs.TrailSearch.{answer, sure}

module _ (heads moves : List ℕ) where
  -- the lines from question k on, by what stands at the front of the input and by the lines for the input after it
  unfoldable pub front_lines : (k : ℕ) → (List ℕ → List ℕ) → Next → List ℕ
  front_lines k after nothing = []
  front_lines k after part = cut_line k
  front_lines k after (whole r w rest) = answer_line k (answer heads moves r w) ++ after rest

  -- the lines for an input of fewer whole questions than the fuel, from question k on
  unfoldable pub lines : (fuel k : ℕ) → List ℕ → List ℕ
  lines zero k q = []
  lines (suc fuel) k q = front_lines k (lines fuel (suc k)) (next q)

  -- the searches are sure of the question at the front, and the test holds of the input after it
  unfoldable pub front_searched : (List ℕ → Bool) → Next → Bool
  front_searched after nothing = true
  front_searched after part = true
  front_searched after (whole r w rest) = sure heads moves r w && after rest

  -- the input has fewer whole questions than the fuel, and the searches are sure of each
  unfoldable pub searched : (fuel : ℕ) → List ℕ → Bool
  searched zero q = false
  searched (suc fuel) q = front_searched (searched fuel) (next q)
