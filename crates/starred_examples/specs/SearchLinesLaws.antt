-- The lines computed are the transcript of the input, where each answer that the searches are sure of is the answer to the question.
use Rattle.std.specs.Prelude.{Bool, true, ◌≡◌}
use Rattle.std.proofs.lemmas.Bool.{false≢true}
use mathlib.Core.List.{List}
use Rattle.std.proofs.Math.Path.{refl}
use Prim.Native.Nat.{ℕ, zero, suc}
use Rattle.base.specs.Truth.{and_left, and_right}
use Rattle.base.specs.Result.{Result}
use Rattle.roles.specs.Role.{Chain}
use Rattle.transcript_lines.specs.Transcript.{Next, next, Transcript}
use Rattle.transcript_lines.specs.Transcript.Next.{nothing, part, whole}
use Rattle.transcript_lines.specs.Transcript.Transcript.{ended, cut, answered}
use Rattle.starred_examples.specs.TrailSearch.{answer, sure}
use Rattle.starred_examples.specs.SearchLines.{front_lines, lines, front_searched, searched}

module _ (heads moves : List ℕ) (Says : ℕ → Chain → Result Bool → Type 0)
    (says : (r : ℕ) (w : Chain) → sure heads moves r w ≡ true → Says r w (answer heads moves r w)) where
  pub lines-transcript : (fuel k : ℕ) (q : List ℕ) → searched heads moves fuel q ≡ true
      → Transcript Says k q (lines heads moves fuel k q)
  unfolding lines front_lines searched front_searched
  lines-transcript zero k q h = absurd (false≢true h)
  lines-transcript (suc fuel) k q h = by_next (lines-transcript fuel (suc k)) (next q) refl h
    where
      Made : ℕ → List ℕ → List ℕ → Type 0
      Made = Transcript Says

      by_next : ((rest : List ℕ) → searched heads moves fuel rest ≡ true → Made (suc k) rest (lines heads moves fuel (suc k) rest))
          → (x : Next) → next q ≡ x → front_searched heads moves (searched heads moves fuel) x ≡ true
          → Made k q (front_lines heads moves k (lines heads moves fuel (suc k)) x)
      by_next after nothing e t = ended k q e
      by_next after part e t = cut k q e
      by_next after (whole r w rest) e t =
          let front : Bool = sure heads moves r w in
          answered k q r w rest (answer heads moves r w) (lines heads moves fuel (suc k) rest) e
          (says r w (and_left front (searched heads moves fuel rest) t))
          (after rest (and_right front (searched heads moves fuel rest) t))
