-- Text put into a buffer.
use Rattle.std.specs.Prelude.{List, ◌++◌, ◌≡◌, ℕ, ◌+◌, ◌≤◌, length, take, drop}
use Rattle.transcript_lines.specs.Lines.{decimal, space}

-- the buffer has the text at the place and is else as it was; the text ends within it, at `end`
pub record Puts (out : List ℕ) (at : ℕ) (text out' : List ℕ) (end : ℕ) : Type 0 where
  pub bytes : out' ≡ take at out ++ (text ++ drop (at + length text) out)
  pub ends : end ≡ at + length text
  pub fits : end ≤ length out

-- a number of at most 20 digits, and a word after it
pub record PutsNumber (out : List ℕ) (at n : ℕ) (word out' : List ℕ) (end : ℕ) : Type 0 where
  pub puts : Puts out at (decimal n ++ word) out' end
  pub short : end ≤ at + 20 + length word

-- a word, two numbers of at most 20 digits and a last word, at the front
pub record PutsPair (out word : List ℕ) (a b : ℕ) (last out' : List ℕ) (end : ℕ) : Type 0 where
  pub puts : Puts out 0 (word ++ decimal a ++ space ++ decimal b ++ last) out' end
  pub short : end ≤ length word + 41 + length last
