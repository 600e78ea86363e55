-- Questions that follow one another on an input: each a role byte, the number of its links, 16 bits, low byte first, and the links.
use Rattle.std.specs.Prelude.{Bool, List, ℕ, ◌+◌, ◌<◌, ◌≤◌, leb, length}
use Rattle.words.specs.Word.{word}

-- how many links the question at the front of s says that it has
abbrev pub links_of : List ℕ → ℕ
links_of s = word s 1

-- the question at the front of s is whole, or not
abbrev pub Whole : List ℕ → Type 0
Whole s = 3 + links_of s ≤ length s

abbrev pub Broken : List ℕ → Type 0
Broken s = length s < 3 + links_of s

abbrev pub is_whole : List ℕ → Bool
is_whole s = leb (3 + links_of s) (length s)
