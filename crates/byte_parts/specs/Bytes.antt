-- Parts of some bytes, the bytes before a wanted one, and bytes copied over others.
use Rattle.std.specs.Prelude.{cond, ◌&&◌, List, [], ◌∷◌, ℕ, suc, leb, eqb, length, take}
use Rattle.std.proofs.Math.Seq.{slice}
use Rattle.base.specs.Writing.{over}

-- the bytes from a place to an end; none where there are no such places
abbrev pub between : (from end : ℕ) → List ℕ → List ℕ
between from end s = cond (leb from end && leb end (length s)) (slice from end s) []

-- how many bytes stand before the first wanted one, or in all where there is none
unfoldable pub ahead : ℕ → List ℕ → ℕ
ahead wanted [] = 0
ahead wanted (b ∷ s) = cond (eqb b wanted) 0 (suc (ahead wanted s))

-- bytes with the first so many of others over their front, as far as both go
abbrev pub copied : (from : List ℕ) (count : ℕ) (to : List ℕ) → List ℕ
copied from count to = over (take (length to) (take count from)) to
