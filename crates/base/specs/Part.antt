-- Parts of a list, element by element.
use Rattle.std.specs.Prelude.{List, ◌≡◌, ℕ, ◌+◌, ◌-◌, ◌<◌, ◌≤◌, length, get_or, take, drop}
use Rattle.std.proofs.Common.{◌∙◌, arith, length-drop, get_or-take, get_or-drop, length-take-le, take_all}

-- a part of s: size elements from a on
abbrev pub part : List ℕ → ℕ → ℕ → List ℕ
part s a size = take size (drop a s)

module _ (s : List ℕ) (a size : ℕ) where
  pub get_or_part : (k : ℕ) → k < size → get_or (part s a size) k 0 ≡ get_or s (a + k) 0
  get_or_part k h = get_or-take size (drop a s) k 0 h ∙ get_or-drop a s k 0

  pub length_part : a + size ≤ length s → length (part s a size) ≡ size
  length_part h = length-take-le size (drop a s) (simp length-drop (omega arith))

-- all that stands from a place on
pub part-behind : (s : List ℕ) (a : ℕ) → part s a (length s - a) ≡ drop a s
part-behind s a = take_all (length s - a) (drop a s) (omega (arith, length-drop a s))
