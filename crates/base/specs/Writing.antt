-- New numbers written over the front of old ones.
use Rattle.std.specs.Prelude.{List, ◌++◌, ℕ, length, drop}

abbrev pub over : List ℕ → List ℕ → List ℕ
over new old = new ++ drop (length new) old
