-- What a chain of checks gives: the first refusal met, or a value. A refusal is document 01's number of the cause with the value
-- returned beside it.
use Rattle.std.specs.Prelude.{Bool, true, false, ℕ}

pub data Result (A : Type 0) : Type 0 where
  refused : (cause value : ℕ) → Result A
  ok : A → Result A

-- refused by the cause unless the test holds; the rest else
abbrev pub demand : {A : Type 0} → Bool → (cause value : ℕ) → Result A → Result A
demand true cause value rest = rest
demand false cause value rest = refused cause value

abbrev pub and_then : {A B : Type 0} → Result A → (A → Result B) → Result B
and_then (refused cause value) f = refused cause value
and_then (ok a) f = f a

abbrev pub map_result : {A B : Type 0} → (A → B) → Result A → Result B
map_result f (refused cause value) = refused cause value
map_result f (ok a) = ok (f a)
