-- What a result says in document 01's numbers, where each refusal has the number of its cause and the value returned beside it.
use Rattle.std.specs.Prelude.{ℕ, Ok, Err}
use Rattle.std.specs.Prelude.{Result as Answer}
use Rattle.base.specs.Result.{Result}
use Rattle.base.specs.Result.Result.{refused, ok}

abbrev pub said : {A E : Type 0} → (cause value : E → ℕ) → Answer A E → Result A
said cause value (Ok a) = ok a
said cause value (Err refusal) = refused (cause refusal) (value refusal)
