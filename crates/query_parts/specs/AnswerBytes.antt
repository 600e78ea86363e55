-- The byte of an answer: that of a refusal is not 0, and that of another answer is the Boolean's.
use mir.Val.{bool_byte}
use Rattle.std.specs.Prelude.{Bool, true, false, ◌≡◌, refl, Ok, Err}
use Rattle.std.proofs.Common.{arith}
use Rattle.refusals.specs.declared.query.QueryRefusal.{QueryRefusal}
use Rattle.refusals.specs.declared.query.QueryRefusal.TheVariants.{Tables, Chain, Role}
use Rattle.query_parts.specs.Answer.{byte_of}

pub byte-refused : (refusal : QueryRefusal) → byte_of (Err refusal) ≡ 0 → ⊥
byte-refused Tables z = omega (arith, z)
byte-refused Chain z = omega (arith, z)
byte-refused Role z = omega (arith, z)

pub byte-found : (b : Bool) → byte_of (Ok b) ≡ bool_byte b
byte-found true = refl
byte-found false = refl
