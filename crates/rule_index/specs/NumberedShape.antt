-- What the numbers of a shape, which an index keeps, say of a left side.
use Rattle.std.specs.Prelude.{Bool, true, false, List, ◌≡◌, refl, ℕ, ◌+◌, ◌≤◌, length}
use Rattle.std.proofs.Common.{arith}
use mir.Val.{bool_byte}
use Rattle.base.specs.Part.{part}
use Rattle.rule_shapes.specs.declared.Shape.{Shape}
use Rattle.rule_shapes.specs.declared.Shape.TheVariants.{Transitive, Symmetric, Row}
use Rattle.rule_shapes.specs.FoundShape.{end, shape_in, Within}
use Rattle.rule_shapes.specs.declared.numbers.Numbers.{Numbers}
use Rattle.rule_shapes.specs.ShapeNumbers.{numbers}
use Rattle.rule_index.specs.RuleIndex.{end_at, shape_by}

-- what the numbers of a shape say of a left side
pub record Says (left : List ℕ) (sh : Shape) (n : Numbers) : Type 0 where
  pub shaped : shape_by n.kind n.from n.to (part left n.start n.size) ≡ shape_in left sh
  pub kind : n.kind ≤ 2
  pub from : n.from ≤ 1
  pub to : n.to ≤ 1
  pub within : n.start + n.size ≤ length left

end_byte : (b : Bool) → end_at (bool_byte b) ≡ end b
end_byte false = refl
end_byte true = refl

byte_small : (b : Bool) → bool_byte b ≤ 1
byte_small false = omega arith
byte_small true = omega arith

pub numbers_say : (left : List ℕ) (sh : Shape) → Within left sh → Says left sh (numbers sh)
numbers_say left Transitive w = record { shaped = refl; kind = omega arith; from = omega arith; to = omega arith; within = omega arith }
numbers_say left Symmetric w = record { shaped = refl; kind = omega arith; from = omega arith; to = omega arith; within = omega arith }
numbers_say left (Row r) w =
    record {
      shaped = rw (end_byte r.from, end_byte r.to) refl;
      kind = omega arith;
      from = byte_small r.from;
      to = byte_small r.to;
      within = w;
    }
