-- The shape of a rule as the code answers it: its inner roles as a part of its left side.
use Rattle.std.specs.Prelude.{Bool, true, false, List, ℕ, ◌+◌, ◌-◌, ◌≤◌, length}
use Rattle.base.specs.Part.{part}
use Rattle.order.specs.Shape.{End}
use Rattle.order.specs.Shape.Shape.{transitive, symmetric, row}
use Rattle.order.specs.Shape as Order
use Rattle.order.specs.Shape.End.{initial, final}
use Rattle.rule_shapes.specs.declared.Shape.{Shape}
use Rattle.rule_shapes.specs.declared.Shape.TheVariants.{Transitive, Symmetric, Row}

abbrev pub is_final : End → Bool
is_final initial = false
is_final final = true

-- how many roles of a left side stand before its inner roles, and how many after them: the right role stands before them where their row begins at
-- final, and after them where it ends at initial
abbrev pub ahead : End → ℕ
ahead initial = 0
ahead final = 1

abbrev pub behind : End → ℕ
behind initial = 1
behind final = 0

-- a shape by the part of a left side of so many roles that its inner roles are
abbrev pub in_part : ℕ → Order.Shape → Shape
in_part size transitive = Transitive
in_part size symmetric = Symmetric
in_part size (row from to inner) =
    Row (record { from = is_final from; to = is_final to; start = ahead from; size = size - (ahead from + behind to) })

-- the answer for a rule with a left side and a right role
unfoldable pub shape_found : List ℕ → ℕ → Shape
shape_found left right = in_part (length left) (Order.shape (record { left = left; right = right }))

abbrev pub end : Bool → End
end false = initial
end true = final

-- the shape of a rule, its inner roles read off its left side
abbrev pub shape_in : List ℕ → Shape → Order.Shape
shape_in left Transitive = transitive
shape_in left Symmetric = symmetric
shape_in left (Row r) = row (end r.from) (end r.to) (part left r.start r.size)

-- the inner roles lie within the left side
abbrev pub Within : List ℕ → Shape → Type 0
Within left Transitive = Unit
Within left Symmetric = Unit
Within left (Row r) = r.start + r.size ≤ length left
