-- A shape in the numbers that an index of rules keeps of it.
use mir.Val.{bool_byte}
use Rattle.rule_shapes.specs.declared.Shape.{Shape}
use Rattle.rule_shapes.specs.declared.Shape.TheVariants.{Transitive, Symmetric, Row}
use Rattle.rule_shapes.specs.declared.numbers.Numbers.{Numbers}

abbrev pub numbers : Shape → Numbers
numbers Transitive = record { kind = 0; from = 0; to = 0; start = 0; size = 0 }
numbers Symmetric = record { kind = 1; from = 0; to = 0; start = 0; size = 0 }
numbers (Row r) = record { kind = 2; from = bool_byte r.from; to = bool_byte r.to; start = r.start; size = r.size }
