use Rattle.std.proofs.Common.{◌≡◌, ◌+◌, drop}
use Rattle.byte_parts.specs.Bytes.{ahead}
use Rattle.byte_parts.proofs.find.Given as goal

-- `find` meets its contract. The invariant: the wanted place is as far from i as from the start.
abbrev pub invariant-loop-i : goal.invariant-loop-i
invariant-loop-i l = l.from + ahead l.wanted (drop l.from l.bytes) ≡ l.i + ahead l.wanted (drop l.i l.bytes)
