-- `start` meets its contract. The invariant: the levels below `x` are written, and the numbers before the levels are as they were.
use Rattle.std.specs.Prelude.{◌≡◌, ℕ, ◌+◌, ◌-◌, ◌<◌, length, get_or}
use Rattle.rule_index.proofs.start.Given as goal

abbrev pub invariant-loop-x : goal.invariant-loop-x
invariant-loop-x l = record {
  size : length l.index ≡ 3904;
  levels : (x : ℕ) → x < l.x → get_or l.index (3648 + x) 0 ≡ get_or l.levels x 0 - 1;
  before : (m : ℕ) → m < 3648 → get_or l.index m 0 ≡ get_or l.initial.index m 0;
}
