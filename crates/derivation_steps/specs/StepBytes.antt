-- A step in bytes, as it is read and written.
use Rattle.std.specs.Prelude.{List, ◌⊎◌, ◌≡◌, ℕ, ◌+◌, ◌*◌, ◌%◌, ◌<◌, ◌≤◌, length, get_or}
use Rattle.derivation_steps.specs.declared.WrittenStep.{WrittenStep}
use Rattle.derivation_steps.specs.WrittenSteps.{step_at}

-- step k is read, where the bytes go so far
pub record Reads (s : List ℕ) (k : ℕ) (t : WrittenStep) : Type 0 where
  pub whole : 4 * k + 4 ≤ length s → t ≡ step_at s k
  pub none : length s < 4 * k + 4 → t ≡ record { place = 0; number = 0; side = 0 }

-- what has room in four bytes of a step
abbrev pub low : WrittenStep → WrittenStep
low t = record { place = t.place % 65536; number = t.number % 256; side = t.side % 256 }

-- a step stands as step k; the other bytes are as they were
pub record StepPut (old : List ℕ) (k : ℕ) (t : WrittenStep) (new : List ℕ) : Type 0 where
  pub size : length new ≡ length old
  pub others : (x : ℕ) → (x < 4 * k) ⊎ (4 * k + 4 ≤ x) → get_or new x 0 ≡ get_or old x 0
  pub step : step_at new k ≡ t

-- step k is written, where the bytes go so far
pub record Puts (old : List ℕ) (k : ℕ) (t : WrittenStep) (new : List ℕ) : Type 0 where
  pub whole : 4 * k + 4 ≤ length old → StepPut old k (low t) new
  pub none : length old < 4 * k + 4 → new ≡ old
