-- Acceptance by a table of transitions: a path from one state to another that spells a chain, silent transitions free.
use mathlib.Core.List.{List, [], ◌∷◌, Memᴰ}
use Rattle.std.specs.Prelude.{ℕ, ◌<◌}
use Rattle.roles.specs.Role.{Chain}
use Rattle.tables.specs.Tables.{Transition, epsilon, silent}

pub data Path (ms : List Transition) : ℕ → Chain → ℕ → Type 0 where
  stop : {q : ℕ} → Path ms q [] q
  skip : {p q t : ℕ} {w : Chain} → Memᴰ (silent p q) ms → Path ms q w t → Path ms p w t
  read : {p q t a : ℕ} {w : Chain} → a < epsilon → Memᴰ (record { from = p; label = a; to = q }) ms → Path ms q w t → Path ms p (a ∷ w) t
