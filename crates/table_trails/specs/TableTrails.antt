-- Tables read along trails: hops from a state at a place to a state at a place, and what a question about a chain asks of them.
use Rattle.std.specs.Prelude.{cond, ℕ, ◌+◌, ◌<◌, eqb, length, get_or}
use mathlib.Core.List.{List, Memᴰ}
use Rattle.roles.specs.Role.{Chain, name, polarity, inv}
use Rattle.networks.specs.Network.{Link}
use Rattle.networks.specs.LaidChain.{laid}
use Rattle.tables.specs.Tables.{Transition, epsilon, silent}

-- from state p at place i to state q at place k: a silent transition keeps the place, a letter goes ahead along a given link of
-- that role, or back along a given link whose inverse role it is
pub data Hop (ms : List Transition) (ls : List Link) : (p i q k : ℕ) → Type 0 where
  quiet : {p i q : ℕ} → Memᴰ (silent p q) ms → Hop ms ls p i q i
  ahead : {p q : ℕ} (l : Link) → Memᴰ l ls → l.role < epsilon → Memᴰ (record { from = p; label = l.role; to = q }) ms
      → Hop ms ls p l.from q l.to
  back : {p q : ℕ} (l : Link) → Memᴰ l ls → inv l.role < epsilon → Memᴰ (record { from = p; label = inv l.role; to = q }) ms
      → Hop ms ls p l.to q l.from

-- hops lead from state p at place i to state t at place j
pub data Leads (ms : List Transition) (ls : List Link) (t j : ℕ) : (p i : ℕ) → Type 0 where
  stop : Leads ms ls t j t j
  hop : {p i q k : ℕ} → Hop ms ls p i q k → Leads ms ls t j q k → Leads ms ls t j p i

-- from where to where a chain is asked: from place 0 to the last for a name, from the last to place 0 for the inverse of a name
unfoldable pub begin : ℕ → Chain → ℕ
begin r w = cond (eqb (polarity r) 1) (length w) 0

unfoldable pub end : ℕ → Chain → ℕ
end r w = cond (eqb (polarity r) 1) 0 (length w)

-- over the chain laid, hops lead from the name's initial state where the chain is asked from to the next state, its final one, where it is asked to
abbrev pub TablesBind : (heads : List ℕ) (ms : List Transition) → ℕ → Chain → Type 0
TablesBind heads ms r w = Leads ms (laid w) (get_or heads (name r) 0 + 1) (end r w) (get_or heads (name r) 0) (begin r w)
