-- Tables that many questions are put to, checked and indexed once.
use Rattle.std.specs.Prelude.{List, ◌≡◌, ℕ, ◌+◌, ◌<◌, get_or, take, drop}
use Rattle.query_answerer.specs.Batch.{told}
use Rattle.query_causes.specs.Input.{links_of}
use Rattle.query_causes.specs.ManyQueries.{names_in}
use Rattle.query_simulation.specs.Transitions.{transition_count}
use Rattle.query_binder.specs.TrailIndex.{Indexed}
use Rattle.query_correctness.specs.TrailQuery.{AnsweredByTrails}

module _ (room : ℕ) (heads moves : List ℕ) where
  -- each initial state and the next one, which is final, are below the room, and the first n transitions are in the index
  pub record Held (index : List ℕ) (n : ℕ) : Type 0 where
    pub inside : (i : ℕ) → get_or heads i 0 + 1 < room
    pub indexed : Indexed room moves index n

  -- how many names the tables have, 0 where they do not fit; those that fit are indexed
  pub record Tabled (names : ℕ) (index : List ℕ) : Type 0 where
    pub named : names ≡ names_in heads moves
    pub held : (names ≡ 0 → ⊥) → Held index (transition_count moves)

module _ (heads moves : List ℕ) where
  -- the byte answers the question at the front of s
  abbrev pub AnsweredAt : (s : List ℕ) (byte : ℕ) → Type 0
  AnsweredAt s byte = AnsweredByTrails heads moves (get_or s 0 0) (take (links_of s) (drop 3 s)) (told byte)
