-- How a question is answered by trails: its ends, its refusals, and what the hops say.
use Rattle.std.specs.Prelude.{Bool, true, false, List, ◌⊎◌, ◌≡◌, refl, ℕ, ◌+◌, ◌<◌, ◌≤◌, eqb, length, get_or, drop, replicate}
use Rattle.std.proofs.Common.{inl, inr, ap, ◌∙◌, arith, le-leb}
use Rattle.std.proofs.lemmas.Bool.{lt-leb}
use Rattle.std.proofs.Math.ListN.{get_or-eq_default}
use mir.Val.{bool_byte}
use Rattle.base.specs.Decision.Decision.{refuses, yes, no}
use Rattle.base.specs.Reflects.{Reflects}
use Rattle.base.specs.Result.{Result, and_then}
use Rattle.base.specs.Result.Result.{ok}
use Rattle.base.specs.Truth.{lt_or_le}
use Rattle.roles.specs.Role.{Chain, name, polarity}
use Rattle.byte_parts.specs.Bytes.{between}
use Rattle.networks.specs.LaidChain.{laid}
use Rattle.table_trails.specs.TableTrails.{Leads, begin, end, TablesBind}
use Rattle.query_causes.specs.ManyQueries.{names_in, query_for, cause_of, whole_size}
use Rattle.query_causes.specs.Query.{transitions_in, short_chain, query}
use Rattle.query_simulation.specs.QueryLaws.{query-names, cause_none, cause_some, askable}
use Rattle.query_simulation.specs.TablesLaws.{Tables}
use Rattle.query_simulation.specs.Transitions.{Fit}
use Rattle.query_answerer.specs.Batch.{told}
use Rattle.query_answerer.specs.BatchLaws.{named_tables, told-refused, answered_as, passed-named}
use Rattle.query_binder.specs.Hops.{Ground}
use Rattle.query_binder.specs.SmallTables.{Small}
use Rattle.query_binder.specs.TrailBatch.{Held, Tabled, AnsweredAt}
use Rattle.query_binder.specs.TrailIndexLaws.{indexed-zeros}
use Rattle.query_correctness.specs.TrailQuery.{short_query, AnsweredByTrails}

-- from where to where a chain is asked, as the test of the role tells
module _ (moves : List ℕ) (r : ℕ) (w : Chain) (h : ℕ) {t : Bool} (test : t ≡ eqb (polarity r) 1) {b : Bool} where
  pub ends-inverse : t ≡ true → Reflects b (Leads (transitions_in moves) (laid w) (h + 1) 0 h (length w))
      → Reflects b (Leads (transitions_in moves) (laid w) (h + 1) (end r w) h (begin r w))
  unfolding begin end
  ends-inverse e d = rw (← test, e) d

  pub ends-name : t ≡ false → Reflects b (Leads (transitions_in moves) (laid w) (h + 1) (length w) h 0)
      → Reflects b (Leads (transitions_in moves) (laid w) (h + 1) (end r w) h (begin r w))
  unfolding begin end
  ends-name e d = rw (← test, e) d

-- where each initial state and the next one are below the room, so is what stands for one beyond them
heads-inside : (room : ℕ) (heads : List ℕ) → 1 < room → ((i : ℕ) → i < length heads → get_or heads i 0 + 1 < room) → (i : ℕ) → get_or heads i 0 + 1 < room
heads-inside room heads some inside i = by_place (lt_or_le i (length heads))
  where
    by_place : (i < length heads) ⊎ (length heads ≤ i) → get_or heads i 0 + 1 < room
    by_place (inl l) = inside i l
    by_place (inr l) = rw (get_or-eq_default heads 0 {n = i} l) (omega arith)

-- tables that have a name, and zeros for their index
module _ (heads moves : List ℕ) (some : names_in heads moves ≡ 0 → ⊥) where
  fitting : Tables heads moves
  fitting = named_tables heads moves refl some

  pub held-few : Small heads moves → Held 64 heads moves (replicate 320 0) 0
  held-few small =
      let low = small.states_low in
      let fit : Fit 64 moves = λ k l. record { from_fits = (low k l).0; label_fits = (fitting.fit k l).label_fits; to_fits = (low k l).1 } in
      record {
        inside = heads-inside 64 heads (omega arith) (λ i l. omega (arith, small.heads_low i l));
        indexed = indexed-zeros 320 (omega arith) fit (omega (arith, small.few)) (omega (arith, small.few));
      }

  pub held-many : Held 2048 heads moves (replicate 9216 0) 0
  held-many =
      record {
        inside = heads-inside 2048 heads (omega arith) (λ i l. omega (arith, fitting.small_heads i l));
        indexed = indexed-zeros 9216 (omega arith) fitting.fit (omega (arith, fitting.few)) (omega (arith, fitting.few));
      }

-- one question, by its bytes
module _ {room : ℕ} {heads moves index : List ℕ} {names : ℕ} (tabled : Tabled room heads moves names index) (q : List ℕ) (read : ℕ) {size : ℕ}
    (e : size ≡ whole_size (drop read q)) (some : 0 < size) {r : ℕ} (role : r ≡ get_or q read 0) {w : Chain} (chain : w ≡ between 3 size (drop read q)) where
  by_bytes : (byte : ℕ) → AnsweredByTrails heads moves r w (told byte) → AnsweredAt heads moves (drop read q) byte
  by_bytes byte = answered_as q read e some role chain (AnsweredByTrails heads moves) byte

  module _ {cause : ℕ} (found : cause ≡ cause_of (query_for names r w)) where
    short-after : {x : Result (Unit {0})} → query_for names r w ≡ x → short_query heads moves r w ≡ and_then x (λ _. short_chain w tt)
    short-after f = ap (λ (y : Result (Unit {0})). and_then y (λ _. short_chain w tt)) (query-names heads moves r w tabled.named ∙ f)

    pub asked-refused : (cause ≡ 0 → ⊥) → AnsweredAt heads moves (drop read q) cause
    asked-refused bad =
        let f = cause_some names r w found bad in
        by_bytes cause (rw (told-refused cause f.0) (refuses cause 0 (short-after f.1)))

    module _ (good : cause ≡ 0) where
      pub asked_long : 16 < length w → AnsweredAt heads moves (drop read q) 15
      asked_long l = by_bytes 15 (refuses 15 0 (short-after (cause_none names r w found good) ∙ rw (lt-leb (length w) 16 l) refl))

      passed : query heads moves r w ≡ ok tt
      passed = query-names heads moves r w tabled.named ∙ cause_none names r w found good

      module _ (few : length w ≤ 16) {h : ℕ} (head : h ≡ get_or heads (name r) 0) where
        pub asked-ground : Ground room moves index w × (h + 1 < room)
        asked-ground =
            let a = askable heads moves r w passed head in
            let held = tabled.held (passed-named names r w (cause_none names r w found good)) in
            (record { indexed = held.indexed; few = few; small = a.letters.small }, rw head (held.inside (name r)))

        short : short_query heads moves r w ≡ ok tt
        short = short-after (cause_none names r w found good) ∙ rw (le-leb (length w) 16 few) refl

        decided : (b : Bool) → Reflects b (TablesBind heads (transitions_in moves) r w) → AnsweredAt heads moves (drop read q) (bool_byte b)
        decided true d = by_bytes 1 (yes short (d.holds refl))
        decided false d = by_bytes 0 (no short (d.fails refl))

        pub asked_decided : {b : Bool} → Reflects b (Leads (transitions_in moves) (laid w) (h + 1) (end r w) h (begin r w))
            → AnsweredAt heads moves (drop read q) (bool_byte b)
        asked_decided {b} d = decided b (rw head at d)
