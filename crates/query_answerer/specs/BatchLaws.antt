-- How answering one question after another gives what a batch promises.
use Rattle.std.specs.Prelude.{Bool, true, false, List, [], ◌∷◌, ◌⊎◌, ◌≡◌, refl, ℕ, zero, suc, ◌+◌, ◌-◌, ◌<◌, ◌≤◌, ltb, length, get_or, set, take, drop, replicate}
use Rattle.std.proofs.Common.{append_assoc, append-nil, inl, inr, sym, ap, ◌∙◌, zero-add, arith, leb-true, leb-false, ltb-true, length-set, length-drop, get_or-drop, drop-drop, take-suc-set, drop-set-lt, length-take-le}
use mir.Val.{bool_byte}
use Rattle.base.specs.Reflects.{Reflects}
use Rattle.base.specs.Result.{Result}
use Rattle.base.specs.Result.Result.{refused, ok}
use Rattle.base.specs.ResultLaws.{demand_test}
use Rattle.base.specs.Decision.Decision.{refuses, yes, no}
use Rattle.roles.specs.Role.{Chain, name}
use Rattle.byte_parts.specs.Bytes.{between}
use Rattle.byte_parts.specs.BytesLaws.{between-some}
use Rattle.query_causes.specs.Query.{tables_fit, question, query, asked, Accepts, Answered}
use Rattle.query_causes.specs.ManyQueries.{names_in, query_for, cause_of}
use Rattle.query_causes.specs.Input.{links_of, Whole, Broken, is_whole}
use Rattle.query_causes.specs.ManyQueries.{whole_size}
use Rattle.query_simulation.specs.QueryLaws.{names-none, query-names, cause_none, cause_some, askable, accepted}
use Rattle.query_simulation.specs.Reading.{Leads, Readable}
use Rattle.query_simulation.specs.States.{Renewed}
use Rattle.query_simulation.specs.StatesLaws.{unused-zeros, unused-later}
use Rattle.query_simulation.specs.TablesLaws.{Tables, tables}
use Rattle.query_simulation.specs.Transitions.{transition_count}
use Rattle.query_simulation.specs.TransitionIndex.{Prepared, Filled}
use Rattle.query_simulation.specs.TransitionIndexLaws.{prepared-zeros, indexed-behind}
use Rattle.query_answerer.specs.Batch.{told, Batched, Batches, Going, Ready, Asked}
use Rattle.query_answerer.specs.Batch.Batched.{none, more}

-- what its size tells of a question
module _ (s : List ℕ) {size : ℕ} (e : size ≡ whole_size s) where
  sized_by : (t : Bool) → is_whole s ≡ t → (size ≡ 0 → ⊥) → (size ≡ 3 + links_of s) × Whole s
  sized_by true h some = (rw h at e, leb-true (3 + links_of s) (length s) h)
  sized_by false h some = absurd (some (rw h at e))

  unsized_by : (t : Bool) → is_whole s ≡ t → size ≡ 0 → Broken s
  unsized_by true h z = let f : size ≡ 3 + links_of s = rw h at e in absurd (let g : ⊥ = omega (arith, f, z) in g)
  unsized_by false h z = leb-false (3 + links_of s) (length s) h

  pub unsized : size ≡ 0 → Broken s
  unsized = unsized_by (is_whole s) refl

  module _ (some : size ≡ 0 → ⊥) where
    pub sized : (size ≡ 3 + links_of s) × Whole s
    sized = sized_by (is_whole s) refl some

    -- its links are those between its first three bytes and its end
    sized_links : between 3 size s ≡ take (links_of s) (drop 3 s)
    sized_links =
        let same : size - 3 ≡ links_of s = omega (arith, sized.0) in
        between-some 3 size s (omega (arith, sized.0, sized.1)) (omega (arith, sized.0)) ∙ ap (λ (n : ℕ). take n (drop 3 s)) same

-- a whole question at a place of q is answered
module _ {Answers : ℕ → Chain → Result Bool → Type 0} {q answers answers' : List ℕ} {read answered : ℕ} (g : Going Answers q answers read answered answers') where
  module _ {size : ℕ} (e : size ≡ whole_size (drop read q)) (some : size ≡ 0 → ⊥) where
    pub whole-fits : read + size ≤ length q
    whole-fits = let f = sized (drop read q) e some in omega (arith, f.0, f.1, g.within, length-drop read q)

    pub going_next : (byte : ℕ) → answered < length answers' → Answers (get_or (drop read q) 0 0) (take (links_of (drop read q)) (drop 3 (drop read q))) (told byte)
        → Going Answers q answers (read + size) (answered + 1) (set answers' answered byte)
    going_next byte l t =
        let f = sized (drop read q) e some in
        record {
          within = whole-fits;
          fits = omega (arith, g.same, l);
          same = length-set answers' answered byte ∙ g.same;
          completes = λ n bytes b.
              let one : answered + 1 ≡ suc answered = omega arith in
              let sum : read + size + n ≡ read + (3 + links_of (drop read q) + n) = omega (arith, f.0) in
              let rest : Batched Answers (drop (3 + links_of (drop read q)) (drop read q)) n bytes =
              rw (drop-drop (3 + links_of (drop read q)) read q, ← f.0) b in
              let joined = g.completes (3 + links_of (drop read q) + n) (byte ∷ bytes) (more (drop read q) byte n bytes f.1 t rest) in
              rw (one, take-suc-set answers' answered byte l, append_assoc (take answered answers') (byte ∷ []) bytes, sum) joined;
          kept =
              let one : answered + 1 ≡ suc answered = omega arith in
              rw one
              (drop-set-lt (suc answered) answers' answered byte (omega arith)
              ∙ sym (drop-drop 1 answered answers' ∙ ap (λ (k : ℕ). drop k answers') one)
              ∙ ap (drop 1) g.kept
              ∙ drop-drop 1 answered answers
              ∙ ap (λ (k : ℕ). drop k answers) one);
        }

  -- why no more is answered
  going_ends : (answered ≡ length answers) ⊎ Broken (drop read q) → Batches Answers q answers answers' (record { answered = answered; read = read })
  going_ends stopped =
      let none_left : read + 0 ≡ read = omega arith in
      record {
        fits = g.fits;
        same = g.same;
        written = rw (none_left, append-nil (take answered answers')) at (g.completes 0 [] (none (drop read q)));
        kept = g.kept;
        stopped = stopped;
      }

  pub going_full : length answers' ≤ answered → Batches Answers q answers answers' (record { answered = answered; read = read })
  going_full l = going_ends (inl (omega (arith, g.same, g.fits, l)))

  pub going_broken : {size : ℕ} → size ≡ whole_size (drop read q) → size ≡ 0 → Batches Answers q answers answers' (record { answered = answered; read = read })
  going_broken e z = going_ends (inr (unsized (drop read q) e z))

-- nothing is answered yet
pub going_none : (Answers : ℕ → Chain → Result Bool → Type 0) (q answers : List ℕ) → Going Answers q answers 0 0 answers
going_none Answers q answers = record { within = omega arith; fits = omega arith; same = refl; completes = λ n bytes b. rw (zero-add n) b; kept = refl }

-- tables that fit, and are indexed, or do not fit
module _ (heads moves : List ℕ) {names : ℕ} (e : names ≡ names_in heads moves) where
  fit-by : (t : Bool) → tables_fit heads moves ≡ t → (names ≡ 0 → ⊥) → Tables heads moves
  fit-by true h some = tables heads moves h
  fit-by false h some = absurd (some (e ∙ names-none heads moves h))

  pub named_tables : (names ≡ 0 → ⊥) → Tables heads moves
  named_tables = fit-by (tables_fit heads moves) refl

  pub ready_wrong : names ≡ 0 → {space : List ℕ} → space ≡ replicate 15360 0 → Ready heads moves 0 1 space
  ready_wrong z zeros = record { unused = rw zeros (unused-zeros 15360 (omega arith) (omega arith)); named = sym z ∙ e; indexed = λ some. absurd (some refl) }

  module _ (some : names ≡ 0 → ⊥) where
    pub ready-zeros : {space : List ℕ} → space ≡ replicate 15360 0 → Prepared 2048 1 moves 0 space
    ready-zeros zeros = rw zeros (prepared-zeros moves 15360 (omega arith) (omega (arith, (named_tables some).few)) (omega arith))

    pub ready-fit : {space : List ℕ} {b : Bool} → Filled 2048 moves space b → Ready heads moves names 1 space
    ready-fit f =
        let p = f.prepared (f.all (named_tables some).fit) in
        record { unused = p.unused; named = e; indexed = λ some. p.indexed }

pub told-refused : (c : ℕ) → 12 ≤ c → told c ≡ refused c 0
told-refused zero l = absurd (let f : ⊥ = omega (arith, l) in f)
told-refused (suc zero) l = absurd (let f : ⊥ = omega (arith, l) in f)
told-refused (suc (suc c)) l = refl

-- what answers a question by its parts answers it by its bytes
module _ (q : List ℕ) (read : ℕ) {size : ℕ} (e : size ≡ whole_size (drop read q)) (some : 0 < size) {r : ℕ} (role : r ≡ get_or q read 0)
    {w : Chain} (chain : w ≡ between 3 size (drop read q)) where
  pub answered_as : (Answers : ℕ → Chain → Result Bool → Type 0) (byte : ℕ) → Answers r w (told byte)
      → Answers (get_or (drop read q) 0 0) (take (links_of (drop read q)) (drop 3 (drop read q))) (told byte)
  answered_as Answers byte t =
      let front : read + 0 ≡ read = omega arith in
      let first : get_or (drop read q) 0 0 ≡ r = get_or-drop read q 0 0 ∙ ap (λ (i : ℕ). get_or q i 0) front ∙ sym role in
      let links : take (links_of (drop read q)) (drop 3 (drop read q)) ≡ w = sym (chain ∙ sized_links (drop read q) e (λ z. omega (arith, z, some))) in
      rw (first, links) t

  short-links : length w + 3 ≡ size
  short-links =
      let nonzero : size ≡ 0 → ⊥ = λ z. omega (arith, z, some) in
      let f = sized (drop read q) e nonzero in
      let fits : links_of (drop read q) ≤ length (drop 3 (drop read q)) = omega (arith, f.1, length-drop 3 (drop read q)) in
      let taken = ap (λ (s : List ℕ). length s) (chain ∙ sized_links (drop read q) e nonzero) in
      omega (arith, f.0, taken, length-take-le (links_of (drop read q)) (drop 3 (drop read q)) fits)

-- tables that a question is not refused for have a name
pub passed-named : (names r : ℕ) (w : Chain) → query_for names r w ≡ ok tt → names ≡ 0 → ⊥
passed-named names r w passed z = omega (arith, z, ltb-true 0 names (demand_test (ltb 0 names) 12 0 (question names r w) tt passed))

module _ {heads moves : List ℕ} {names stamp : ℕ} {space : List ℕ} (ready : Ready heads moves names stamp space) where
  -- with a newer stamp
  pub ready_renewed : {space' : List ℕ} {newer : ℕ} → Renewed 2048 space space' newer → Ready heads moves names newer space'
  ready_renewed r = record { unused = r.unused; named = ready.named; indexed = λ some. indexed-behind r.behind (ready.indexed some) }

  -- a later stamp is newer too
  ready-later : (later : ℕ) → stamp ≤ later → Ready heads moves names later space
  ready-later later l = record { unused = unused-later later l ready.unused; named = ready.named; indexed = ready.indexed }

  -- one question is answered, by its bytes
  module _ (q : List ℕ) (read : ℕ) {size : ℕ} (e : size ≡ whole_size (drop read q)) (some : 0 < size) {r : ℕ} (role : r ≡ get_or q read 0)
      {w : Chain} (chain : w ≡ between 3 size (drop read q)) where
    query_is : query heads moves r w ≡ query_for names r w
    query_is = query-names heads moves r w ready.named

    module _ {cause : ℕ} (found : cause ≡ cause_of (query_for names r w)) where
      pub asked-refused : (cause ≡ 0 → ⊥) → Asked heads moves names (drop read q) cause (stamp + size) space
      asked-refused bad =
          let f = cause_some names r w found bad in
          record { answered = answered_as q read e some role chain (Answered heads moves) cause (rw (told-refused cause f.0) (refuses cause 0 (query_is ∙ f.1))); ready = ready-later (stamp + size) (omega arith) }

      module _ (good : cause ≡ 0) {h : ℕ} (head : h ≡ get_or heads (name r) 0) where
        passed : query heads moves r w ≡ ok tt
        passed = query_is ∙ cause_none names r w found good

        pub ready_readable : stamp ≤ 64000 → Readable moves 2048 stamp h w space
        ready_readable early =
            let a = askable heads moves r w passed head in
            record {
              prepared = record { unused = ready.unused; indexed = ready.indexed (passed-named names r w (cause_none names r w found good)) };
              letters = a.letters;
              inside = omega (arith, a.low);
              early = early;
            }

        module _ {space' : List ℕ} (left : Prepared 2048 (stamp + length w + 1) moves (transition_count moves) space') where
          ready-after : Ready heads moves names (stamp + size) space'
          ready-after =
              record {
                unused = unused-later (stamp + size) (omega (arith, short-links q read e some role chain)) left.unused;
                named = ready.named;
                indexed = λ some. left.indexed;
              }

          decided : (b : Bool) → Reflects b (Accepts heads moves r w) → Asked heads moves names (drop read q) (bool_byte b) (stamp + size) space'
          decided true d = record { answered = answered_as q read e some role chain (Answered heads moves) 1 (yes passed (d.holds refl)); ready = ready-after }
          decided false d = record { answered = answered_as q read e some role chain (Answered heads moves) 0 (no passed (d.fails refl)); ready = ready-after }

          pub asked_decided : {b : Bool} → Reflects b (Leads moves h (asked r w) (h + 1)) → Asked heads moves names (drop read q) (bool_byte b) (stamp + size) space'
          asked_decided {b} d = decided b (accepted heads moves r w passed head d)
