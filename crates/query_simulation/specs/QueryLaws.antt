-- Laws of questions: the first refusal met, what a question that is not refused has passed, and what it then says of its roles.
use Rattle.std.specs.Prelude.{Bool, true, false, List, ◌∷◌, ◌≡◌, ℕ, zero, suc, ◌+◌, ◌*◌, ◌<◌, ◌≤◌, length, get_or, leb, ltb}
use Rattle.std.proofs.Math.Path.{refl}
use Rattle.std.proofs.Common.{arith, leb-true, lt-ltb}
use Rattle.roles.specs.Role.{Chain, name}
use Rattle.base.specs.Result.{Result, demand}
use Rattle.base.specs.Result.Result.{refused, ok}
use Rattle.base.specs.ResultLaws.{demand_test, demand-rest}
use Rattle.book_format.specs.Format.{named}
use Rattle.book_format.specs.DeclaredLaws.{named-all, named-link}
use Rattle.base.specs.Truth.{and_right}
use Rattle.base.specs.Decision.Decision.{yes, no}
use Rattle.base.specs.Reflects.{Reflects}
use Rattle.tables.specs.Path.{Path}
use Rattle.query_causes.specs.Query.{transitions_in, tables_fit, chain_fits, question, query, asked, Accepts, Answered}
use Rattle.query_causes.specs.ManyQueries.{names_in, query_for, cause_of}
use Rattle.query_simulation.specs.Reading.{Letters, Askable}
use Rattle.query_simulation.specs.TablesLaws.{Tables, tables}

-- the first refusal met, for so many names
module _ (n r : ℕ) (w : Chain) where
  pub question-chain : chain_fits w ≡ false → question n r w ≡ refused 13 0
  question-chain h = rw h refl

  module _ (sized : chain_fits w ≡ true) where
    pub question-role : named n (r ∷ w) ≡ false → question n r w ≡ refused 14 0
    question-role h = rw (sized, h) refl

    pub question-ok : named n (r ∷ w) ≡ true → question n r w ≡ ok tt
    question-ok h = rw (sized, h) refl

-- put to tables without a name, or with some
module _ (n r : ℕ) (w : Chain) where
  pub unnamed_cause : ltb 0 n ≡ false → cause_of (query_for n r w) ≡ 12
  unnamed_cause h = rw h refl

  pub named_cause : ltb 0 n ≡ true → cause_of (query_for n r w) ≡ cause_of (question n r w)
  named_cause h = rw h refl

-- what the number of the cause says, for so many names: nothing is refused, or all is by it
abbrev tested : (t u v : Bool) → Result (Unit {0})
tested t u v = demand t 12 0 (demand u 13 0 (demand v 14 0 (ok tt)))

tested-none : (t u v : Bool) {c : ℕ} → c ≡ cause_of (tested t u v) → c ≡ 0 → tested t u v ≡ ok tt
tested-none true true true e z = refl
tested-none true true false e z = absurd (let f : ⊥ = omega (arith, e, z) in f)
tested-none true false v e z = absurd (let f : ⊥ = omega (arith, e, z) in f)
tested-none false u v e z = absurd (let f : ⊥ = omega (arith, e, z) in f)

tested-some : (t u v : Bool) {c : ℕ} → c ≡ cause_of (tested t u v) → (c ≡ 0 → ⊥) → (12 ≤ c) × (tested t u v ≡ refused c 0)
tested-some true true true e some = absurd (some e)
tested-some true true false e some = rw e (omega arith, refl)
tested-some true false v e some = rw e (omega arith, refl)
tested-some false u v e some = rw e (omega arith, refl)

module _ (n r : ℕ) (w : Chain) {c : ℕ} (e : c ≡ cause_of (query_for n r w)) where
  pub cause_none : c ≡ 0 → query_for n r w ≡ ok tt
  cause_none = tested-none (ltb 0 n) (chain_fits w) (named n (r ∷ w)) e

  pub cause_some : (c ≡ 0 → ⊥) → (12 ≤ c) × (query_for n r w ≡ refused c 0)
  cause_some = tested-some (ltb 0 n) (chain_fits w) (named n (r ∷ w)) e

-- how many names tables have
module _ (heads moves : List ℕ) where
  pub names-none : tables_fit heads moves ≡ false → names_in heads moves ≡ 0
  names-none h = rw h refl

  pub names-some : tables_fit heads moves ≡ true → names_in heads moves ≡ length heads
  names-some h = rw h refl

-- the first refusal met, put to tables
module _ (heads moves : List ℕ) (r : ℕ) (w : Chain) where
  pub query_tables : tables_fit heads moves ≡ false → query heads moves r w ≡ refused 12 0
  unfolding query
  query_tables h = rw h refl

  pub query-question : tables_fit heads moves ≡ true → query heads moves r w ≡ question (length heads) r w
  unfolding query
  query-question h = rw h refl

  -- for as many names as they have
  query-named : (t : Bool) → tables_fit heads moves ≡ t → query heads moves r w ≡ query_for (names_in heads moves) r w
  query-named true h =
      let some : ltb 0 (length heads) ≡ true = lt-ltb 0 (length heads) (tables heads moves h).some_heads in
      rw (h, some) (query-question h)
  query-named false h = rw h (query_tables h)

  module _ {names : ℕ} (e : names ≡ names_in heads moves) where
    pub query-names : query heads moves r w ≡ query_for names r w
    query-names = rw e (query-named (tables_fit heads moves) refl)

  -- what a question that is not refused has passed
  module _ (passed : query heads moves r w ≡ ok tt) where
    passed_tables : tables_fit heads moves ≡ true
    unfolding query
    passed_tables = demand_test (tables_fit heads moves) 12 0 _ tt passed

    passed-roles : named (length heads) (r ∷ w) ≡ true
    unfolding query
    passed-roles =
        demand_test (named (length heads) (r ∷ w)) 14 0 _ tt
        (demand-rest (chain_fits w) 13 0 _ tt (demand-rest (tables_fit heads moves) 12 0 _ tt passed))

    passed-chain : chain_fits w ≡ true
    unfolding query
    passed-chain = demand_test (chain_fits w) 13 0 _ tt (demand-rest (tables_fit heads moves) 12 0 _ tt passed)

-- the roles that are named
module _ (n r : ℕ) (w : Chain) where
  role_named : named n (r ∷ w) ≡ true → name r < n
  unfolding name
  role_named h = omega (arith, named-link n (r ∷ w) h 0 (omega arith))

  link_named : n ≤ 64 → named n (r ∷ w) ≡ true → (k : ℕ) → k < length w → get_or w k 0 < 128
  link_named few h k l = omega (arith, named-link n (r ∷ w) h (suc k) (omega arith))

  pub named_so : r < 2 * n → ((k : ℕ) → k < length w → get_or w k 0 < 2 * n) → named n (r ∷ w) ≡ true
  named_so h k = named-all n (r ∷ w) by_place
    where
      by_place : (i : ℕ) → i < suc (length w) → get_or (r ∷ w) i 0 < 2 * n
      by_place zero l = h
      by_place (suc i) l = k i (omega arith)

-- a question that is not refused has tables that fit, a name and letters
module _ (heads moves : List ℕ) (r : ℕ) (w : Chain) (passed : query heads moves r w ≡ ok tt) where
  fitting : Tables heads moves
  fitting = tables heads moves (passed_tables heads moves r w passed)

  named-role : name r < length heads
  named-role = role_named (length heads) r w (passed-roles heads moves r w passed)

  letters : Letters w
  letters =
      record {
        few = leb-true (length w) 1024 (and_right (leb 1 (length w)) (leb (length w) 1024) (passed-chain heads moves r w passed));
        small = link_named (length heads) r w fitting.few_heads (passed-roles heads moves r w passed);
      }

  -- by the initial state of its name
  module _ {h : ℕ} (e : h ≡ get_or heads (name r) 0) where
    pub askable : Askable moves h w
    askable = record { few = fitting.few; fit = fitting.fit; low = rw e (fitting.small_heads (name r) named-role); letters = letters }

    pub accepted : {b : Bool} → Reflects b (Path (transitions_in moves) h (asked r w) (h + 1)) → Reflects b (Accepts heads moves r w)
    accepted d = rw e at d

    -- what was found is the answer
    pub answered : (b : Bool) → Reflects b (Path (transitions_in moves) h (asked r w) (h + 1)) → {x : Result Bool} → x ≡ ok b → Answered heads moves r w x
    answered true d i = rw i (yes passed ((accepted d).holds refl))
    answered false d i = rw i (no passed ((accepted d).fails refl))
