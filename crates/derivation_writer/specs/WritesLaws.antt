-- What is written meets the promise: for each refusal, for a chain that is not derived, and for steps that lead to it.
use Rattle.std.specs.Prelude.{true, false, List, [], ◌∷◌, ◌++◌, ◌≡◌, refl, ℕ, ◌+◌, ◌-◌, ◌*◌, ◌<◌, ◌≤◌, length, get_or, take, drop}
use Rattle.std.proofs.Common.{true≢false, sym, ap, ◌∙◌, subst, arith, le-leb, length-drop, take-append-drop, length-take-le, get_or-drop, ext_get_or}
use Rattle.std.proofs.lemmas.Bool.{lt-leb}
use Rattle.base.specs.Result.{Result, and_then}
use Rattle.base.specs.Result.Result.{ok}
use Rattle.base.specs.ResultLaws.{map_refused, map_ok}
use Rattle.base.specs.Writing.{over}
use Rattle.name_sets.specs.Mask.{has}
use Rattle.roles.specs.Role.{Chain}
use Rattle.roles.specs.Rule.{Book, Rule}
use Rattle.words.specs.Word.{word}
use Rattle.book_header.specs.declared.Header.{Header}
use Rattle.book_decoder.specs.Verdict.{header_of}
use Rattle.refusals.specs.declared.book_query.BookQueryRefusal.{BookQueryRefusal}
use Rattle.refusals.specs.declared.book_query.BookQueryRefusal.TheVariants.{Buffer}
use Rattle.derivation_steps.specs.WrittenSteps.{checked, completed, derivation}
use Rattle.derivation_steps.specs.LeadsLaws.{leads-front, checked-steps}
use Rattle.derivation_steps.specs.RunningLaws.{checked_agree}
use Rattle.derivation_charts.specs.Chart.{starts_of}
use Rattle.book_questions.specs.ShortQuestion.{asked_book}
use Rattle.book_questions.specs.ShortQuestionLaws.{asked}
use Rattle.book_questions.specs.RuleTable.{rule_in}
use Rattle.std.specs.Prelude.{Some, None, Ok, Err}
use Rattle.std.specs.Prelude.{Result as Checked}
use Rattle.book_questions.specs.Admission.{says}
use Rattle.derivation_search.specs.Searched.{Searched, Searches}
use Rattle.derivation_writer.specs.WritesDerivation.{Derivation, lent_enough, writable, Writes}
use Rattle.derivation_writer.specs.WritingStages.{Roomy, SearchedFor, Gives}
use Rattle.derivation_writer.specs.WritesDerivation.Writes.{refuses, no, steps}
use Rattle.derivation_writer.specs.Tracing.{Ready, Traced}

-- what a search finds, for a writer
abbrev pub searched_ready : {ρs : List Rule} {roles : ℕ} {w : Chain} {table chart : List ℕ} → Searched ρs roles w table chart → Ready table w chart
searched_ready {ρs} {roles} q = record { count = length ρs; roles = roles; rules = q.tabled.rules; charted = q.charted }

searched-derivation : {ρs : List Rule} {roles : ℕ} {w : Chain} {table chart : List ℕ} (q : Searched ρs roles w table chart) (r : ℕ) (v : List ℕ)
    → checked (length ρs) (rule_in table) r w v ≡ ok true → derivation ρs r w v ≡ ok true
unfolding derivation
searched-derivation {ρs} {roles} {w} {table} q r v h = sym (checked_agree (length ρs) (rule_in table) (completed ρs) q.tabled.same r w v) ∙ h

-- for a book that is asked
module _ (b : Book) (r : ℕ) (w : Chain) (old : List ℕ) where
  pub gives_buffer : length old < 16384 → Gives b r w old old (Err Buffer)
  gives_buffer h = refuses Buffer (rw (lt-leb 16384 (length old) h) refl)

  module _ (room : 16384 ≤ length old) {table chart : List ℕ} (q : Searched b.rules (2 * b.names) w table chart) where
    lent : lent_enough (length old) b ≡ ok b
    lent = rw (le-leb 16384 (length old) room) refl

    pub gives_none : has (starts_of chart (length w - 0) r) 0 ≡ false → Gives b r w old old (Ok None)
    gives_none h = no b lent (λ d. true≢false (sym (q.complete r d) ∙ h))

    pub gives-steps : {new : List ℕ} {n : ℕ} → Traced (searched_ready q) r old new n → Gives b r w old new (Ok (Some n))
    gives-steps {new} {n} t =
        subst (λ (l : List ℕ). Gives b r w old l (Ok (Some n))) (sym whole) (steps b lent (take (4 * n) new) n front t.few derived)
      where
        front : length (take (4 * n) new) ≡ 4 * n
        front = length-take-le (4 * n) new (omega (arith, t.few, t.size))

        behind : drop (4 * n) new ≡ drop (4 * n) old
        behind =
            ext_get_or 0 (drop (4 * n) new) (drop (4 * n) old) (simp length-drop (omega (arith, t.size)))
            (λ x h. get_or-drop (4 * n) new x 0 ∙ (t.kept (4 * n + x) (omega arith) ∙ sym (get_or-drop (4 * n) old x 0)))

        whole : new ≡ over (take (4 * n) new) old
        whole = sym (take-append-drop (4 * n) new) ∙ ap (λ (l : List ℕ). take (4 * n) new ++ l) (behind ∙ ap (λ (k : ℕ). drop k old) (sym front))

        derived : derivation b.rules r w (take (4 * n) new) ≡ ok true
        derived =
            searched-derivation q r (take (4 * n) new)
            (checked-steps (length b.rules) (rule_in table) r w (take (4 * n) new) n front (leads-front (length b.rules) (rule_in table) new n (r ∷ []) ∙ t.led))

-- room for a book of so few names and rules, by its header, and for every book
pub roomy_few : (names rules : ℕ) (s : List ℕ) {table chart : ℕ} → get_or s 5 0 ≤ names → word s 6 ≤ rules → table ≡ 32 * rules → chart ≡ 582 * names → Roomy s table chart
roomy_few names rules s few_names few-rules t l b d = (omega (arith, d.count), omega (arith, d.names))

pub roomy_large : (s : List ℕ) {table chart : ℕ} → table ≡ 8192 → chart ≡ 37248 → Roomy s table chart
roomy_large s t l b d = (omega (arith, d.count, d.count_most), omega (arith, d.names_most))

-- by what a search finds
writable-from : (s : List ℕ) (r : ℕ) (w : Chain) (lent : ℕ) (x : Result Book) → asked_book s r w ≡ x
    → writable lent s r w ≡ and_then x (lent_enough lent)
unfolding writable
writable-from s r w lent x e = ap (λ (y : Result Book). and_then y (lent_enough lent)) e

module _ {s : List ℕ} {r : ℕ} {w : Chain} {table table' chart chart' : List ℕ} {a : Checked Header BookQueryRefusal} (q : Searches s r w table table' chart chart' a) where
  pub writes-refused : {refusal : BookQueryRefusal} → a ≡ Err refusal → (old : List ℕ)
      → Writes (writable (length old) s r w) r w old old (Err refusal)
  writes-refused {refusal} e old =
      refuses refusal
      (writable-from s r w (length old) _ (map_refused header_of (asked_book s r w) (ap says (sym e) ∙ q.admits.answer)))

  module _ (room : Roomy s (length table) (length chart)) {header : Header} (e : a ≡ Ok header) where
    book : (b : Book) × (asked_book s r w ≡ ok b) × (header ≡ header_of b)
    book = map_ok header_of (asked_book s r w) (ap says (sym e) ∙ q.admits.answer)

    book-searched : SearchedFor book.0 r w table' chart'
    book-searched =
        let a = asked s r w book.0 book.1 in
        let fits = room book.0 a.book in
        record { named = a.question.role_named; searched = q.searched book.0 book.1 fits.0 fits.1 }

    pub some-searched : (b : Book) × SearchedFor b r w table' chart'
    some-searched = (book.0, book-searched)

    pub writes-given : (old : List ℕ) {new : List ℕ} {d : Derivation} → ((b : Book) → SearchedFor b r w table' chart' → Gives b r w old new d)
        → Writes (writable (length old) s r w) r w old new d
    writes-given old {new} {d} g =
        subst (λ (c : Result Book). Writes c r w old new d) (sym (writable-from s r w (length old) _ book.1)) (g book.0 book-searched)
