-- What is found of a question settles what checking gives: the refusal, or what the rules of the table give.
use Rattle.std.specs.Prelude.{Bool, List, ◌≡◌, ℕ, ◌*◌, ◌≤◌, length}
use Rattle.std.proofs.Math.Path.{refl}
use Rattle.std.proofs.Common.{sym, ◌∙◌, arith}
use Rattle.base.specs.Result.{Result}
use Rattle.base.specs.Result.Result.{refused, ok}
use Rattle.base.specs.ResultLaws.{map_refused, map_ok}
use Rattle.roles.specs.Role.{Chain}
use Rattle.roles.specs.Rule.{Book, Rule}
use Rattle.words.specs.Word.{word}
use Rattle.derivation_steps.specs.WrittenSteps.{checked, completed, derivation}
use Rattle.derivation_steps.specs.RunningLaws.{checked_agree}
use Rattle.std.specs.Prelude.{Result as Checked}
use Rattle.refusals.specs.declared.book_query.BookQueryRefusal.{BookQueryRefusal}
use Rattle.book_header.specs.declared.Header.{Header}
use Rattle.book_decoder.specs.Verdict.{header_of}
use Rattle.book_questions.specs.ShortQuestion.{asked_book}
use Rattle.book_questions.specs.ShortQuestionLaws.{asked}
use Rattle.book_questions.specs.RuleTable.{rule_in, Rules, Tabled}
use Rattle.book_questions.specs.Admission.{Admits, says}
use Rattle.derivation_checker.specs.CheckedDerivation.{checked_derivation}
use Rattle.derivation_checker.specs.CheckingRoom.{Roomy}

-- a table of the rules gives what the rules give
tabled-checked : (ρs : List Rule) (roles : ℕ) (table : List ℕ) → Tabled ρs roles table → (r : ℕ) (w : Chain) (steps : List ℕ)
    → checked (length ρs) (rule_in table) r w steps ≡ derivation ρs r w steps
unfolding derivation
tabled-checked ρs roles table tabled r w steps = checked_agree (length ρs) (rule_in table) (completed ρs) tabled.same r w steps

-- room for a book of few rules, by its header, and for every book
pub roomy_few : (s : List ℕ) (r : ℕ) (w : Chain) {size : ℕ} → word s 6 ≤ 16 → size ≡ 512 → Roomy s r w size
roomy_few s r w few enough b e = omega (arith, (asked s r w b e).book.count)

pub roomy_all : (s : List ℕ) (r : ℕ) (w : Chain) {size : ℕ} → size ≡ 8192 → Roomy s r w size
roomy_all s r w enough b e = let d = (asked s r w b e).book in omega (arith, d.count, d.count_most)

module _ {s : List ℕ} {r : ℕ} {w : Chain} {table table' : List ℕ} {a : Checked Header BookQueryRefusal} (h : Admits s r w table table' a) where
  pub checked_refused : {cause value : ℕ} → says a ≡ refused cause value → (steps : List ℕ) → refused cause value ≡ checked_derivation s r w steps
  unfolding checked_derivation
  checked_refused e steps = rw (map_refused header_of (asked_book s r w) (sym e ∙ h.answer)) refl

  module _ {header : Header} (e : says a ≡ ok header) (roomy : Roomy s r w (length table)) where
    -- the book that is asked
    book : (b : Book) × (asked_book s r w ≡ ok b) × (header ≡ header_of b)
    book = map_ok header_of (asked_book s r w) (sym e ∙ h.answer)

    tabled : Tabled book.0.rules (2 * book.0.names) table'
    tabled = (h.filled book.0 book.1 (roomy book.0 book.1)).tabled

    pub rules-tabled : Rules table' header.rules (2 * header.names)
    rules-tabled = rw book.2 tabled.rules

    pub checked-tabled : (steps : List ℕ) {q : Result Bool} → q ≡ checked header.rules (rule_in table') r w steps → q ≡ checked_derivation s r w steps
    unfolding checked_derivation
    checked-tabled steps d = d ∙ rw (book.2, book.1) (tabled-checked book.0.rules (2 * book.0.names) table' tabled r w steps)
