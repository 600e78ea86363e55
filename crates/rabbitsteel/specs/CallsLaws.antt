-- From what the engine's calls answer to what is told of it.
use Rattle.std.specs.Prelude.{Result as Answer}
use Rattle.std.specs.Prelude.{Some, None, Ok, Err, Bool, true, false, List, ◌≡◌, refl, ℕ, length, take, replicate}
use Rattle.std.proofs.Common.{sym, ap, ap₂, ◌∙◌, subst}
use Rattle.std.proofs.Math.Seq.{take-nil}
use Rattle.roles.specs.Role.{Chain}
use Rattle.roles.specs.Rule.{Book}
use Rattle.base.specs.Result.{Result, map_result}
use Rattle.base.specs.Result.Result.{refused, ok}
use Rattle.base.specs.ResultLaws.{map_refused, map_ok}
use Rattle.base.specs.Writing.{over}
use Rattle.base.specs.WritingLaws.{over-front}
use Rattle.byte_parts.specs.Bytes.{copied}
use Rattle.order.specs.DepthLaws.{levels-length}
use Rattle.refusals.specs.declared.book.BookRefusal.{BookRefusal}
use Rattle.refusals.specs.declared.build.BuildRefusal.{BuildRefusal}
use Rattle.refusals.specs.declared.query.QueryRefusal.{QueryRefusal}
use Rattle.refusals.specs.Said.{said}
use Rattle.refusals.specs.BookRefusals.{book_cause, book_value}
use Rattle.book_header.specs.declared.Header.{Header}
use Rattle.book_decoder.specs.Verdict.{header_of}
use Rattle.book_causes.specs.Ordered.{ordered}
use Rattle.book_causes.specs.Accepted.{levels_of, depth_of, count_or_none, built, written}
use Rattle.order_checker.specs.declared.Ordering.{Ordering}
use Rattle.order_checker.specs.Gather.{header_said, levels_in, depth_in, Ordered}
use Rattle.query_causes.specs.Query.{Answered}
use Rattle.query_parts.specs.Answer as answers
use Rattle.table_builder.specs.Builds as builder
use Rattle.table_limits.specs.declared.Counts.{Counts}
use Rattle.query_deriver.specs.Replies.{Reply}
use Rattle.query_deriver.specs.Replies as replies
use Rattle.book_questions.specs.Admission.{BookAnswer, answers}
use Rattle.derivation_writer.specs.WritesDerivation.{Derivation, writable, Writes}
use Rattle.network_writer.specs.WritesNetwork.{bindable, Answers}
use Rattle.call_numbers.specs.Tells.{Numbers, Tells, header_counts, ordering_counts, built_counts, bit, derivation_numbers}
use Rattle.rabbitsteel.specs.Calls.{book_counts, order_counts, TellsOrder, TellsBuild, TellsAnswer, TellsDerived, TellsDerivation, TellsBinding}

-- what is told of an answer is told of the definition that it equals
pub told_of : {A B : Type 0} (f : A → B) (g : B → Numbers) (x : Result A) {v : Result B} {cause one two three : ℕ} → v ≡ map_result f x
    → Tells (map_result g v) cause one two three → Tells (map_result (λ a. g (f a)) x) cause one two three
told_of f g (refused c w) e t = rw e at t
told_of f g (ok a) e t = rw e at t

-- the counts of a book are two numbers
pub two-told : (x : Result Book) {cause one two three : ℕ} → Tells (map_result book_counts x) cause one two three
    → Tells (map_result book_counts x) cause one two 0
two-told (refused c v) t = record { cause_is = t.cause_is; first_is = t.first_is; second_is = t.second_is; third_is = refl }
two-told (ok b) t = record { cause_is = t.cause_is; first_is = t.first_is; second_is = t.second_is; third_is = refl }

-- what the order check's answer tells, and its levels, as many as the book has names
module _ {s : List ℕ} {l l' : List ℕ} where
  pub tells-order : (o : Answer Ordering BookRefusal) → Ordered s o → (found : Ordering) → o ≡ Ok found → l' ≡ copied found.levels found.header.names l
      → {cause one two three : ℕ} → Tells (map_result ordering_counts (said book_cause book_value o)) cause one two three → TellsOrder s l l' cause one two three
  tells-order o p found e levels {cause} {one} {two} {three} t =
      let b : (b : Book) × (ordered s ≡ ok b) × (found.header ≡ header_of b) = map_ok header_of (ordered s) (ap header_said (sym e) ∙ p.verdict) in
      let n : found.header.names ≡ b.0.names = ap (λ (x : Header). x.names) b.2 in
      let d : found.depth ≡ depth_of b.0 = ap depth_in (sym e) ∙ p.depth ∙ ap (count_or_none depth_of) b.1 in
      let k : found.levels ≡ over (levels_of b.0) (replicate 64 0) = ap levels_in (sym e) ∙ p.levels ∙ ap (λ (t : Result Book). written t levels_of (replicate 64 0)) b.1 in
      let f : take found.header.names found.levels ≡ levels_of b.0
      = ap (take found.header.names) k ∙ over-front found.header.names (levels_of b.0) (replicate 64 0) (n ∙ sym (levels-length b.0.rules b.0.names b.0.names 0)) in
      let told : map_result ordering_counts (said book_cause book_value o) ≡ map_result order_counts (ordered s)
      = ap (λ (x : Answer Ordering BookRefusal). map_result ordering_counts (said book_cause book_value x)) e
      ∙ ap₂ (λ (depth : ℕ) (h : Header). ok (header_counts depth h)) d b.2
      ∙ sym (ap (map_result order_counts) b.1) in
      record {
        tells = subst (λ (x : Result Numbers). Tells x cause one two three) told t;
        levels = rw b.1 (levels ∙ ap (λ (r : List ℕ). over (take (length l) r) l) f);
      }

  pub tells-no_order : (o : Answer Ordering BookRefusal) → Ordered s o → ((found : Ordering) → o ≡ Ok found → ⊥) → l' ≡ l
      → {cause one two three : ℕ} → Tells (map_result ordering_counts (said book_cause book_value o)) cause one two three → TellsOrder s l l' cause one two three
  tells-no_order (Ok found) p none same t = absurd (none found refl)
  tells-no_order (Err refusal) p none same t =
      let q : ordered s ≡ refused (book_cause refusal) (book_value refusal) = map_refused header_of (ordered s) p.verdict in
      record { tells = rw q t; levels = rw q same }

-- an answer tells one number
one_told : (x : Result Bool) {cause one two three : ℕ} → Tells (map_result bit x) cause one two three → Tells (map_result bit x) cause one 0 0
one_told (refused c v) t = record { cause_is = t.cause_is; first_is = t.first_is; second_is = refl; third_is = refl }
one_told (ok true) t = record { cause_is = t.cause_is; first_is = t.first_is; second_is = refl; third_is = refl }
one_told (ok false) t = record { cause_is = t.cause_is; first_is = t.first_is; second_is = refl; third_is = refl }

module _ {s h m h' m' : List ℕ} where
  pub tells-build : {o : Answer Counts BuildRefusal} {cause one two three : ℕ} → builder.Builds s h m h' m' o
      → Tells (map_result built_counts (builder.says o)) cause one two three → TellsBuild s h m h' m' cause one two three
  tells-build b t =
      record {
        tells = told_of builder.counts_of built_counts (built s (length h) (length m)) b.answer t;
        heads = b.heads;
        moves = b.moves;
      }

  pub tells-derived : {r : ℕ} {w : Chain} {a : Reply} {cause one two three : ℕ} → replies.Replies s h m r w h' m' a
      → Tells (map_result bit (replies.says a)) cause one two three → TellsDerived s h m r w h' m' cause one
  tells-derived {a = a} q t =
      record {
        said = replies.says a;
        replied = q.answer;
        tells = one_told (replies.says a) t;
        heads = q.heads;
        moves = q.moves;
      }

pub tells-answer : {h m : List ℕ} {r : ℕ} {w : Chain} (a : Answer Bool QueryRefusal) {cause one two three : ℕ} → Answered h m r w (answers.says a)
    → Tells (map_result bit (answers.says a)) cause one two three → TellsAnswer h m r w cause one
tells-answer a q t = record { said = answers.says a; answered = q; tells = one_told (answers.says a) t }

-- a derivation tells two numbers
two-derived : (d : Derivation) {cause one two three : ℕ} → Tells (derivation_numbers d) cause one two three → Tells (derivation_numbers d) cause one two 0
two-derived (Ok (Some n)) t = record { cause_is = t.cause_is; first_is = t.first_is; second_is = t.second_is; third_is = refl }
two-derived (Ok None) t = record { cause_is = t.cause_is; first_is = t.first_is; second_is = t.second_is; third_is = refl }
two-derived (Err x) t = record { cause_is = t.cause_is; first_is = t.first_is; second_is = t.second_is; third_is = refl }

pub tells-derivation : {s : List ℕ} {r : ℕ} {w : Chain} {old new : List ℕ} {d : Derivation} {cause one two three : ℕ}
    → Writes (writable (length old) s r w) r w old new d → Tells (derivation_numbers d) cause one two three
    → TellsDerivation s r w old new cause one two
tells-derivation {d = d} q t = record { said = d; writes = q; tells = two-derived d t }

pub tells-checked : (a : BookAnswer) {x : Result Bool} {cause one two three : ℕ} → answers a ≡ x → Tells (map_result bit (answers a)) cause one two three
    → Tells (map_result bit x) cause one 0 0
tells-checked a {x} e t = one_told x (rw e at t)

pub tells-binding : {s : List ℕ} {r : ℕ} {w : Chain} {old new : List ℕ} (a : BookAnswer) {cause one two three : ℕ}
    → Answers (bindable (length old) s r w) r w old new a → Tells (map_result bit (answers a)) cause one two three
    → TellsBinding s r w old new cause one
tells-binding a q t = record { said = a; binding = q; tells = one_told (answers a) t }
