-- From what a build promises, what the tables answer and what a refused question leaves to demand 3.
use Rattle.std.specs.Prelude.{Bool, Ok, Err, List, ◌≡◌, refl, ℕ, ◌*◌, length, get_or, take}
use Rattle.std.specs.Prelude.{Result as Checked}
use Rattle.std.proofs.Common.{sym, ap, ◌∙◌, subst}
use Rattle.byte_parts.specs.Least.{Least, least_test}
use Rattle.roles.specs.Role.{Chain}
use Rattle.roles.specs.Rule.{Book}
use Rattle.base.specs.Result.{Result, and_then}
use Rattle.base.specs.Result.Result.{refused, ok}
use Rattle.book_causes.specs.Accepted.{heads_of, moves_of, built, written}
use Rattle.book_causes.specs.AcceptedLaws.{built_enough, building}
use Rattle.query_causes.specs.Query.{question, Answered}
use Rattle.query_correctness.specs.Reply.Replied.{refuses, settled}
use Rattle.query_correctness.specs.ReplyLaws.{decided, posed-fits, posed-refused, replied-refused}
use Rattle.refusals.specs.declared.build.BuildRefusal.{BuildRefusal}
use Rattle.refusals.specs.BuildRefusals.{build_cause, build_value}
use Rattle.refusals.specs.declared.query.QueryRefusal.{QueryRefusal}
use Rattle.refusals.specs.QueryRefusals.{query_cause}
use Rattle.query_checker.specs.QueryVerdict.{says as found-says}
use Rattle.query_parts.specs.Answer.{says as answer-says}
use Rattle.table_limits.specs.declared.Counts.{Counts}
use Rattle.table_builder.specs.Builds.{Builds}
use Rattle.table_builder.specs.WrittenLaws.{own, written-heads, written-moves, refused-by}
use Rattle.query_deriver.specs.declared.refusal.DerivedRefusal.TheVariants.{Question, Book as Refused-book}
use Rattle.query_deriver.specs.Replies.{Reply, says, Replies}

-- what the tables answer, as a reply
pub replied_as : (h m : List ℕ) (r : ℕ) (w : Chain) {a v : Checked Bool QueryRefusal} → Answered h m r w (answer-says a) → a ≡ v → (x : Reply)
    → answer-says v ≡ says x → Answered h m r w (says x)
replied_as h m r w t e x f = subst (Answered h m r w) (ap answer-says e ∙ f) t

-- what is found of a question for the names that a book says it has
pub found : (s : List ℕ) (n r : ℕ) (w : Chain) → n ≡ get_or s 5 0 → (x y : Checked (Unit {0}) QueryRefusal) → found-says x ≡ question n r w → x ≡ y
    → question (get_or s 5 0) r w ≡ found-says y
found s n r w e x y h f = sym (ap (λ (k : ℕ). question k r w) e) ∙ sym h ∙ ap found-says f

-- a question that is refused writes nothing
kept : (t : Result Book) (c v : ℕ) (table : Book → List ℕ) (old : List ℕ) → written (and_then t (λ _. refused c v)) table old ≡ old
kept (refused d u) c v table old = refl
kept (ok b) c v table old = refl

pub replies_kept : (s h m : List ℕ) (r : ℕ) (w : Chain) (c v : ℕ) → question (get_or s 5 0) r w ≡ refused c v → (a : Reply)
    → says a ≡ and_then (built s (length h) (length m)) (λ _. refused c v) → Replies s h m r w h m a
replies_kept s h m r w c v q a e =
    let p = posed-refused s (length h) (length m) r w c v q in
    record {
      answer = rw e (replied-refused s (length h) (length m) r w c v q);
      heads = rw p (sym (kept (built s (length h) (length m)) c v heads_of h));
      moves = rw p (sym (kept (built s (length h) (length m)) c v moves_of m));
    }

-- a build on other tables says what one on those lent does, if both have as many numbers as any book needs, or the same
same-built : (s h m : List ℕ) {heads moves a b : ℕ} → length h ≡ a → length m ≡ b → Least heads 64 a → Least moves 15360 b
    → built s (length h) (length m) ≡ built s heads moves
same-built s h m {heads} {moves} {a} {b} i j f g = rw (i, j) (built_enough a b heads moves (least_test f) (least_test g) s)

module _ {s h m h' m' : List ℕ} where
  module _ {heads moves a b : ℕ} (i : length h ≡ a) (j : length m ≡ b) (f : Least heads 64 a) (g : Least moves 15360 b) (x : QueryRefusal) where
    pub says-book : {y : BuildRefusal} → Builds s h m h' m' (Err y)
        → says (Err (Refused-book y)) ≡ and_then (built s heads moves) (λ _. refused (query_cause x) 0)
    says-book p = rw (sym (same-built s h m i j f g) ∙ refused-by p) refl

    pub says-question : {c : Counts} → Builds s h m h' m' (Ok c)
        → says (Err (Question x)) ≡ and_then (built s heads moves) (λ _. refused (query_cause x) 0)
    says-question p = rw (sym (same-built s h m i j f g) ∙ (own p).accepts) refl

  module _ {r : ℕ} {w : Chain} (q : question (get_or s 5 0) r w ≡ ok tt) where
    pub replies_settled : {c : Counts} → Builds s h m h' m' (Ok c)
        → (a : Reply) → Answered (take c.names h') (take (3 * c.transitions) m') r w (says a) → Replies s h m r w h' m' a
    replies_settled p a t =
        let book = own p in
        let heads = written-heads p in
        let moves = written-moves p in
        let tables : Answered (heads_of book.book) (moves_of book.book) r w (says a) = rw (heads, moves) at t in
        record {
          answer = settled book.book book.book (says a) (building s (length h) (length m) book.book book.accepts) (decided s (length h) (length m) book.book book.accepts r w (says a) tables);
          heads = rw (posed-fits s (length h) (length m) r w q) p.heads;
          moves = rw (posed-fits s (length h) (length m) r w q) p.moves;
        }

    pub replies_refused : {x : BuildRefusal} → Builds s h m h' m' (Err x) → Replies s h m r w h' m' (Err (Refused-book x))
    replies_refused {x} p =
        record {
          answer = refuses (build_cause x) (build_value x) (refused-by p);
          heads = rw (posed-fits s (length h) (length m) r w q) p.heads;
          moves = rw (posed-fits s (length h) (length m) r w q) p.moves;
        }
