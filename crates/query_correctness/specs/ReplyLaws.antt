-- Questions put to the tables of an accepted book are answered as demand 3 says, and can be judged before these are built.
use Rattle.std.specs.Prelude.{Bool, List, ◌∷◌, ◌≡◌, refl, ℕ, zero, ◌*◌, ◌<◌, length, get_or}
use Rattle.std.proofs.Common.{sym, ap, ◌∙◌, arith}
use Rattle.roles.specs.Role.{Chain}
use Rattle.roles.specs.Rule.{Book}
use Rattle.base.specs.Result.{Result, and_then}
use Rattle.base.specs.Result.Result.{refused, ok}
use Rattle.base.specs.ResultLaws.{demand_test, demand-rest}
use Rattle.book_format.specs.Format.{named}
use Rattle.book_format.specs.DeclaredLaws.{named-link}
use Rattle.book_format.specs.DecodeLaws.{decoded}
use Rattle.book_format.specs.ReadLaws.{read-decode}
use Rattle.book_causes.specs.OrderedRun.{ordered-read}
use Rattle.book_causes.specs.Accepted.{heads_of, moves_of, built}
use Rattle.book_causes.specs.AcceptedLaws.{accepted-passed, built-accepted, building}
use Rattle.query_causes.specs.Query.{chain_fits, question, Answered}
use Rattle.query_correctness.specs.BookAnswers.{query-question, accepts-derives}
use Rattle.query_correctness.specs.Reply.{Decided, Replied, posed}
use Rattle.base.specs.Decision.Decision.{refuses, yes, no}
use Rattle.query_correctness.specs.Reply.Replied.{refuses as refused-by-book, settled}

-- a question that passes has its role and its links over the names
pub own-roles : (n r : ℕ) (w : Chain) → question n r w ≡ ok tt → (k : ℕ) → k < length (r ∷ w) → get_or (r ∷ w) k 0 < 2 * n
own-roles n r w h = named-link n (r ∷ w) (demand_test (named n (r ∷ w)) 14 0 _ tt (demand-rest (chain_fits w) 13 0 _ tt h))

own-role : (n r : ℕ) (w : Chain) → question n r w ≡ ok tt → r < 2 * n
own-role n r w h = own-roles n r w h zero (omega arith)

module _ (s : List ℕ) (heads moves : ℕ) (b : Book) (e : built s heads moves ≡ ok b) where
  -- what tables answer, derivation decides
  pub decided : (r : ℕ) (w : Chain) (a : Result Bool) → Answered (heads_of b) (moves_of b) r w a → Decided b r w a
  decided r w _ (refuses c v h) = refuses c v (sym (query-question s heads moves b e r w) ∙ h)
  decided r w _ (yes h path) =
      let q = sym (query-question s heads moves b e r w) ∙ h in
      yes q ((accepts-derives s heads moves b e r (own-role b.names r w q) w).0 path)
  decided r w _ (no h none) =
      let q = sym (query-question s heads moves b e r w) ∙ h in
      no q (λ d. none ((accepts-derives s heads moves b e r (own-role b.names r w q) w).1 d))

module _ (s : List ℕ) (heads moves : ℕ) where
  -- a built book has the names that its sixth byte says
  pub built-names : (b : Book) → built s heads moves ≡ ok b → b.names ≡ get_or s 5 0
  built-names b e = (decoded s b (read-decode s b (ordered-read s b (accepted-passed s b (built-accepted s heads moves b e)).ordered))).names

  module _ (r : ℕ) (w : Chain) where
    own-question : (b : Book) → built s heads moves ≡ ok b → question b.names r w ≡ question (get_or s 5 0) r w
    own-question b e = ap (λ (n : ℕ). question n r w) (built-names b e)

    -- a question that the byte accepts is put to the book that is built
    pub posed-fits : question (get_or s 5 0) r w ≡ ok tt → posed s heads moves r w ≡ built s heads moves
    posed-fits h = by_result (built s heads moves) refl
      where
        by_result : (t : Result Book) → built s heads moves ≡ t
            → and_then t (λ b. and_then (question b.names r w) (λ _. ok b)) ≡ t
        by_result (refused c v) e = refl
        by_result (ok b) e = rw (own-question b e ∙ h) refl

    -- one that it refuses is refused, after the book
    module _ (c v : ℕ) (h : question (get_or s 5 0) r w ≡ refused c v) where
      pub posed-refused : posed s heads moves r w ≡ and_then (built s heads moves) (λ _. refused c v)
      posed-refused = by_result (built s heads moves) refl
        where
          by_result : (t : Result Book) → built s heads moves ≡ t
              → and_then t (λ b. and_then (question b.names r w) (λ _. ok b)) ≡ and_then t (λ _. refused c v)
          by_result (refused d u) e = refl
          by_result (ok b) e = rw (own-question b e ∙ h) refl

      pub replied-refused : Replied s heads moves r w (and_then (built s heads moves) (λ _. refused c v))
      replied-refused = by_result (built s heads moves) refl
        where
          by_result : (t : Result Book) → built s heads moves ≡ t → Replied s heads moves r w (and_then t (λ _. refused c v))
          by_result (refused d u) e = refused-by-book d u e
          by_result (ok b) e = settled b b (refused c v) (building s heads moves b e) (refuses c v (own-question b e ∙ h))
