-- Questions put to the tables of an accepted book by trails are answered by what binds.
use Rattle.std.specs.Prelude.{Bool, List, ◌↔◌, ◌≡◌, refl, ℕ, zero, suc}
use Rattle.std.proofs.Common.{sym, ap, ◌∙◌, arith}
use Rattle.roles.specs.Role.{Chain}
use Rattle.roles.specs.Rule.{Book}
use Rattle.base.specs.Decision.Decision.{refuses, yes, no}
use Rattle.base.specs.Result.{Result, and_then}
use Rattle.base.specs.Result.Result.{refused, ok}
use Rattle.base.specs.ResultLaws.{refused-ok}
use Rattle.networks.specs.Network.{Binds}
use Rattle.table_trails.specs.TableTrails.{TablesBind}
use Rattle.book_causes.specs.Accepted.{heads_of, moves_of, built}
use Rattle.query_causes.specs.Query.{transitions_in, question, short_chain, short_question}
use Rattle.query_correctness.specs.BookAnswers.{query-question, trails_bind_book}
use Rattle.query_correctness.specs.ReplyLaws.{own-roles}
use Rattle.query_correctness.specs.TrailQuery.{short_query, AnsweredByTrails}
use Rattle.query_correctness.specs.BindingReply.{DecidedByBinding}

-- a question that no cause refuses is passed by causes 13 and 14
short-passed : (n r : ℕ) (w : Chain) → short_question n r w (tt {0}) ≡ ok tt → question n r w ≡ ok tt
short-passed n r w = by_result (question n r w)
  where
    by_result : (x : Result (Unit {0})) → and_then x (λ _. short_chain w (tt {0})) ≡ ok tt → x ≡ ok tt
    by_result (refused c v) h = absurd (refused-ok c v tt h)
    by_result (ok tt) h = refl

module _ (s : List ℕ) (heads moves : ℕ) (b : Book) (e : built s heads moves ≡ ok b) where
  module _ (r : ℕ) (w : Chain) where
    -- causes 12 to 15 for the tables are causes 13 to 15 for the book
    pub short : {x : Result (Unit {0})} → short_query (heads_of b) (moves_of b) r w ≡ x → short_question b.names r w tt ≡ x
    short h = ap (λ (x : Result (Unit {0})). and_then x (λ _. short_chain w tt)) (sym (query-question s heads moves b e r w)) ∙ h

    bind : short_question b.names r w (tt {0}) ≡ ok tt → TablesBind (heads_of b) (transitions_in (moves_of b)) r w ↔ Binds b.rules r w
    bind h =
        let own = own-roles b.names r w (short-passed b.names r w h) in
        trails_bind_book s heads moves b e r w (own zero (omega arith)) (λ i l. own (suc i) (omega (arith, l)))

  -- what tables answer by trails, binding decides
  pub decided_by-binding : (r : ℕ) (w : Chain) (a : Result Bool) → AnsweredByTrails (heads_of b) (moves_of b) r w a → DecidedByBinding b r w a
  decided_by-binding r w _ (refuses c v h) = refuses c v (short r w h)
  decided_by-binding r w _ (yes h t) = yes (short r w h) ((bind r w (short r w h)).0 t)
  decided_by-binding r w _ (no h none) = no (short r w h) (λ t. none ((bind r w (short r w h)).1 t))
