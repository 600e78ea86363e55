-- What a question that is not refused says of its book, its role and its chain.
use Rattle.std.specs.Prelude.{Bool, true, false, List, ◌∷◌, ◌≡◌, refl, ℕ, suc, ◌*◌, ◌<◌, ◌≤◌, leb, length, get_or}
use Rattle.std.proofs.Common.{ap, ◌∙◌, subst, arith, leb-true}
use Rattle.base.specs.Result.{Result, demand, and_then}
use Rattle.base.specs.Result.Result.{refused, ok}
use Rattle.base.specs.ResultLaws.{refused-ok, ok_injective, demand_test, demand-rest}
use Rattle.roles.specs.Role.{Chain}
use Rattle.roles.specs.Rule.{Book}
use Rattle.book_format.specs.Format.{named}
use Rattle.book_format.specs.DeclaredLaws.{named-link}
use Rattle.book_format.specs.DecodeLaws.{Decoded, decoded}
use Rattle.book_format.specs.ReadLaws.{read-decode}
use Rattle.book_causes.specs.Ordered.{ordered}
use Rattle.book_causes.specs.OrderedRun.{ordered-read}
use Rattle.query_causes.specs.Query.{chain_fits, short_question}
use Rattle.book_questions.specs.ShortQuestion.{asked_book}

-- what causes 13 to 15 settle
pub record Short (names r : ℕ) (w : Chain) : Type 0 where
  pub links : length w ≤ 16
  pub role_named : r < 2 * names
  pub link_named : (k : ℕ) → k < length w → get_or w k 0 < 2 * names

module _ (b : Book) (r : ℕ) (w : Chain) (d : Book) where
  short : short_question b.names r w b ≡ ok d → (b ≡ d) × Short b.names r w
  short h = by_chain (chain_fits w) h
    where
      by_names : (t : Bool) → named b.names (r ∷ w) ≡ t
          → and_then (demand t 14 0 (ok (tt {0}))) (λ _. demand (leb (length w) 16) 15 0 (ok b)) ≡ ok d → (b ≡ d) × Short b.names r w
      by_names false e q = absurd (refused-ok 14 0 d q)
      by_names true e q = (
        ok_injective b d (demand-rest (leb (length w) 16) 15 0 (ok b) d q),
        record {
          links = leb-true (length w) 16 (demand_test (leb (length w) 16) 15 0 (ok b) d q);
          role_named = named-link b.names (r ∷ w) e 0 (omega arith);
          link_named = λ k l. named-link b.names (r ∷ w) e (suc k) (omega arith);
        },
      )

      by_chain : (t : Bool)
          → and_then (demand t 13 0 (demand (named b.names (r ∷ w)) 14 0 (ok (tt {0})))) (λ _. demand (leb (length w) 16) 15 0 (ok b)) ≡ ok d
          → (b ≡ d) × Short b.names r w
      by_chain false q = absurd (refused-ok 13 0 d q)
      by_chain true q = by_names (named b.names (r ∷ w)) refl q

-- the bytes decode to the book that is asked, and the question is a short one over its names
pub record Asked (s : List ℕ) (r : ℕ) (w : Chain) (b : Book) : Type 0 where
  pub book : Decoded s b
  pub question : Short b.names r w

pub asked : (s : List ℕ) (r : ℕ) (w : Chain) (b : Book) → asked_book s r w ≡ ok b → Asked s r w b
unfolding asked_book
asked s r w b h = by_result (ordered s) refl h
  where
    by_result : (x : Result Book) → ordered s ≡ x → and_then x (λ d. short_question d.names r w d) ≡ ok b → Asked s r w b
    by_result (refused c v) e q = absurd (refused-ok c v b q)
    by_result (ok d) e q =
        let f = short d r w b q in
        record {
          book = decoded s b (read-decode s b (ordered-read s b (e ∙ ap ok f.0)));
          question = subst (λ (c : Book). Short c.names r w) f.0 f.1;
        }
