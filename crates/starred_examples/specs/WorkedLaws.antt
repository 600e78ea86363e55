-- Document 01's starred examples hold: one test, computed over the whole table, and one law that turns a passed test into what is stated.
use Rattle.std.specs.Prelude.{Bool, true, ◌&&◌, List, [], ◌++◌, ◌≡◌, refl, ℕ, suc, length}
use Rattle.std.proofs.Math.Bool.{decide}
use Rattle.std.proofs.Common.{subst}
use Rattle.base.specs.Truth.{and_left, and_right}
use Rattle.roles.specs.Role.{name, polarity, inv, inv_chain, same_chain}
use Rattle.roles.specs.RoleLaws.{same_chain-sound}
use Rattle.roles.specs.Rule.{Book, inverse, same_rule}
use Rattle.networks.specs.LaidChain.{laid_from}
use Rattle.order.specs.Closure.{reaches, with_inner}
use Rattle.order.specs.Shape.{leads, trails, shape}
use Rattle.order.specs.Depth.{inner_roles, highest, level_of, levels_from}
use Rattle.tables.specs.Tables.{rules_of, has_symmetric, has_transitive, shapes, row_size, rows_size, row_transitions, rows_transitions, letters, back, size_of, transitions_of, roots_from, transitions_from, states_from, numbers}
use Rattle.table_trails.specs.TableTrails.{begin, end}
use Rattle.base.specs.Result.{Result, map_result}
use Rattle.base.specs.Result.Result.{refused, ok}
use Rattle.book_format.specs.Format.{front, named, one_rule, rules_from, decode, repeats, distinct, read}
use Rattle.book_causes.specs.Ordered.{order_from, ordered}
use Rattle.book_causes.specs.Accepted.{depth_of, summary, heads_of, moves_of, fitting, built, written}
use Rattle.query_causes.specs.Query.{transitions_in, heads_fit, transitions_fit, tables_fit, query, asked}
use Rattle.book_causes.specs.AcceptedLaws.{building}
use Rattle.query_correctness.specs.Reply.{Replied}
use Rattle.query_correctness.specs.Reply.Replied.{refuses, settled}
use Rattle.query_correctness.specs.ReplyLaws.{decided}
use Rattle.query_correctness.specs.BindingReply.{DecidedByBinding}
use Rattle.transcript_lines.specs.Lines.{decimal_from, decimal, first_line}
use Rattle.transcript_lines.specs.Transcript.{next, Session}
use Rattle.transcript_lines.specs.Transcript.Session.{refuses as stopped, served}
use Rattle.base.specs.Every.{Every}
use Rattle.starred_examples.specs.Worked.{Question, Example, build, examples, Holds}
use Rattle.starred_examples.specs.Checks.{all, all_every, among_by, same_pair, same_triple, same_triple-sound, same_result, same_result-sound, same_answer, same_answer-sound}
use Rattle.starred_examples.specs.PathSearch.{predecessors, closure, closed, starts, exhaustive, found, answers}
use Rattle.starred_examples.specs.PathSearchLaws.{answers-answered}
use Rattle.starred_examples.specs.TrailSearch.{both_ways, add, at_places, sources, sources_by, sources_of, with_sources, reaching, hop_closed, apart, no_hops, answer, shown, sure}
use Rattle.starred_examples.specs.TrailSearchLaws.{sure_decided}
use Rattle.starred_examples.specs.SearchLines.{front_lines, lines, front_searched, searched}
use Rattle.starred_examples.specs.SearchLinesLaws.{lines-transcript}

-- a question has its answer, where a build gave a book or a refusal
replies : Result Book → Question → Bool
replies (refused c v) q = same_answer (refused c v) q.answer
replies (ok b) q = answers (heads_of b) (moves_of b) q.role q.chain q.answer

replies_replied : (s : List ℕ) (q : Question) → replies (built s 64 15360) q ≡ true → Replied s 64 15360 q.role q.chain q.answer
unfolding replies
replies_replied s q = by_result (built s 64 15360) refl
  where
    by_result : (r : Result Book) → built s 64 15360 ≡ r → replies r q ≡ true → Replied s 64 15360 q.role q.chain q.answer
    by_result (refused c v) e h =
        subst (Replied s 64 15360 q.role q.chain) (same_answer-sound (refused c v) q.answer h) (refuses c v e)
    by_result (ok b) e h =
        settled b b q.answer (building s 64 15360 b e)
        (decided s 64 15360 b e q.role q.chain q.answer
        (answers-answered (heads_of b) (moves_of b) q.role q.chain q.answer h))

-- the lines computed for an input are these, where a build gave a book or a refusal; one byte more than the input has is fuel enough
writes : Result Book → (input transcript : List ℕ) → Bool
writes (refused c v) q out = same_chain (first_line (refused c v)) out
writes (ok b) q out =
    searched (heads_of b) (moves_of b) (suc (length q)) q
    && same_chain (first_line (ok (summary b)) ++ lines (heads_of b) (moves_of b) (suc (length q)) 0 q) out

writes-session : (s q out : List ℕ) → writes (built s 64 15360) q out ≡ true → Session s q out
unfolding writes
writes-session s q out = by_result (built s 64 15360) refl
  where
    by_result : (r : Result Book) → built s 64 15360 ≡ r → writes r q out ≡ true → Session s q out
    by_result (refused c v) e h = subst (Session s q) (same_chain-sound (first_line (refused c v)) out h) (stopped c v e)
    by_result (ok b) e h =
        let fuel : ℕ = suc (length q) in
        let made : List ℕ = lines (heads_of b) (moves_of b) fuel 0 q in
        let all-sure : Bool = searched (heads_of b) (moves_of b) fuel q in
        let same : Bool = same_chain (first_line (ok (summary b)) ++ made) out in
        subst (Session s q) (same_chain-sound (first_line (ok (summary b)) ++ made) out (and_right all-sure same h))
        (served b b made (building s 64 15360 b e)
        (lines-transcript (heads_of b) (moves_of b) (DecidedByBinding b) (sure_decided s 64 15360 b e) fuel 0 q (and_left all-sure same h)))

-- the test of an example
test : Example → Bool
test e =
    same_result same_triple (map_result summary (build e)) e.first
    && same_chain (written (build e) heads_of []) e.heads
    && all (replies (build e)) e.questions
    && writes (build e) e.input e.transcript

-- the law: an example that passes holds
test_holds : (e : Example) → test e ≡ true → Holds e
unfolding test
test_holds e h =
    let first : Bool = same_result same_triple (map_result summary (build e)) e.first in
    let heads : Bool = same_chain (written (build e) heads_of []) e.heads in
    let questions : Bool = all (replies (build e)) e.questions in
    let session : Bool = writes (build e) e.input e.transcript in
    let three : (first && heads && questions) ≡ true = and_left (first && heads && questions) session h in
    let two : (first && heads) ≡ true = and_left (first && heads) questions three in
    record {
      first = same_result-sound same_triple same_triple-sound (map_result summary (build e)) e.first (and_left first heads two);
      heads = same_chain-sound (written (build e) heads_of []) e.heads (and_right first heads two);
      questions = all_every (replies (build e)) _ (replies_replied e.book) e.questions (and_right (first && heads) questions three);
      session = writes-session e.book e.input e.transcript (and_right (first && heads && questions) session h);
    }

-- every example passes, by evaluation of the definitions from a book's bytes to its tables, of the searches in these and of the lines
test_passed : all test examples ≡ true
unfolding test replies writes examples all among_by same_pair same_triple same_result decide predecessors closure closed starts exhaustive found answers
    both_ways add at_places sources sources_by sources_of with_sources reaching hop_closed apart no_hops answer shown sure laid_from begin end
    lines front_lines searched front_searched next decimal decimal_from
    built fitting ordered order_from read decode distinct repeats rules_from one_rule front named
    inverse inv_chain inv name polarity same_rule same_chain reaches with_inner shape leads trails
    depth_of levels_from level_of inner_roles highest
    rules_of has_symmetric has_transitive shapes row_size rows_size row_transitions rows_transitions letters back size_of transitions_of
    roots_from transitions_from states_from numbers transitions_in heads_fit transitions_fit tables_fit query asked
test_passed = refl

-- every example of the table holds: from the bytes of each book, the numbers of states and transitions and the depth, or the refusal; the initial states;
-- the answer to each question, by derivation; and the bytes that the program writes for an input, by what binds, such as the hall book's six lines
pub worked : Every Holds examples
worked = all_every test Holds test_holds examples test_passed
