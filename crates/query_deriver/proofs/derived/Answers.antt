-- `derived` meets its contract: the question is judged by the names that the book says it has, before anything is written.
use Rattle.std.specs.Prelude.{Ok, Err}
use Rattle.query_deriver.specs.RepliesLaws.{found, replies_kept}
use Rattle.query_deriver.proofs.derived.Goals as goal

pub decide-requires : goal.decide-requires
decide-requires c =
    found c.args.book.now c.byte-names.result c.args.role c.args.chain.now c.byte-names.ensures c.check_for.result (Ok tt) c.check_for.ensures c.in-Ok.is

pub returns-in-Err : goal.returns-in-Err
returns-in-Err c =
    replies_kept c.args.book.now _ _ c.args.role c.args.chain.now _ _ (found c.args.book.now c.byte-names.result c.args.role c.args.chain.now c.byte-names.ensures c.check_for.result (Err c.in-Err.refusal) c.check_for.ensures c.in-Err.is) _ c.refuse.ensures
