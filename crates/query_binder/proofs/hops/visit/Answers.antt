-- `visit` meets its contract: the hops of a pair are silent, ahead or back.
use Rattle.query_binder.specs.HopsLaws.{gains_hops}
use Rattle.query_binder.proofs.hops.visit.Goals as goal

pub returns : goal.returns
returns c =
    gains_hops c.args.moves.now c.args.chain.now c.args.pair c.spread-silent.ensures c.ahead-forth.ensures c.back.ensures
