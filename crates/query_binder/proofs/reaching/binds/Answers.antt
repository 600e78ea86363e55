-- `binds` meets its contract: the role tells from where to where the chain is asked.
use Rattle.query_binder.specs.TrailBatchLaws.{ends-inverse, ends-name}
use Rattle.query_binder.proofs.reaching.binds.Goals as goal

pub returns-then-is_inverse-clause-reflects : goal.returns-then-is_inverse-clause-reflects
returns-then-is_inverse-clause-reflects c = ends-inverse c.args.moves.now c.args.role c.args.chain.now c.args.head c.is_inverse.ensures c.if-is_inverse.true c.weave.ensures.reflects

pub returns-else-is_inverse-clause-reflects : goal.returns-else-is_inverse-clause-reflects
returns-else-is_inverse-clause-reflects c = ends-name c.args.moves.now c.args.role c.args.chain.now c.args.head c.is_inverse.ensures c.if-is_inverse.false c.weave-else-is_inverse.ensures.reflects
