-- `back` meets its contract: where there is a link before, the hops along it are those by its inverse.
use Prim.Native.Nat.{◌-◌}
use native.Mathlib.Omega.{arith}
use Rattle.roles.specs.RoleLaws.{inv-below}
use Rattle.query_binder.specs.HopsLaws.{gains-back}
use Rattle.query_binder.proofs.hops.back.Goals as goal

pub returns-then-place-chain : goal.returns-then-place-chain
returns-then-place-chain c =
    gains-back c.args.moves.now c.args.chain.now c.args.from c.args.place (omega arith) (omega arith) (inv-below _ 64 (c.requires.grounded.small (c.args.place - 1) (omega arith))) (rw c.inverse.ensures at c.spread.ensures)
