-- `weave` meets its contract. The invariant: what a member leads to is led to, and the hops of the first i members lead to members.
use Prim.Native.Nat.{◌*◌, ◌-◌}
use Rattle.query_binder.specs.PairReach.{Reaching}
use Rattle.query_binder.proofs.reaching.weave.Given as goal

abbrev pub invariant-loop-i : goal.invariant-loop-i
invariant-loop-i l = Reaching l.moves l.chain l.room l.stamp l.head l.begin l.i l.pairs l.count

abbrev pub decreases-loop-i : goal.decreases-loop-i
decreases-loop-i l = 32 * l.room - l.i
