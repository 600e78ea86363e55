use Rattle.std.specs.Prelude.{List, ℕ, ◌<◌, length, get_or}
use Rattle.std.specs.Int.Bits.{bit_or}
use Rattle.std.proofs.Math.Bool.{or_assoc}
use Rattle.std.proofs.Common.{◌∙◌, arith}
use Rattle.name_sets.specs.MaskLaws.{has_or}
use Rattle.name_sets.specs.MemberLaws.{only-named}
use Rattle.order_masks.specs.ReachLaws.{Reaching, reaching-start, reaching-next, reaching-end}
use Rattle.roles.specs.Role.{Chain, name}
use Rattle.order_checker.proofs.masks.reached.Goals as goal
use Rattle.order_checker.proofs.masks.reached.Goals.{After-name-inner}

-- the union of three sets does not depend on how it is grouped
regrouped : {masks : List ℕ} {roles : Chain} {i : ℕ} (a b c : ℕ) → Reaching masks roles (bit_or (bit_or a b) c) i → Reaching masks roles (bit_or a (bit_or b c)) i
regrouped a b c r =
    record {
      reach = λ lower h y k. rw (has_or a (bit_or b c) y, has_or b c y, ← or_assoc, ← has_or a b y, ← has_or (bit_or a b) c y) (r.reach lower h y k);
    }

-- the name of the role read has a mask
name-masked : (c : After-name-inner) → c.name-inner.result < length c.args.masks.now
unfolding name
name-masked c = omega (arith, c.name-inner.ensures, c.requires.by_index c.loop-role.role-index c.loop-role-test.true)

pub loop-role-init : goal.loop-role-init
loop-role-init c = reaching-start

pub bounds-masks-inner : goal.bounds-masks-inner
bounds-masks-inner c = name-masked (goal.at.bounds-masks-inner c).After-name-inner

pub loop-role-preserved : goal.loop-role-preserved
loop-role-preserved c =
    let small : c.name-inner.result < 64 = omega (arith, name-masked (goal.at.loop-role-preserved c).After-name-inner) in
    regrouped c.loop-role.lower c.single.result (get_or c.args.masks.now c.name-inner.result 0)
    (reaching-next c.loop-role-test.true c.name-inner.ensures small (c.single.ensures ∙ only-named _ small) c.loop-role.invariant)

pub returns : goal.returns
returns c = reaching-end c.loop-role-test.false c.loop-role.invariant
