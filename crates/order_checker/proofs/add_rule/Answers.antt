-- `add_rule` meets its contract: by the shape there are no inner roles, or the mask of what they reach is tested and absorbed, unless all of it is known.
use mathlib.Core.Path.{sym, ◌∙◌}
use Prim.Native.Nat.{◌<◌, ◌+◌, ◌-◌}
use native.Mathlib.Omega.{arith}
use lib.ListN.{length}
use Rattle.book_format.specs.ReadLaws.{named-name, named-part}
use Rattle.order_checker.specs.AddLaws.{Reached, no_inner, row_within, row-reached, added_none, added_clash, added-known, added_extends}
use Rattle.order_checker.proofs.add_rule.Goals as goal
use Rattle.order_checker.proofs.add_rule.Goals.{After-name-over}

pub returns-in_default : goal.returns-in_default
returns-in_default c = added_none (no_inner _ _ c.shape_of.ensures c.in_default.not-Row)

pub overflow_add-inner : goal.overflow_add-inner
overflow_add-inner c = omega (arith, row_within _ _ c.shape_of.ensures c.in-Row.is, c.well_formed)

pub slice_bounds-inner-end : goal.slice_bounds-inner-end
slice_bounds-inner-end c = row_within _ _ c.shape_of.ensures c.in-Row.is

pub reached-lower-requires-clause-by_index : goal.reached-lower-requires-clause-by_index
reached-lower-requires-clause-by_index c =
    let row = c.in-Row.row in named-part _ c.args.right c.args.left.now c.requires.left_value row.start (row.start + row.size - row.start)

pub reached-lower-requires-clause-masks_len_bound : goal.reached-lower-requires-clause-masks_len_bound
reached-lower-requires-clause-masks_len_bound c =
    let row = c.in-Row.row in c.requires.masks_len_bound

-- the right name has a mask
over-masked : (c : After-name-over) → c.name-over.result < length c.args.masks.now
over-masked c = rw c.name-over.ensures (named-name _ _ _ c.requires.left_value)

over-small : (c : After-name-over) → c.name-over.result < 64
over-small c = omega (arith, over-masked c, c.requires.masks_len_bound)

-- the mask holds what the inner roles reach
known : (c : After-name-over) → Reached (record { left = c.args.left.now; right = c.args.right }) c.args.masks.now c.reached-lower.result c.name-over.result
known c = row-reached _ _ c.shape_of.ensures c.in-Row.is c.reached-lower.ensures c.name-over.ensures (over-small c)

pub returns-then-has : goal.returns-then-has
returns-then-has c = added_clash (known (goal.at.returns-then-has c).After-name-over) (sym c.has.ensures ∙ c.if-has.true)

pub returns-then-lower-below : goal.returns-then-lower-below
returns-then-lower-below c = added-known (known (goal.at.returns-then-lower-below c).After-name-over) (sym c.has.ensures ∙ c.if-has.false) c.if-lower-below.true

pub absorb-requires-clause-right_in_bounds : goal.absorb-requires-clause-right_in_bounds
absorb-requires-clause-right_in_bounds c = over-masked (goal.at.absorb-requires-clause-right_in_bounds c).After-name-over

pub absorb-requires-clause-masks_len_bound : goal.absorb-requires-clause-masks_len_bound
absorb-requires-clause-masks_len_bound c = c.requires.masks_len_bound

pub returns : goal.returns
returns c =
    added_extends (known (goal.at.returns c).After-name-over) (sym c.has.ensures ∙ c.if-has.false) c.absorb.ensures

pub bounds-masks-over : goal.bounds-masks-over
bounds-masks-over c = over-masked (goal.at.bounds-masks-over c).After-name-over
