-- `order` meets its contract: `read` settles causes 1 to 7, `gather` cause 8, and the masks that it leaves give the levels.
use mathlib.Core.Path.{◌≡◌, sym, ap, ◌∙◌}
use Prim.Native.Nat.{ℕ, ◌≤◌}
use lib.ListN.{length, take, replicate}
use lib.Seq.{length-take-le}
use Rattle.std.proofs.lemmas.Result.{err_from_is_err_and}
use Rattle.book_causes.specs.OrderedRun.{ordered-refused}
use Rattle.base.specs.Result.{map_result}
use Rattle.order_masks.specs.AbsorbLaws.{holds-none}
use Rattle.order_checker.specs.FrontLaws.{holds-front}
use Rattle.order_checker.specs.GatherLaws.{formed, few_names}
use Rattle.order_checker.specs.OrderLaws.{order-refused, order-passed}
use Rattle.book_decoder.specs.Verdict.{header_of}
use Rattle.order_checker.proofs.order.Goals as goal
use Rattle.order_checker.proofs.order.Goals.{In_ok-header}

pub returns-in_err-header : goal.returns-in_err-header
returns-in_err-header c =
    let refused = err_from_is_err_and c.from_residual.result c.from_residual.ensures.1 in
    rw (refused.1, refused.2) (order-refused (sym (ap (map_result header_of) (ordered-refused header_of _ c.in_err-header.ensures))))

few : (c : In_ok-header) → c.in_ok-header.header.names ≤ 64
few c = few_names (formed (sym c.in_ok-header.ensures))

-- there is a mask for each name
as_many : (c : In_ok-header) → length {A = ℕ} (take c.in_ok-header.header.names (replicate 64 0)) ≡ c.in_ok-header.header.names
as_many c = length-take-le _ (replicate 64 0) (few c)

pub slice_bounds-masks-end : goal.slice_bounds-masks-end
slice_bounds-masks-end c = few c

pub slice_bounds-masks-end-2 : goal.slice_bounds-masks-end-2
slice_bounds-masks-end-2 c = sym (as_many (goal.at.slice_bounds-masks-end-2 c).In_ok-header)

pub gather-requires-clause-masks_len : goal.gather-requires-clause-masks_len
gather-requires-clause-masks_len c = as_many (goal.at.gather-requires-clause-masks_len c).In_ok-header

pub gather-requires-clause-holds : goal.gather-requires-clause-holds
gather-requires-clause-holds c = holds-front c.in_ok-header.header.names (replicate 64 0) holds-none

pub returns-in_err-gather : goal.returns-in_err-gather
returns-in_err-gather c =
    let refused = err_from_is_err_and c.from_residual-in_err-gather.result c.from_residual-in_err-gather.ensures.1 in
    rw (refused.1, refused.2) (order-refused c.in_err-gather.ensures.result_value)

pub returns : goal.returns
returns c =
    let size = c.gather.auto.masks ∙ as_many (goal.at.returns c).In_ok-header in
    order-passed c.in_ok-gather.ensures.result_value c.in_ok-header.ensures _ size c.in_ok-gather.ensures.gathered_order c.levels_of-depth.ensures
