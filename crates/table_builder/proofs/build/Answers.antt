-- `build` meets its contract: the book is checked and indexed, and its tables are counted, judged and laid.
use Prim.Native.Nat.{ℕ}
use lib.ListN.{length-replicate}
use Rattle.std.proofs.lemmas.Result.{err_from_is_err_and}
use Rattle.table_builder.specs.BuildsLaws.{checked, builds-unread, count-ready, builds-limited, roots-ready, builds_settled}
use Rattle.table_builder.proofs.build.Goals as goal

pub returns-in_err-header : goal.returns-in_err-header
returns-in_err-header c =
    let refused = err_from_is_err_and c.from_residual.result c.from_residual.ensures.1 in
    rw (refused.1, refused.2) (builds-unread (checked (length-replicate {A = ℕ} 3904 0) c.index.ensures) c.in_err-header.was)

pub count-end-requires : goal.count-end-requires
count-end-requires c = count-ready (checked (length-replicate {A = ℕ} 3904 0) c.index.ensures) c.in_ok-header.was

pub returns-in_err-counts : goal.returns-in_err-counts
returns-in_err-counts c =
    let refused = err_from_is_err_and c.from_residual-in_err-counts.result c.from_residual-in_err-counts.ensures.1 in
    rw (refused.1, refused.2)
    (builds-limited (checked (length-replicate {A = ℕ} 3904 0) c.index.ensures) c.in_ok-header.was c.count-end.ensures _ _ c.limit.ensures c.in_err-counts.was)

pub roots-requires : goal.roots-requires
roots-requires c =
    roots-ready (checked (length-replicate {A = ℕ} 3904 0) c.index.ensures) c.in_ok-header.was c.count-end.ensures _ _ c.limit.ensures c.in_ok-counts.was

pub returns : goal.returns
returns c =
    builds_settled (checked (length-replicate {A = ℕ} 3904 0) c.index.ensures) c.in_ok-header.was c.count-end.ensures _ _ c.limit.ensures c.in_ok-counts.was c.roots.ensures
