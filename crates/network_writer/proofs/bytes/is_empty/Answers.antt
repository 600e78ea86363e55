-- `is_empty` meets its contract: the test passes at each place.
use Rattle.std.proofs.Common.{ℕ, ◌+◌, ◌≡◌, ◌⊎◌, inl, inr, refl, sym, ◌∙◌, true, true≢false, List, get_or, zero-add, ne_eqb, arith, rules}
use Rattle.std.specs.Prelude.{eqb}
use Rattle.std.specs.List.{list_all, range_with_len}
use Rattle.std.proofs.lemmas.Iterator.{YieldsList-from_range}
use Rattle.std.proofs.lemmas.Iterator.Search.{all_from_yields_List}
use Rattle.std.proofs.lemmas.List.Folds.{list_all_at}
use Rattle.std.proofs.lemmas.List.FromFn.{length-range_with_len, get_or-range_with_len}
use Rattle.base.specs.Truth.{eq_or_ne}
use Rattle.network_writer.specs.RowBytes.{NoLinks}
use Rattle.network_writer.proofs.bytes.is_empty.Goals as goal

each : (rows : List ℕ) (front places : ℕ) → list_all (λ a. eqb (get_or rows (front + a) 0) 0) (range_with_len 0 places) ≡ true → NoLinks rows front places
each rows front places all a l = by_row (eq_or_ne (get_or rows (front + a) 0) 0)
  where
    by_row : (get_or rows (front + a) 0 ≡ 0) ⊎ (get_or rows (front + a) 0 ≡ 0 → ⊥) → get_or rows (front + a) 0 ≡ 0
    by_row (inl e) = e
    by_row (inr e) =
        absurd
        (true≢false
        (sym all
        ∙ list_all_at (λ a. eqb (get_or rows (front + a) 0) 0) (range_with_len 0 places) a 0 (rw (length-range_with_len 0 places) l)
        (rw (get_or-range_with_len 0 places a 0 l, zero-add a) (ne_eqb _ _ e))))

pub returns : goal.returns
returns c e =
    each _ _ _
    (sym
    (all_from_yields_List (λ a. eqb (get_or c.args.rows.now (c.args.front + a) 0) 0) _ _ _ c.all.ensures.ran (YieldsList-from_range 0 c.args.places c.args.places refl (omega arith))
    (λ a b q k. search rules))
    ∙ e)
