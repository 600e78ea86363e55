-- Laws of the lowest repeat: a search lowers the number that it began with; one name more; how many rules a name has.
use Rattle.std.specs.Prelude.{true, false, List, ◌⊎◌, ◌≡◌, ℕ, ◌+◌, ◌%◌, ◌<◌, ◌≤◌, get_or, set, replicate}
use Rattle.std.proofs.Common.{inl, inr, arith, length-set, get_or-set_same, get_or-set_other}
use Rattle.std.proofs.lemmas.List.{length-replicate, get_or-replicate}
use Rattle.base.specs.Truth.{lt_or_le, eq_or_ne}
use Rattle.book_reader.specs.Lowest.{repeated, Lowest, Narrowed, Sized}

-- a repeat, or the number that a search began with, is lowered to a repeat
pub found-lower : (keys : List ℕ) {lowest least least' : ℕ} → (least < lowest → repeated keys least ≡ true) → least' ≤ least
    → (least' < least → repeated keys least' ≡ true) → least' < lowest → repeated keys least' ≡ true
found-lower keys {lowest} {least} {least'} before low found l = by_place (lt_or_le least' least)
  where
    by_place : (least' < least) ⊎ (least ≤ least') → repeated keys least' ≡ true
    by_place (inl p) = found p
    by_place (inr p) = let e : least' ≡ least = omega arith in rw e (before (omega arith))

-- no name at first, then one more
module _ {keys : List ℕ} {count : ℕ} where
  pub lowest_start : Lowest keys 0 count count
  lowest_start = record { low = omega arith; found = λ l. absurd (omega arith); none = λ k l p. absurd (omega arith) }

  module _ {n lowest own : ℕ} (so_far : Lowest keys n count lowest) (here : Narrowed keys n count own) where
    -- below both the lowest so far and that of the name there is no repeat
    lowest_none : {least : ℕ} → least ≤ lowest → least ≤ own → (k : ℕ) → k < least → get_or keys k 0 % 64 < n + 1 → repeated keys k ≡ false
    lowest_none {least} f g k l p = by_name (lt_or_le (get_or keys k 0 % 64) n)
      where
        by_name : (get_or keys k 0 % 64 < n) ⊎ (n ≤ get_or keys k 0 % 64) → repeated keys k ≡ false
        by_name (inl q) = so_far.none k (omega arith) q
        by_name (inr q) = here.none k (omega arith) (omega arith)

    pub lowest_own : own < lowest → Lowest keys (n + 1) count own
    lowest_own l = record { low = here.low; found = here.found; none = lowest_none (omega arith) (omega arith) }

    pub lowest_kept : lowest ≤ own → Lowest keys (n + 1) count lowest
    lowest_kept l = record { low = so_far.low; found = so_far.found; none = lowest_none (omega arith) l }

-- no rule at first, then one more
pub sized_start : Sized (replicate 64 0) 0
sized_start = record { names = length-replicate {A = ℕ} 64 0; most = λ k l. rw (get_or-replicate {A = ℕ} 64 k 0 0 l) (omega arith) }

pub sized_next : {sizes : List ℕ} {count : ℕ} → Sized sizes count → (name : ℕ) → name < 64 → Sized (set sizes name (get_or sizes name 0 + 1)) (count + 1)
sized_next {sizes} {count} so_far name small = record { names = simp length-set so_far.names; most = λ k l. by_name k l (eq_or_ne k name) }
  where
    by_name : (k : ℕ) → k < 64 → (k ≡ name) ⊎ (k ≡ name → ⊥) → get_or (set sizes name (get_or sizes name 0 + 1)) k 0 ≤ count + 1
    by_name k l (inl e) = rw (e, get_or-set_same sizes name (get_or sizes name 0 + 1) 0 (omega (arith, so_far.names))) (omega (arith, so_far.most name small))
    by_name k l (inr e) = rw (get_or-set_other sizes name k (get_or sizes name 0 + 1) 0 e) (omega (arith, so_far.most k l))
