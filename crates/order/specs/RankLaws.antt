-- How many names are lower than a name, in an order on names: this number rises along the order.
use Rattle.std.specs.Prelude.{Bool, true, false, List, ◌≡◌, refl, ℕ, zero, suc, ◌<◌}
use Rattle.std.proofs.Common.{arith}
use Rattle.base.specs.Truth.{not_true_false}
use Rattle.roles.specs.Rule.{Rule}
use Rattle.order.specs.Shape.Shape.{transitive}
use Rattle.order.specs.Regular.{holds}
use Rattle.order.specs.Leveled.{NameOrder}
use Rattle.name_sets.specs.Mask.{count}
use Rattle.name_sets.specs.MaskLaws.{count_lt}

count-all : (d : ℕ) → count d (λ k. true) ≡ d
unfolding count
count-all zero = refl
count-all (suc d) = rw (count-all d) (omega arith)

-- a test that fails once passes less often than all
pub count_less : (d : ℕ) (P : ℕ → Bool) (z : ℕ) → z < d → P z ≡ false → count d P < d
count_less d P z h e = rw count-all at (count_lt d P (λ k. true) (λ k p q. refl) z h e refl)

module _ (n : ℕ) (ρs : List Rule) (lower : ℕ → ℕ → Bool) (o : NameOrder (holds lower) ρs) where
  not_own : (x : ℕ) → lower x x ≡ false
  not_own x = not_true_false (lower x x) (o.irreflexive x)

  pub rank-lower : (y x : ℕ) → y < n → holds lower y x → count n (λ z. lower z y) < count n (λ z. lower z x)
  rank-lower y x h l = count_lt n (λ z. lower z y) (λ z. lower z x) (λ z p q. o.transitive z y x q l) y h (not_own y) l

  pub rank-small : (x : ℕ) → x < n → count n (λ y. lower y x) < n
  rank-small x h = count_less n (λ y. lower y x) x h (not_own x)
