-- The lesser of two numbers. What is at most the second is at most the lesser exactly where it is at most the first.
use Rattle.std.specs.Prelude.{◌⊎◌, ◌≡◌, ℕ, ◌≤◌, leb}
use Rattle.std.proofs.Common.{inl, inr, sym, ap, ◌∙◌, arith, le-leb}

pub record Least (a b r : ℕ) : Type 0 where
  pub left : r ≤ a
  pub right : r ≤ b
  pub either : (r ≡ a) ⊎ (r ≡ b)

pub least_test : {a b r : ℕ} → Least a b r → (n : ℕ) → n ≤ b → leb n r ≡ leb n a
least_test {a} {b} {r} l n h = by-either l.either
  where
    by-either : (r ≡ a) ⊎ (r ≡ b) → leb n r ≡ leb n a
    by-either (inl e) = ap (leb n) e
    by-either (inr e) = le-leb n r (omega arith) ∙ sym (le-leb n a (omega (arith, l.left)))
