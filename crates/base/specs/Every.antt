-- Properties of every member of a list, and what stands at a place as a member.
use Rattle.std.specs.Prelude.{Bool, true, false, cond, ◌⊎◌, ◌≡◌, refl, ℕ, zero, suc, ◌<◌, length, get_or}
use mathlib.Core.List.Memᴰ
use mathlib.Core.List.{List, [], ◌∷◌, ◌++◌, Memᴰ}
use Rattle.std.proofs.Common.{inl, inr, sym, zero-le, suc-le-suc, not-suc-le-zero, le_of_suc-le-suc}

pub get_or-member : {A : Type 0} (l : List A) (k : ℕ) (d : A) → k < length l → Memᴰ (get_or l k d) l
get_or-member [] k d h = absurd (not-suc-le-zero h)
get_or-member (a ∷ l) zero d h = Memᴰ.head refl
get_or-member (a ∷ l) (suc k) d h = Memᴰ.tail (get_or-member l k d (le_of_suc-le-suc h))

-- where a member stands
pub member-place : {A : Type 0} (l : List A) {a : A} (d : A) → Memᴰ a l → (k : ℕ) × (k < length l) × (get_or l k d ≡ a)
member-place [] d m = elim m [ ]
member-place (a ∷ l) d (Memᴰ.head e) = (0, suc-le-suc zero-le, sym e)
member-place (a ∷ l) d (Memᴰ.tail m) = let (k, h, e) = member-place l d m in (suc k, suc-le-suc h, e)

-- what holds of both choices holds of the chosen one
pub cond_both : {A : Type 0} (P : A → Type 0) (t : Bool) {a b : A} → P a → P b → P (cond t a b)
cond_both P true p q = p
cond_both P false p q = q

module _ {A : Type 0} (P : A → Type 0) where
  abbrev pub Every : List A → Type 0
  Every xs = (a : A) → Memᴰ a xs → P a

  pub every_nil : Every []
  every_nil a m = absurd (Memᴰ.not-nil m)

  pub every_cons : {b : A} {xs : List A} → P b → Every xs → Every (b ∷ xs)
  every_cons {b} {xs} p ps a m = by_place (Memᴰ.cases_cons m)
    where
      by_place : (a ≡ b) ⊎ Memᴰ a xs → P a
      by_place (inl e) = rw e p
      by_place (inr k) = ps a k

  pub every_tail : {b : A} {xs : List A} → Every (b ∷ xs) → Every xs
  every_tail ps a m = ps a (Memᴰ.tail m)

  pub every_append : (xs : List A) {ys : List A} → Every xs → Every ys → Every (xs ++ ys)
  every_append xs {ys} ps qs a m = by_place (Memᴰ.append_cases xs m)
    where
      by_place : Memᴰ a xs ⊎ Memᴰ a ys → P a
      by_place (inl k) = ps a k
      by_place (inr k) = qs a k

  pub every_left : {xs : List A} (ys : List A) → Every (xs ++ ys) → Every xs
  every_left ys ps a m = ps a (Memᴰ.append_left ys m)

  pub every_right : (xs : List A) {ys : List A} → Every (xs ++ ys) → Every ys
  every_right xs ps a m = ps a (Memᴰ.append_right xs m)

  -- members that are there only if a test holds
  pub every_if : (t : Bool) {xs : List A} → (t ≡ true → Every xs) → Every (cond t xs [])
  every_if true ps = ps refl
  every_if false ps = every_nil

  pub every_if_in : {t : Bool} {xs : List A} → t ≡ true → Every (cond t xs []) → Every xs
  every_if_in e ps = rw e at ps
