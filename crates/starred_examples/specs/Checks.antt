-- Tests that compute on lists and results, each with what it says where it is passed.
use Rattle.std.specs.Prelude.{Bool, false, ◌&&◌, ◌||◌, ◌⊎◌, ◌≡◌, eqb}
use Rattle.std.proofs.Math.Bool.{Bool-discrete, true, decide, decide_iff}
use Rattle.std.proofs.lemmas.Bool.{false≢true}
use mathlib.Core.List.{List, [], ◌∷◌, Memᴰ}
use Rattle.std.proofs.Common.{inl, inr, ap₂, eqb-true, eq-eqb}
use Rattle.std.proofs.Math.Path.{ap}
use Prim.Native.Nat.{ℕ}
use Rattle.base.specs.Truth.{and_left, and_right, or_cases, or_left, or_right}
use Rattle.base.specs.Result.{Result}
use Rattle.base.specs.Result.Result.{refused, ok}
use Rattle.base.specs.Every.{Every, every_nil, every_cons}

-- every member passes a test
module _ {A : Type 0} (test : A → Bool) where
  unfoldable pub all : List A → Bool
  all [] = true
  all (x ∷ xs) = test x && all xs

  pub all_every : (P : A → Type 0) → ((x : A) → test x ≡ true → P x) → (xs : List A) → all xs ≡ true → Every P xs
  unfolding all
  all_every P law [] h = every_nil P
  all_every P law (x ∷ xs) h =
      every_cons P (law x (and_left (test x) (all xs) h)) (all_every P law xs (and_right (test x) (all xs) h))

-- a member is the same, where a test says so of two
module _ {A : Type 0} (same : A → A → Bool) where
  unfoldable pub among_by : List A → A → Bool
  among_by [] x = false
  among_by (y ∷ ys) x = same x y || among_by ys x

  pub among_by-member : ((x y : A) → same x y ≡ true → x ≡ y) → (ys : List A) (x : A) → among_by ys x ≡ true → Memᴰ x ys
  unfolding among_by
  among_by-member sound [] x h = absurd (false≢true h)
  among_by-member sound (y ∷ ys) x h = by_place (among_by-member sound ys x) (or_cases (same x y) (among_by ys x) h)
    where
      by_place : (among_by ys x ≡ true → Memᴰ x ys) → (same x y ≡ true) ⊎ (among_by ys x ≡ true) → Memᴰ x (y ∷ ys)
      by_place rest (inl e) = Memᴰ.head (sound x y e)
      by_place rest (inr e) = Memᴰ.tail (rest e)

-- a number is a member
abbrev pub among : List ℕ → ℕ → Bool
among = among_by eqb

pub among-member : (ps : List ℕ) (q : ℕ) → among ps q ≡ true → Memᴰ q ps
among-member = among_by-member eqb eqb-true

pub member-among : {q : ℕ} {ps : List ℕ} → Memᴰ q ps → among ps q ≡ true
unfolding among_by
member-among {q} (Memᴰ.head {x} {xs} e) = or_left (eqb q x) (among xs q) (eq-eqb q x e)
member-among {q} (Memᴰ.tail {x} {xs} m) = or_right (eqb q x) (among xs q) (member-among m)

-- two pairs of numbers are the same
unfoldable pub same_pair : (a b : ℕ × ℕ) → Bool
same_pair a b = eqb a.0 b.0 && eqb a.1 b.1

pub same_pair-sound : (a b : ℕ × ℕ) → same_pair a b ≡ true → a ≡ b
unfolding same_pair
same_pair-sound a b h =
    ap₂ (λ (x y : ℕ). (x, y)) (eqb-true a.0 b.0 (and_left (eqb a.0 b.0) (eqb a.1 b.1) h))
    (eqb-true a.1 b.1 (and_right (eqb a.0 b.0) (eqb a.1 b.1) h))

-- two triples of numbers are the same
unfoldable pub same_triple : (a b : ℕ × (ℕ × ℕ)) → Bool
same_triple a b = eqb a.0 b.0 && same_pair a.1 b.1

pub same_triple-sound : (a b : ℕ × (ℕ × ℕ)) → same_triple a b ≡ true → a ≡ b
unfolding same_triple
same_triple-sound a b h =
    ap₂ (λ (x : ℕ) (y : ℕ × ℕ). (x, y)) (eqb-true a.0 b.0 (and_left (eqb a.0 b.0) (same_pair a.1 b.1) h))
    (same_pair-sound a.1 b.1 (and_right (eqb a.0 b.0) (same_pair a.1 b.1) h))

-- two results are the same, where a test says so of two values
module _ {A : Type 0} (same : A → A → Bool) where
  unfoldable pub same_result : Result A → Result A → Bool
  same_result (refused c v) (refused d u) = same_pair (c, v) (d, u)
  same_result (refused c v) (ok b) = false
  same_result (ok a) (refused d u) = false
  same_result (ok a) (ok b) = same a b

  pub same_result-sound : ((a b : A) → same a b ≡ true → a ≡ b) → (r s : Result A) → same_result r s ≡ true → r ≡ s
  unfolding same_result
  same_result-sound sound (refused c v) (refused d u) h = ap (λ (p : ℕ × ℕ). refused p.0 p.1) (same_pair-sound (c, v) (d, u) h)
  same_result-sound sound (refused c v) (ok b) h = absurd (false≢true h)
  same_result-sound sound (ok a) (refused d u) h = absurd (false≢true h)
  same_result-sound sound (ok a) (ok b) h = ap ok (sound a b h)

-- two answers are the same
abbrev pub same_answer : Result Bool → Result Bool → Bool
same_answer = same_result (λ (a b : Bool). decide (Bool-discrete a b))

pub same_answer-sound : (r s : Result Bool) → same_answer r s ≡ true → r ≡ s
same_answer-sound = same_result-sound (λ (a b : Bool). decide (Bool-discrete a b)) (λ a b. (decide_iff (Bool-discrete a b)).0)
