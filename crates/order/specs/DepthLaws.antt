-- Levels are what document 02 says of them: of rules over n names that have a regular order, each level is 1 more than the highest of the inner
-- names', they fit the order, they lie between 1 and the depth, and the depth is at most n. A name's level is the length of the longest way down
-- in the order that the rules force.
use Rattle.std.specs.Prelude.{Bool, true, false, cond, ◌⊎◌, ◌≡◌, eqb, length, get_or}
use mathlib.Core.List.Memᴰ
use mathlib.Core.List.{List, [], ◌∷◌, ◌++◌, map, Memᴰ}
use Rattle.std.proofs.Math.Logic.{inl, inr}
use Rattle.std.proofs.Math.Path.{refl, ap}
use Rattle.std.proofs.Common.{ap₂, ◌∙◌, subst, eqb-true, eq-eqb}
use Prim.Native.Nat.{ℕ, zero, suc, ◌+◌, ◌-◌, ◌*◌, ◌<◌, ◌≤◌, max}
use Rattle.std.proofs.Math.Nat.{le-max_left, le-max_right, max-eq_left, max-eq_right}
use native.Mathlib.Omega.{arith}
use Rattle.base.specs.Truth.{lt_or_le}
use Rattle.roles.specs.Role.{Chain, name}
use Rattle.roles.specs.Rule.{Rule}
use Rattle.roles.specs.Named.{Named}
use Rattle.name_sets.specs.Mask.{count}
use Rattle.order.specs.Shape.{Shape, shape, inner_of}
use Rattle.order.specs.Shape.Shape.{transitive, symmetric, row}
use Rattle.order.specs.Regular.{holds, Regular}
use Rattle.order.specs.Leveled.{Lower, Fits, Leveled}
use Rattle.order.specs.ClosureLaws.{Closed, Forced, forced-lower, inner-left}
use Rattle.order.specs.ClosureLaws.Forced.{edge, along}
use Rattle.order.specs.Regularity.{regular_closed}
use Rattle.order.specs.RankLaws.{rank-lower, rank-small}
use Rattle.order.specs.Depth.{inner_roles, highest, level_of, levels_from, level, levels, depth}
use Rattle.order.specs.Longest.{Way, Longest, longest-some, longest_way, way_short, longest-least}

-- the highest of two
max_one : (a b : ℕ) → (max a b ≡ a) ⊎ (max a b ≡ b)
max_one a b = by_order (lt_or_le a b)
  where
    by_order : (a < b) ⊎ (b ≤ a) → (max a b ≡ a) ⊎ (max a b ≡ b)
    by_order (inl h) = inr (max-eq_right (omega arith))
    by_order (inr h) = inl (max-eq_left h)

-- the highest of some numbers is none of them lower, and one of them unless it is 0: by their places
pub highest-at : (ks : List ℕ) (i : ℕ) → i < length ks → get_or ks i 0 ≤ highest ks
unfolding highest
highest-at [] i h = absurd (let f : ⊥ = omega arith in f)
highest-at (k ∷ ks) zero h = le-max_left k (highest ks)
highest-at (k ∷ ks) (suc i) h = omega (arith, highest-at ks i (omega arith), le-max_right k (highest ks))

pub highest-met : (ks : List ℕ) → (highest ks ≡ 0) ⊎ ((i : ℕ) × (i < length ks) × (highest ks ≡ get_or ks i 0))
unfolding highest
highest-met [] = inl refl
highest-met (k ∷ ks) = by_case (max_one k (highest ks)) (highest-met ks)
  where
    by_case : (max k (highest ks) ≡ k) ⊎ (max k (highest ks) ≡ highest ks) → (highest ks ≡ 0) ⊎ ((i : ℕ) × (i < length ks) × (highest ks ≡ get_or ks i 0))
        → (max k (highest ks) ≡ 0) ⊎ ((i : ℕ) × (i < suc (length ks)) × (max k (highest ks) ≡ get_or (k ∷ ks) i 0))
    by_case (inl e) r = inr (0, omega arith, e)
    by_case (inr e) (inl z) = inl (e ∙ z)
    by_case (inr e) (inr r) = inr (suc r.0, omega (arith, r.1), e ∙ r.2)

-- and of the numbers of some roles
module _ (f : ℕ → ℕ) where
  pub highest_of : (w : Chain) (s : ℕ) → Memᴰ s w → f s ≤ highest (map f w)
  unfolding highest
  highest_of [] s m = absurd (Memᴰ.not-nil m)
  highest_of (t ∷ w) s m = by_place (Memᴰ.cases_cons m) (highest_of w s)
    where
      by_place : (s ≡ t) ⊎ Memᴰ s w → (Memᴰ s w → f s ≤ highest (map f w)) → f s ≤ max (f t) (highest (map f w))
      by_place (inl e) rest = rw e (le-max_left (f t) (highest (map f w)))
      by_place (inr k) rest = omega (arith, rest k, le-max_right (f t) (highest (map f w)))

  pub highest-one : (w : Chain) → (highest (map f w) ≡ 0) ⊎ ((s : ℕ) × Memᴰ s w × (highest (map f w) ≡ f s))
  unfolding highest
  highest-one [] = inl refl
  highest-one (t ∷ w) = by_case (max_one (f t) (highest (map f w))) (highest-one w)
    where
      by_case : (max (f t) (highest (map f w)) ≡ f t) ⊎ (max (f t) (highest (map f w)) ≡ highest (map f w))
          → (highest (map f w) ≡ 0) ⊎ ((s : ℕ) × Memᴰ s w × (highest (map f w) ≡ f s))
          → (max (f t) (highest (map f w)) ≡ 0) ⊎ ((s : ℕ) × Memᴰ s (t ∷ w) × (max (f t) (highest (map f w)) ≡ f s))
      by_case (inl e) r = inr (t, Memᴰ.head refl, e)
      by_case (inr e) (inl z) = inl (e ∙ z)
      by_case (inr e) (inr r) = inr (r.0, Memᴰ.tail r.1, e ∙ r.2)

highest-same : (f g : ℕ → ℕ) (w : Chain) → ((s : ℕ) → Memᴰ s w → f s ≡ g s) → highest (map f w) ≡ highest (map g w)
unfolding highest
highest-same f g [] h = refl
highest-same f g (t ∷ w) h = ap₂ max (h t (Memᴰ.head refl)) (highest-same f g w (λ s m. h s (Memᴰ.tail m)))

-- the inner roles of a name are those of its rules
pub inner-member : (ρs : List Rule) (ρ : Rule) → Memᴰ ρ ρs → (s : ℕ) → Memᴰ s (inner_of (shape ρ)) → Memᴰ s (inner_roles ρs (name ρ.right))
unfolding inner_roles
inner-member [] ρ m s i = absurd (Memᴰ.not-nil m)
inner-member (σ ∷ ρs) ρ m s i = by_place (Memᴰ.cases_cons m) (λ (k : Memᴰ ρ ρs). inner-member ρs ρ k s i)
  where
    rest : (t : Bool) → Memᴰ s (inner_roles ρs (name ρ.right))
        → Memᴰ s (cond t (inner_of (shape σ) ++ inner_roles ρs (name ρ.right)) (inner_roles ρs (name ρ.right)))
    rest true k = Memᴰ.append_right (inner_of (shape σ)) k
    rest false k = k

    by_place : (ρ ≡ σ) ⊎ Memᴰ ρ ρs → (Memᴰ ρ ρs → Memᴰ s (inner_roles ρs (name ρ.right)))
        → Memᴰ s (cond (eqb (name σ.right) (name ρ.right)) (inner_of (shape σ) ++ inner_roles ρs (name ρ.right)) (inner_roles ρs (name ρ.right)))
    by_place (inl e) later = rw (← e, eq-eqb (name ρ.right) (name ρ.right) refl) (Memᴰ.append_left (inner_roles ρs (name ρ.right)) i)
    by_place (inr k) later = rest (eqb (name σ.right) (name ρ.right)) (later k)

pub member-inner : (ρs : List Rule) (x s : ℕ) → Memᴰ s (inner_roles ρs x)
    → (ρ : Rule) × Memᴰ ρ ρs × (name ρ.right ≡ x) × Memᴰ s (inner_of (shape ρ))
unfolding inner_roles
member-inner [] x s m = absurd (Memᴰ.not-nil m)
member-inner (σ ∷ ρs) x s m = by_test (eqb (name σ.right) x) refl m (member-inner ρs x s)
  where
    Found : List Rule → Type 0
    Found τs = (ρ : Rule) × Memᴰ ρ τs × (name ρ.right ≡ x) × Memᴰ s (inner_of (shape ρ))

    later : Found ρs → Found (σ ∷ ρs)
    later r = (r.0, Memᴰ.tail r.1, r.2, r.3)

    by_part : name σ.right ≡ x → Memᴰ s (inner_of (shape σ)) ⊎ Memᴰ s (inner_roles ρs x) → (Memᴰ s (inner_roles ρs x) → Found ρs) → Found (σ ∷ ρs)
    by_part e (inl k) rest = (σ, Memᴰ.head refl, e, k)
    by_part e (inr k) rest = later (rest k)

    by_test : (t : Bool) → eqb (name σ.right) x ≡ t → Memᴰ s (cond t (inner_of (shape σ) ++ inner_roles ρs x) (inner_roles ρs x))
        → (Memᴰ s (inner_roles ρs x) → Found ρs) → Found (σ ∷ ρs)
    by_test true e k rest = by_part (eqb-true (name σ.right) x e) (Memᴰ.append_cases (inner_of (shape σ)) k) rest
    by_test false e k rest = later (rest k)

-- the levels of n names, by place
pub levels-length : (ρs : List Rule) (fuel left x : ℕ) → length (levels_from ρs fuel left x) ≡ left
unfolding levels_from
levels-length ρs fuel zero x = refl
levels-length ρs fuel (suc left) x = ap suc (levels-length ρs fuel left (suc x))

levels-at : (ρs : List Rule) (fuel left x i : ℕ) → i < left → get_or (levels_from ρs fuel left x) i 0 ≡ level_of ρs fuel (x + i)
unfolding levels_from
levels-at ρs fuel zero x i h = absurd (let f : ⊥ = omega arith in f)
levels-at ρs fuel (suc left) x zero h = let e : x + 0 ≡ x = omega arith in rw e refl
levels-at ρs fuel (suc left) x (suc i) h = let e : x + suc i ≡ suc x + i = omega arith in rw e (levels-at ρs fuel left (suc x) i (omega arith))

pub level-at : (n : ℕ) (ρs : List Rule) (x : ℕ) → x < n → get_or (levels n ρs) x 0 ≡ level n ρs x
level-at n ρs x p = let e : 0 + x ≡ x = omega arith in rw (levels-at ρs n n 0 x p, e) refl

module _ (n : ℕ) (ρs : List Rule) (named : Named n ρs) where
  -- the order that the rules force is one on their names
  pub forced-low : {y x : ℕ} → Forced ρs y x → y < n
  unfolding name
  forced-low (edge ρ m s i) = let h : s < 2 * n = (named ρ m).1 s (inner-left ρ s i) in omega arith
  forced-low (along x y z p q) = forced-low p

  pub right-low : (ρ : Rule) → Memᴰ ρ ρs → name ρ.right < n
  unfolding name
  right-low ρ m = let h : ρ.right < 2 * n = (named ρ m).0 in omega arith

  pub forced_high : {y x : ℕ} → Forced ρs y x → x < n
  forced_high (edge ρ m s i) = right-low ρ m
  forced_high (along x y z p q) = forced_high q

  inner-forced : (x s : ℕ) → Memᴰ s (inner_roles ρs x) → Forced ρs (name s) x
  inner-forced x s m = let r = member-inner ρs x s m in subst (Forced ρs (name s)) r.2 (edge r.0 r.1 s r.3)

  module _ {lower : ℕ → ℕ → Bool} (c : Closed ρs lower) where
    -- how many names are lower: this rises too, so it bounds the ways down
    rank : ℕ → ℕ
    rank x = count n (λ y. lower y x)

    rank-few : (x : ℕ) → x < n → rank x < n
    unfolding rank
    rank-few x p = rank-small n ρs lower c.order x p

    rank_rises : (y x : ℕ) → Forced ρs y x → rank y < rank x
    unfolding rank
    rank_rises y x f = rank-lower n ρs lower c.order y x (forced-low f) (forced-lower (holds lower) ρs c.order f)

    -- fuel over the rank is enough
    fuel_enough : (d e x : ℕ) → rank x < d → rank x < e → level_of ρs d x ≡ level_of ρs e x
    unfolding level_of
    fuel_enough zero e x h k = absurd (let f : ⊥ = omega arith in f)
    fuel_enough (suc d) zero x h k = absurd (let f : ⊥ = omega arith in f)
    fuel_enough (suc d) (suc e) x h k =
        ap suc
        (highest-same (λ s. level_of ρs d (name s)) (λ s. level_of ρs e (name s)) (inner_roles ρs x)
        (λ s m.
        let r = rank_rises (name s) x (inner-forced x s m) in
        fuel_enough d e (name s) (omega arith) (omega arith)))

    -- document 02's sentence
    pub level_sentence : (x : ℕ) → x < n → level n ρs x ≡ suc (highest (map (λ s. level n ρs (name s)) (inner_roles ρs x)))
    unfolding level_of
    level_sentence x p = fuel_enough n (suc n) x (rank-few x p) (omega (arith, rank-few x p))

    level-rises : (y x : ℕ) → Forced ρs y x → level n ρs y < level n ρs x
    level-rises y x (edge ρ m s i) =
        rw (level_sentence (name ρ.right) (forced_high (edge ρ m s i)))
        (omega (arith, highest_of (λ t. level n ρs (name t)) (inner_roles ρs (name ρ.right)) s (inner-member ρs ρ m s i)))
    level-rises y x (along u v w p q) = omega (arith, level-rises u v p, level-rises v w q)

    -- a level is 1, or 1 more than that of an inner role's name
    pub level-step : (x : ℕ) → x < n → (level n ρs x ≡ 1) ⊎ ((s : ℕ) × Memᴰ s (inner_roles ρs x) × (level n ρs x ≡ suc (level n ρs (name s))))
    level-step x p = by-inner (highest-one (λ s. level n ρs (name s)) (inner_roles ρs x))
      where
        by-inner : (highest (map (λ s. level n ρs (name s)) (inner_roles ρs x)) ≡ 0) ⊎ ((s : ℕ) × Memᴰ s (inner_roles ρs x) × (highest (map (λ s. level n ρs (name s)) (inner_roles ρs x)) ≡ level n ρs (name s)))
            → (level n ρs x ≡ 1) ⊎ ((s : ℕ) × Memᴰ s (inner_roles ρs x) × (level n ρs x ≡ suc (level n ρs (name s))))
        by-inner (inl e) = inl (level_sentence x p ∙ ap suc e)
        by-inner (inr r) = inr (r.0, r.1, level_sentence x p ∙ ap suc r.2)

    -- the longest way down in the forced order
    pub levels-longest : Longest n (Forced ρs) (level n ρs)
    levels-longest = record { rises = level-rises; reached = λ x p. by-step x (level-step x p) }
      where
        by-step : (x : ℕ) → (level n ρs x ≡ 1) ⊎ ((s : ℕ) × Memᴰ s (inner_roles ρs x) × (level n ρs x ≡ suc (level n ρs (name s))))
            → (level n ρs x ≡ 1) ⊎ ((y : ℕ) × (y < n) × Forced ρs y x × (level n ρs x ≡ suc (level n ρs y)))
        by-step x (inl e) = inl e
        by-step x (inr r) = let f = inner-forced x r.0 r.1 in inr (name r.0, forced-low f, f, r.2)

    pub level_way : (x : ℕ) → x < n → Way (Forced ρs) x (level n ρs x)
    level_way = longest_way levels-longest

    pub way_level : {x k : ℕ} → x < n → Way (Forced ρs) x k → k ≤ level n ρs x
    way_level = way_short levels-longest (λ y x f. forced-low f)

    pub level-some : (x : ℕ) → x < n → 1 ≤ level n ρs x
    level-some = longest-some levels-longest

    pub level-few : (x : ℕ) → x < n → level n ρs x ≤ n
    level-few x p =
        omega (arith, longest-least levels-longest (λ x. suc (rank x)) (λ y x f. omega (arith, rank_rises y x f)) (λ x p. omega arith) x p, rank-few x p)

    -- levels, counted from 0, fit every rule
    lower-fits : (x : ℕ) (sh : Shape) → Lower (holds lower) x sh → ((s : ℕ) → Memᴰ s (inner_of sh) → Forced ρs (name s) x) → Fits (λ y. level n ρs y - 1) x sh
    lower-fits x transitive l f = tt
    lower-fits x symmetric l f = tt
    lower-fits x (row from to inner) l f = (
      l.0,
      λ s m. let g = f s m in omega (arith, level-rises (name s) x g, level-some (name s) (forced-low g)),
    )

    pub levels-fit : (ρ : Rule) → Memᴰ ρ ρs → Fits (λ y. level n ρs y - 1) (name ρ.right) (shape ρ)
    levels-fit ρ m = lower-fits (name ρ.right) (shape ρ) (c.order.inner ρ m) (edge ρ m)

    pub levels_leveled : Leveled n ρs
    levels_leveled =
        record { level = λ x. level n ρs x - 1; small = λ x p. omega (arith, level-some x p, level-few x p); fits = levels-fit }

    -- the depth
    pub level_deep : (x : ℕ) → x < n → level n ρs x ≤ depth n ρs
    level_deep x p = rw (← level-at n ρs x p) (highest-at (levels n ρs) x (rw levels-length p))

    pub depth-met : 1 ≤ n → (x : ℕ) × (x < n) × (depth n ρs ≡ level n ρs x)
    depth-met some = by_case (highest-met (levels n ρs))
      where
        by_case : (depth n ρs ≡ 0) ⊎ ((x : ℕ) × (x < length (levels n ρs)) × (depth n ρs ≡ get_or (levels n ρs) x 0))
            → (x : ℕ) × (x < n) × (depth n ρs ≡ level n ρs x)
        by_case (inl e) = absurd (let f : ⊥ = omega (arith, level_deep 0 some, level-some 0 some) in f)
        by_case (inr r) = let p : r.0 < n = rw levels-length at r.1 in (r.0, p, r.2 ∙ level-at n ρs r.0 p)

    pub depth-some : 1 ≤ n → 1 ≤ depth n ρs
    depth-some some = omega (arith, level_deep 0 some, level-some 0 some)

    pub depth-few : 1 ≤ n → depth n ρs ≤ n
    depth-few some = let m = depth-met some in omega (arith, m.2, level-few m.0 m.1)

pub regular_leveled : (n : ℕ) (ρs : List Rule) → Named n ρs → Regular ρs → Leveled n ρs
regular_leveled n ρs named r = levels_leveled n ρs named (regular_closed ρs r).1
