-- Regular orders, as in the papers: source document 000, section 2.1, with document 001's variant beside it.
use Rattle.std.specs.Prelude.{Bool, true, ◌↔◌, ◌≡◌, ℕ}
use mathlib.Core.List.{List, [], ◌∷◌, ◌++◌, Memᴰ}
use Rattle.roles.specs.Role.{Chain, inv}
use Rattle.roles.specs.Rule.{Rule}

-- an irreflexive, transitive relation on roles, where s is below r exactly when inv(s) is below inv(r)
pub record RegularOrder {ℓ} (below : ℕ → ℕ → Type ℓ) : Type ℓ where
  pub irreflexive : (r : ℕ) → below r r → ⊥
  pub transitive : (r s t : ℕ) → below r s → below s t → below r t
  pub inverse : (s r : ℕ) → below s r ↔ below (inv s) (inv r)

-- document 001 asks instead that s is below r exactly when inv(s) is below r
pub record RegularOrder001 {ℓ} (below : ℕ → ℕ → Type ℓ) : Type ℓ where
  pub irreflexive : (r : ℕ) → below r r → ⊥
  pub transitive : (r s t : ℕ) → below r s → below s t → below r t
  pub inverse : (s r : ℕ) → below s r ↔ below (inv s) r

-- inner roles of a rule with right role r: one or more, each below r
pub record Inner {ℓ} (below : ℕ → ℕ → Type ℓ) (r : ℕ) (inner : Chain) : Type ℓ where
  pub some : inner ≡ [] → ⊥
  pub lower : (s : ℕ) → Memᴰ s inner → below s r

-- the five forms
pub data Form {ℓ} (below : ℕ → ℕ → Type ℓ) (ρ : Rule) : Type ℓ where
  form1 : Inner below ρ.right ρ.left → Form below ρ
  form2 : (inner : Chain) → ρ.left ≡ ρ.right ∷ inner → Inner below ρ.right inner → Form below ρ
  form3 : (inner : Chain) → ρ.left ≡ inner ++ (ρ.right ∷ []) → Inner below ρ.right inner → Form below ρ
  form4 : ρ.left ≡ ρ.right ∷ ρ.right ∷ [] → Form below ρ
  form5 : ρ.left ≡ inv ρ.right ∷ [] → Form below ρ

-- under the relation each rule has one of the forms
abbrev pub Forms {ℓ} : (ℕ → ℕ → Type ℓ) → List Rule → Type ℓ
Forms below ρs = (ρ : Rule) → Memᴰ ρ ρs → Form below ρ

-- a relation that is given by a test
abbrev pub holds : (ℕ → ℕ → Bool) → ℕ → ℕ → Type 0
holds below s r = below s r ≡ true

-- there is a regular order under which each rule has one of the forms. The relation is one that gives truth values, so that a contract can
-- say this; `Regularity` shows that where there is none, there is none of any other kind either
pub record Regular (ρs : List Rule) : Type 0 where
  pub below : ℕ → ℕ → Bool
  pub order : RegularOrder (holds below)
  pub forms : Forms (holds below) ρs

pub record Regular001 (ρs : List Rule) : Type 0 where
  pub below : ℕ → ℕ → Bool
  pub order : RegularOrder001 (holds below)
  pub forms : Forms (holds below) ρs

-- document 000's least order: s is below r in all regular orders under which each rule has one of the forms
abbrev pub Least : List Rule → ℕ → ℕ → Type 0
Least ρs s r = (below : ℕ → ℕ → Bool) → RegularOrder (holds below) → Forms (holds below) ρs → holds below s r
