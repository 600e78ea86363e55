-- Properties of chains that stand at states, carried backwards along transitions and so along paths.
use Rattle.std.specs.Prelude.{cond, List, [], ◌∷◌, ◌++◌, ◌≡◌, ℕ, ◌+◌, ◌<◌, ◌≤◌, ltb}
use Rattle.std.proofs.Math.Path.{refl}
use Rattle.std.proofs.Common.{subst, ◌∙◌, arith, lt-ltb, le-ltb}
use Rattle.roles.specs.Role.{Chain}
use Rattle.tables.specs.Tables.{Transition, epsilon, silent}
use Rattle.tables.specs.Path.{Path}
use Rattle.tables.specs.Path.Path.{stop, skip, read}
use Rattle.base.specs.Every.{Every}

-- a property of chains
abbrev pub Property : Type 1
Property = Chain → Type 0

-- equal properties hold of the same chains
pub transfer : {P Q : Property} {w : Chain} → P ≡ Q → P w → Q w
transfer {w} e h = subst (λ (R : Property). R w) e h

-- a chain in two parts
pub data Split (P Q : Property) : Chain → Type 0 where
  split : {u v : Chain} → P u → Q v → Split P Q (u ++ v)

-- one property at each state number below a bound, another from it on
pub glue : ℕ → (ℕ → Property) → (ℕ → Property) → ℕ → Property
glue bound K M x = cond (ltb x bound) (K x) (M x)

-- properties agree at the state numbers from a least one up to a bound
abbrev pub Agree : (K M : ℕ → Property) (least bound : ℕ) → Type 1
Agree K M least bound = (x : ℕ) → least ≤ x → x < bound → K x ≡ M x

pub agree_self : (K : ℕ → Property) (least bound : ℕ) → Agree K K least bound
agree_self K least bound x h k = refl

-- what agrees with glued properties agrees with each on its side
module _ {K : ℕ → Property} (middle : ℕ) (A B : ℕ → Property) {least bound : ℕ} (agree : Agree K (glue middle A B) least bound) where
  pub agree_below : middle ≤ bound → Agree K A least middle
  unfolding glue
  agree_below b x h k = agree x h (omega arith) ∙ rw (lt-ltb x middle k) refl

  pub agree_from : (end : ℕ) → least ≤ middle → end ≤ bound → Agree K B middle end
  unfolding glue
  agree_from end b c x h k = agree x (omega arith) (omega arith) ∙ rw (le-ltb x middle h) refl

-- what holds at the end of a transition holds at its start, with its label in front if that is a letter
pub record Carries (K : ℕ → Property) (m : Transition) : Type 0 where
  pub silently : m.label ≡ epsilon → (w : Chain) → K m.to w → K m.from w
  pub reading : m.label < epsilon → (w : Chain) → K m.to w → K m.from (m.label ∷ w)

module _ (K : ℕ → Property) where
  pub carries_silent : (p q : ℕ) → ((w : Chain) → K q w → K p w) → Carries K (silent p q)
  carries_silent p q f = record { silently = λ e. f; reading = λ h. absurd (omega arith) }

  pub carries_letter : (p a q : ℕ) → a < epsilon → ((w : Chain) → K q w → K p (a ∷ w)) → Carries K (record { from = p; label = a; to = q })
  carries_letter p a q b f = record { silently = λ e. absurd (omega arith); reading = λ h. f }

  pub carried : {ms : List Transition} → Every (Carries K) ms → {p t : ℕ} {w : Chain} → Path ms p w t → K t [] → K p w
  carried c stop k = k
  carried c (skip {p} {q} {w} m path) k = (c (silent p q) m).silently refl w (carried c path k)
  carried c (read {p} {q} {a} {w} h m path) k = (c (record { from = p; label = a; to = q }) m).reading h w (carried c path k)

-- properties fit a fragment at a place i, of a role with the given language: what holds at its initial state has a front part in the
-- language; what may follow its final state holds there; its transitions carry them
pub record Fits (language : Property) (ms : List Transition) (i : ℕ) (after : Property) (K : ℕ → Property) : Type 0 where
  pub entry : (w : Chain) → K i w → Split language after w
  pub exit : (w : Chain) → after w → K (i + 1) w
  pub carry : Every (Carries K) ms
