-- On the tables of rules with a regular order, hops over a chain lead from the initial state of a role's name to its final state exactly where the
-- chain binds the role.
use Rattle.std.specs.Prelude.{Bool, ◌↔◌, ◌≡◌, ℕ, suc, ◌+◌, ◌*◌, ◌/◌, ◌%◌, ◌<◌, ◌≤◌, length, get_or}
use mathlib.Core.List.{List, [], Memᴰ}
use Rattle.std.proofs.Common.{inl, inr, arith, eq-eqb, ne_eqb}
use mathlib.Core.Logic.Iff
use Rattle.base.specs.Reflects.{Reflects}
use Rattle.base.specs.Truth.{eq_or_ne}
use Rattle.roles.specs.Role.{Chain, name, polarity, inv}
use Rattle.roles.specs.RoleLaws.{name_below}
use Rattle.roles.specs.Rule.{Rule}
use Rattle.roles.specs.Named.{Named}
use Rattle.networks.specs.Network.{Link, Binds}
use Rattle.networks.specs.ForcedLaws.{forced_entailed}
use Rattle.networks.specs.Trail.{Reached}
use Rattle.networks.specs.TrailLaws.{reached-inverse}
use Rattle.networks.specs.ForcedTrails.{reached-forced, forced-reached}
use Rattle.networks.specs.LaidChain.{laid}
use Rattle.networks.specs.LaidChainLaws.{laid-fits}
use Rattle.networks.specs.BindsLaws.{binds_entailed, entailed_binds}
use Rattle.networks.specs.Saturation.{entailed_forced}
use Rattle.order.specs.Regular.{Regular}
use Rattle.tables.specs.Tables.{initial_states, transitions}
use Rattle.table_correctness.specs.Derivable.{accepted-derives}
use Rattle.table_trails.specs.TableTrails.{Leads, begin, end, TablesBind}
use Rattle.table_trails.specs.TableTrailsLaws.{leads-spelled, spelled-leads}

-- a role is reached from place 0 to the last exactly where its name is reached from where the chain is asked from to where it is asked to
asked-reached : (ρs : List Rule) (r : ℕ) (w : Chain) → Reached ρs (laid w) (2 * name r) (begin r w) (end r w) ↔ Reached ρs (laid w) r 0 (length w)
unfolding name polarity inv begin end
asked-reached ρs r w =
    elim (eq_or_ne (r % 2) 1) [
      | inl p ↦
          let e : inv (2 * (r / 2)) ≡ r = omega arith in
          let f : inv r ≡ 2 * (r / 2) = omega arith in
          rw (eq-eqb (r % 2) 1 p) (λ t. rw e at (reached-inverse t), λ t. rw f at (reached-inverse t))
      | inr p ↦ let e : 2 * (r / 2) ≡ r = omega arith in rw (ne_eqb (r % 2) 1 p, e) Iff.rfl
    ]

module _ (n : ℕ) (ρs : List Rule) (few : n ≤ 64) (named : Named n ρs) (regular : Regular ρs)
    (some : (ρ : Rule) → Memᴰ ρ ρs → ρ.left ≡ [] → ⊥) where
  -- from a name's initial state to its final one, hops lead exactly where the name is reached
  leads-reached : (x : ℕ) → x < n → (ls : List Link) (i j : ℕ)
      → Leads (transitions n ρs) ls (get_or (initial_states n ρs) x 0 + 1) j (get_or (initial_states n ρs) x 0) i ↔ Reached ρs ls (2 * x) i j
  leads-reached x h ls i j = (
    λ s.
        let (v, path, trail) = leads-spelled s in
        record { spelled = v; derived = (accepted-derives n ρs few named regular x h v).0 path; trail = trail },
    λ t. spelled-leads ((accepted-derives n ρs few named regular x h t.spelled).1 t.derived) t.trail,
  )

  module _ (r : ℕ) (w : Chain) (small : r < 2 * n) (roles : (i : ℕ) → i < length w → get_or w i 0 < 2 * n) where
    reached_binds : Reached ρs (laid w) r 0 (length w) ↔ Binds ρs r w
    reached_binds = (
      λ t. entailed_binds ρs r w (forced_entailed ρs (laid w) (reached-forced ρs (laid w) t)),
      λ b.
          forced-reached ρs (laid w)
          (entailed_forced n (suc (length w)) ρs (laid w) named some (laid-fits n w roles) r 0 (length w) (binds_entailed ρs r w b)),
    )

    pub trails_bind : TablesBind (initial_states n ρs) (transitions n ρs) r w ↔ Binds ρs r w
    trails_bind =
        Iff.trans (leads-reached (name r) (name_below r n small) (laid w) (begin r w) (end r w)) (Iff.trans (asked-reached ρs r w) reached_binds)

    -- what says whether the hops lead says whether the chain binds
    pub trails_decide : (b : Bool) → Reflects b (TablesBind (initial_states n ρs) (transitions n ρs) r w) → Reflects b (Binds ρs r w)
    trails_decide b d = record { holds = λ h. trails_bind.0 (d.holds h); fails = λ h t. d.fails h (trails_bind.1 t) }
