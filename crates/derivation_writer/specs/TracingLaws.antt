-- Laws of writing the steps of a derivation: its start, a link that stands, a role that gives way to the left side of its rule, and its end.
use mathlib.Core.List.{List, [], ◌∷◌, ◌++◌, append-nil, map-append}
use Rattle.std.proofs.Common.{inl, inr, sym, ap, ap₂, ◌∙◌, add-one, arith, length-append, length-drop, length-set, drop_of_length-le, drop-cons, get_or-set_same, take-suc, take_all, length-take-le}
use Rattle.std.specs.Prelude.{◌≡◌, refl, ℕ, suc, ◌+◌, ◌-◌, ◌*◌, ◌/◌, ◌%◌, ◌<◌, ◌≤◌, get_or, take, drop, set}
use Rattle.std.proofs.Math.Path.{subst}
use Rattle.std.proofs.Math.ListN.{length}
use Rattle.std.proofs.lemmas.List.{length-map}
use Rattle.std.proofs.Math.Seq.{append_snoc}
use Rattle.base.specs.Result.Result.{ok}
use Rattle.roles.specs.Role.{Chain}
use Rattle.derivation_steps.specs.WrittenSteps.{leads}
use Rattle.derivation_steps.specs.LeadsLaws.{leads-same, leads-step}
use Rattle.derivation_charts.specs.Chart.{Found, Splits, Reason, by}
use Rattle.derivation_charts.specs.Chart.Reason.{letter, ruled}
use Rattle.derivation_charts.specs.SplitsLaws.{splits_long}
use Rattle.derivation_charts.specs.ReachingLaws.{forward}
use Rattle.book_questions.specs.RuleTable.{rule_in, entry}
use Rattle.book_questions.specs.RuleTableLaws.{left-length, left_below}
use Rattle.derivation_writer.specs.Pending.{end_of, role_of, roles_of, Below, Tiles, left_over}
use Rattle.derivation_writer.specs.Pending.Tiles.{none, more}
use Rattle.derivation_writer.specs.PendingLaws.{tiles_append, tiles-below, left_over_append, tiles_long, left_over-less}
use Rattle.derivation_steps.specs.StepBytes.{StepPut}
use Rattle.derivation_writer.specs.Division.{Divided}
use Rattle.derivation_writer.specs.Tracing.{Ready, Pends, Tracing, Traced, Turned}
use Rattle.derivation_writer.specs.declared.trace.Place.{Place}

-- the first pending role: the end of its part, and the role itself
abbrev top_end : List ℕ → Place → ℕ
top_end pending p = end_of (get_or pending p.top 0)

abbrev top_role : List ℕ → Place → ℕ
top_role pending p = role_of (get_or pending p.top 0)

-- it is found for its part, and those behind it make up the rest
pub record First (roles : ℕ) (w : Chain) (chart pending : List ℕ) (p : Place) : Type 0 where
  pub full : length pending ≡ 16
  pub under : p.top < 16
  pub cons : drop p.top pending ≡ get_or pending p.top 0 ∷ drop (suc p.top) pending
  pub named : top_role pending p < roles
  pub found : Found chart p.link (top_end pending p) (top_role pending p)
  pub behind : Tiles (Below roles (Found chart)) (drop (suc p.top) pending) (top_end pending p) (length w)

pub first : {roles : ℕ} {w : Chain} {chart pending : List ℕ} {p : Place} → p.top < 16 → Pends roles w chart pending p → First roles w chart pending p
first {roles} {w} {chart} {pending} {p} h a = by-tiles (subst (λ (l : List ℕ). Tiles (Below roles (Found chart)) l p.link (length w)) cons a.tiles)
  where
    cons : drop p.top pending ≡ get_or pending p.top 0 ∷ drop (suc p.top) pending
    cons = drop-cons pending p.top 0 (omega (arith, a.size))

    by-tiles : Tiles (Below roles (Found chart)) (get_or pending p.top 0 ∷ drop (suc p.top) pending) p.link (length w) → First roles w chart pending p
    by-tiles (more f t) = record { full = a.size; under = h; cons = cons; named = f.0; found = f.1; behind = t }

-- what is found of the roles in a chart
module _ {table : List ℕ} {w : Chain} {chart : List ℕ} (ready : Ready table w chart) where
  ready-inside : (i j r : ℕ) → Below ready.roles (Found chart) i j r → (i < j) × (j ≤ length w)
  ready-inside i j r h = ready.charted.inside i j r h.0 h.1

  ready-low : (i j r : ℕ) → Below ready.roles (Found chart) i j r → ready.charted.rank i j r < 128
  ready-low i j r h = ready.charted.low i j r h.0 h.1

module _ {table : List ℕ} {w : Chain} {chart : List ℕ} (ready : Ready table w chart) {pending : List ℕ} {p : Place} (f : First ready.roles w chart pending p) where
  pub first-inside : (p.link < top_end pending p) × (top_end pending p ≤ length w)
  first-inside = ready.charted.inside _ _ _ f.named f.found

  behind_long : top_end pending p + (15 - p.top) ≤ length w
  behind_long = omega (arith, tiles_long (length w) (ready-inside ready) f.behind, length-drop (suc p.top) pending, f.full)

  -- the completed rule q gives it, and there is room for its left side
  pub record Given (q : ℕ) : Type 0 where
    pub listed : q / 2 < ready.count
    pub small : q < 512
    pub tabled : 16 * q + 16 ≤ length table
    pub links : get_or table (16 * q + 1) 0 ≤ 8
    pub right : (rule_in table (q / 2) (q % 2)).right ≡ top_role pending p
    pub some : 1 ≤ length (rule_in table (q / 2) (q % 2)).left
    pub named : (k : ℕ) → k < length (rule_in table (q / 2) (q % 2)).left → get_or (rule_in table (q / 2) (q % 2)).left k 0 < ready.roles
    pub splits : Splits (Found chart) (rule_in table (q / 2) (q % 2)).left p.link (top_end pending p)
    pub lower : (s : ℕ) → (rule_in table (q / 2) (q % 2)).left ≡ s ∷ []
        → ready.charted.rank p.link (top_end pending p) s < ready.charted.rank p.link (top_end pending p) (top_role pending p)
    pub room : length (rule_in table (q / 2) (q % 2)).left ≤ p.top + 1

  -- where it is no link itself
  pub given : (q : ℕ) → q ≡ by chart p.link (top_end pending p) (top_role pending p)
      → ((top_end pending p ≡ p.link + 1) × (get_or w p.link 0 ≡ top_role pending p) → ⊥) → Given q
  given q e n = by-reason (ready.charted.reason _ _ _ f.named f.found)
    where
      by-reason : Reason ready.count (rule_in table) ready.roles w chart ready.charted.rank p.link (top_end pending p) (top_role pending p) → Given q
      by-reason (letter a b) = absurd (n (a, b))
      by-reason (ruled r) =
          let listed : q / 2 < ready.count = rw e r.listed in
          let splits : Splits (Found chart) (rule_in table (q / 2) (q % 2)).left p.link (top_end pending p) = rw e r.splits in
          let side : q % 2 ≤ 1 = omega arith in
          let at : entry (q / 2) (q % 2) ≡ 16 * q = omega arith in
          let links = left-length table (q / 2) (q % 2) ready.count ready.roles ready.rules listed side in
          let named = left_below table (q / 2) (q % 2) ready.count ready.roles ready.rules listed side in
          record {
            listed = listed;
            small = omega (arith, ready.rules.few);
            tabled = omega (arith, ready.rules.size);
            links = rw (← at) (ready.rules.most (q / 2) (q % 2) listed side);
            right = rw e r.right;
            some = rw links (ready.rules.some (q / 2) (q % 2) listed side);
            named = named;
            splits = splits;
            lower = rw e r.lower;
            room = omega (arith, splits_long (forward chart (rule_in table (q / 2) (q % 2)).left) splits, behind_long, ready.charted.short, f.under);
          }

-- the steps so far
module _ {table : List ℕ} {w : Chain} {chart : List ℕ} (ready : Ready table w chart) (role : ℕ) (old : List ℕ) where
  -- none, with the role pending for the whole chain
  pub tracing-start : {pending : List ℕ} → role < ready.roles → Found chart 0 (length w) role → length pending ≡ 16
      → drop 15 pending ≡ (128 * length w + role) ∷ [] → Tracing ready role old old pending (record { top = 15; link = 0; step = 0 })
  unfolding leads left_over
  tracing-start {pending} low found size e =
      record {
        pends = record { size = size; few = omega arith; tiles = rw e tiles };
        size = refl;
        kept = λ x h. refl;
        led = rw (e, named) refl;
        bound = rw (e, named, end) (omega (arith, ready.charted.low 0 (length w) role low found, ready.charted.short));
      }
    where
      end : end_of (128 * length w + role) ≡ length w
      end = omega (arith, ready.charted.few)

      named : role_of (128 * length w + role) ≡ role
      named = omega (arith, ready.charted.few)

      tiles : Tiles (Below ready.roles (Found chart)) ((128 * length w + role) ∷ []) 0 (length w)
      tiles = subst (Tiles (Below ready.roles (Found chart)) ((128 * length w + role) ∷ []) 0) end (more (rw named low, rw (end, named) found) none)

  -- all, where no role is pending
  pub tracing-end : {steps pending : List ℕ} {p : Place} → 16 ≤ p.top → Tracing ready role old steps pending p → Traced ready role old steps p.step
  tracing-end {steps} {pending} {p} h a =
      record {
        few = omega (arith, a.bound);
        size = a.size;
        kept = a.kept;
        led = a.led ∙ ap ok (rw over (append-nil (take p.link w) ∙ take_all p.link w (whole (rw over at a.pends.tiles))));
      }
    where
      over : drop p.top pending ≡ []
      over = drop_of_length-le pending {i = p.top} (omega (arith, a.pends.size))

      whole : {i j : ℕ} → Tiles (Below ready.roles (Found chart)) [] i j → j ≤ i
      whole none = omega arith

  module _ {steps pending : List ℕ} {p : Place} (f : First ready.roles w chart pending p) (a : Tracing ready role old steps pending p) where
    abbrev behind : List ℕ
    behind = drop (suc p.top) pending

    abbrev rank : (i j r : ℕ) → ℕ
    rank = ready.charted.rank

    inside : (p.link < top_end pending p) × (top_end pending p ≤ length w)
    inside = first-inside ready f

    -- the bound before, with the first pending role apart
    bound : p.step + (255 * (top_end pending p - p.link - 1) + rank p.link (top_end pending p) (top_role pending p) + left_over rank behind (top_end pending p)) ≤ 3952
    unfolding left_over
    bound = subst (λ (l : List ℕ). p.step + left_over rank l p.link ≤ 3952) f.cons a.bound

    -- links and steps are few
    pub tracing-near : p.step + p.link < 4000
    tracing-near = omega (arith, bound, inside.0, inside.1, ready.charted.short)

    -- it is the next link
    pub tracing-link : (top_end pending p ≡ p.link + 1) × (get_or w p.link 0 ≡ top_role pending p)
        → Tracing ready role old steps pending (record { top = p.top + 1; link = p.link + 1; step = p.step })
    tracing-link e =
        record {
          pends = record {
            size = f.full;
            few = omega (arith, f.under);
            tiles = rw (add-one p.top) (subst (λ (i : ℕ). Tiles (Below ready.roles (Found chart)) behind i (length w)) e.0 f.behind);
          };
          size = a.size;
          kept = a.kept;
          led = a.led ∙ ap ok (ap (λ (l : List ℕ). take p.link w ++ roles_of l) f.cons ∙ shifted);
          bound = rw (add-one p.top) (omega (arith, bound, ap (left_over rank behind) e.0));
        }
      where
        shifted : take p.link w ++ (top_role pending p ∷ roles_of behind) ≡ take (p.link + 1) w ++ roles_of (drop (p.top + 1) pending)
        shifted =
            sym (append_snoc (take p.link w) (top_role pending p) (roles_of behind))
            ∙ rw (add-one p.link, add-one p.top)
            (ap (λ (l : Chain). l ++ roles_of behind) (ap (λ (r : ℕ). take p.link w ++ (r ∷ [])) (sym e.1) ∙ sym (take-suc w p.link 0 (omega (arith, inside.0, inside.1)))))

    -- it gives way to the left side of its rule, by a step more
    pub tracing-rule : (q : ℕ) → Given ready f q → {steps' pending' : List ℕ} {left : Chain} {top : ℕ} → left ≡ (rule_in table (q / 2) (q % 2)).left
        → StepPut steps p.step (record { place = p.link; number = q / 2; side = q % 2 }) steps' → Divided chart left p.link (top_end pending p) pending p.top pending' top
        → Tracing ready role old steps' pending' (record { top = top; link = p.link; step = p.step + 1 })
    tracing-rule q g {steps'} {pending'} {left} {top} e s d =
        record {
          pends = record { size = d.size ∙ f.full; few = omega (arith, d.place, f.under); tiles = rw d.stored tiles };
          size = s.size ∙ a.size;
          kept = λ x h. s.others x (inr (omega arith)) ∙ a.kept x (omega arith);
          led =
              leads-step ready.count (rule_in table) steps' p.step (role ∷ []) (take p.link w) (q / 2) (q % 2) (roles_of behind) g.listed (omega arith)
              short (rw there s.step) (same ∙ (a.led ∙ ap (λ (l : Chain). ok (take p.link w ++ l)) front))
              ∙ ap (λ (l : Chain). ok (take p.link w ++ l)) back;
          bound = rw d.stored (omega (arith, bound, less, left_over_append rank parts behind));
        }
      where
        parts : Tiles (Below ready.roles (Found chart)) d.pairs p.link (top_end pending p)
        parts = tiles-below (rw (d.named, e) g.named) d.tiles

        tiles : Tiles (Below ready.roles (Found chart)) (d.pairs ++ behind) p.link (length w)
        tiles = tiles_append parts f.behind

        many : length d.pairs ≡ length left
        many = sym (length-map d.pairs role_of) ∙ ap length d.named

        there : length (take p.link w) ≡ p.link
        there = length-take-le p.link w (omega (arith, inside.0, inside.1))

        same : leads ready.count (rule_in table) steps' 0 p.step (role ∷ []) ≡ leads ready.count (rule_in table) steps 0 p.step (role ∷ [])
        same = leads-same ready.count (rule_in table) steps' steps 0 p.step (role ∷ []) (λ x _ h. s.others x (inl (omega arith)))

        front : roles_of (drop p.top pending) ≡ (rule_in table (q / 2) (q % 2)).right ∷ roles_of behind
        front = ap roles_of f.cons ∙ ap (λ (r : ℕ). r ∷ roles_of behind) (sym g.right)

        back : (rule_in table (q / 2) (q % 2)).left ++ roles_of behind ≡ roles_of (drop top pending')
        back =
            sym
            (ap roles_of d.stored
            ∙ (map-append role_of d.pairs behind ∙ ap (λ (l : Chain). l ++ roles_of behind) (d.named ∙ e)))

        short : length (take p.link w) + length (rule_in table (q / 2) (q % 2)).left + length (roles_of behind) ≤ 16
        short =
            omega (
              arith,
              there,
              ap length e,
              many,
              length-map behind role_of,
              length-append d.pairs behind,
              tiles_long (length w) (ready-inside ready) tiles,
              ready.charted.short,
            )

        less : left_over rank d.pairs p.link
            < 255 * (top_end pending p - p.link - 1) + rank p.link (top_end pending p) (top_role pending p)
        less =
            left_over-less (length w) (ready-inside ready) rank (ready-low ready) (top_role pending p) parts
            (omega (arith, many, ap length e, g.some)) (λ r h. g.lower r (sym (d.named ∙ e) ∙ h))

-- one turn, for all that may have been traced
module _ {table : List ℕ} {w : Chain} {chart steps pending : List ℕ} {p : Place} (h : p.top < 16) where
  pub turned-link : (top_end pending p ≡ p.link + 1) × (get_or w p.link 0 ≡ top_role pending p)
      → Turned table w chart steps pending p steps pending (record { top = p.top + 1; link = p.link + 1; step = p.step })
  turned-link e = record { onward = omega arith; tracing = λ ready role old a. tracing-link ready role old (first h a.pends) a e }

  pub turned-rule : (q : ℕ) → q ≡ by chart p.link (top_end pending p) (top_role pending p)
      → ((top_end pending p ≡ p.link + 1) × (get_or w p.link 0 ≡ top_role pending p) → ⊥)
      → {steps' pending' : List ℕ} {left : Chain} {top : ℕ} → left ≡ (rule_in table (q / 2) (q % 2)).left
      → StepPut steps p.step (record { place = p.link; number = q / 2; side = q % 2 }) steps' → Divided chart left p.link (top_end pending p) pending p.top pending' top
      → Turned table w chart steps pending p steps' pending' (record { top = top; link = p.link; step = p.step + 1 })
  turned-rule q e n l s d =
      record {
        onward = omega arith;
        tracing = λ ready role old a. let f = first h a.pends in tracing-rule ready role old f a q (given ready f q e n) l s d;
      }

-- one role pending, in the last place
pub last-pending : (pending : List ℕ) (p : ℕ) → length pending ≡ 16 → drop 15 (set pending 15 p) ≡ p ∷ []
last-pending pending p size =
    drop-cons (set pending 15 p) 15 0 (simp length-set (omega arith))
    ∙ ap₂ ◌∷◌ (get_or-set_same pending 15 p 0 (omega arith)) (drop_of_length-le (set pending 15 p) {i = 16} (simp length-set (omega arith)))
