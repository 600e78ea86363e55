-- The chain that is asked, link by link: the chain itself or its inverse, and what is read of it.
use Rattle.std.specs.Prelude.{true, false, List, ◌≡◌, ℕ, ◌+◌, ◌*◌, ◌-◌, ◌<◌, ◌≤◌, eqb, length, get_or}
use Rattle.std.proofs.Math.Path.{refl}
use Rattle.std.proofs.Common.{sym, arith}
use Rattle.std.proofs.Math.ListN.{get_or-eq_default}
use Rattle.roles.specs.Role.{Chain, polarity, inv}
use Rattle.roles.specs.RoleLaws.{get_or-inv_chain, length-turn, turn_below}
use Rattle.query_causes.specs.Query.{asked}
use Rattle.base.specs.Reflects.{Reflects}
use Rattle.query_simulation.specs.StatesLaws.{marked_decides}
use Rattle.query_simulation.specs.Reading.{Letters, Leads, Stepped, Read}
use Rattle.query_simulation.specs.ReadingLaws.{read_more, read_decides}

module _ (r : ℕ) (w : Chain) where
  length-asked : length (asked r w) ≡ length w
  unfolding asked
  length-asked = length-turn (eqb (polarity r) 1) w

  pub asked-past : {i : ℕ} → length w ≤ i → get_or (asked r w) i 0 ≡ 0
  asked-past {i} h = get_or-eq_default (asked r w) 0 {n = i} (omega (arith, h, length-asked))

  module _ (i : ℕ) (l : i < length w) where
    pub asked-name : eqb (polarity r) 1 ≡ false → get_or w i 0 ≡ get_or (asked r w) i 0
    unfolding asked
    asked-name h = rw h refl

    pub asked-inverse : eqb (polarity r) 1 ≡ true → inv (get_or w (length w - 1 - i) 0) ≡ get_or (asked r w) i 0
    unfolding asked
    asked-inverse h = rw h (sym (get_or-inv_chain w i l))

    -- its links are letters
    pub asked-letter : Letters w → {a : ℕ} → a ≡ get_or (asked r w) i 0 → a < 128
    unfolding asked
    asked-letter h e = rw e (turn_below 64 (eqb (polarity r) 1) w h.small i l)

    -- one more link is read
    pub read-link : {moves : List ℕ} {room old stamp list p : ℕ} {s : List ℕ} {count : ℕ} {t : List ℕ} {more a : ℕ}
        → Read moves room old list p (asked r w) i s count → a ≡ get_or (asked r w) i 0 → Stepped moves room stamp list a s count t more
        → Read moves room stamp (room - list) p (asked r w) (i + 1) t more
    read-link {p = p} so_far e step = read_more p (asked r w) so_far (rw length-asked l) (rw e at step)

  -- every link is read: the stamp tells
  pub read_asked : {moves : List ℕ} {room stamp list p i : ℕ} {s : List ℕ} {count : ℕ} (u : ℕ) → Read moves room stamp list p (asked r w) i s count → i ≡ length w
      → u < room → Reflects (eqb (get_or s (2 * room + u) 0) stamp) (Leads moves p (asked r w) u)
  read_asked {p = p} {i = i} u all e small =
      let f : i ≡ length (asked r w) = rw length-asked e in
      read_decides p (asked r w) (rw f at all) u (marked_decides all.good u small)
