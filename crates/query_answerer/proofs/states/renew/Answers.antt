-- `renew` meets its contract: the stamps are cleared, and what is behind them stays.
use borrow.Rule.Slice.PartMut.{put_mid}
use Rattle.std.proofs.Common.{rules, arith, List, ◌≡◌, ℕ, ◌+◌, ◌*◌, ◌<◌, ◌≤◌, length, get_or, refl}
use Rattle.std.proofs.lemmas.List.{places}
use Rattle.std.proofs.lemmas.Slice.{drop-put_mid}
use Rattle.query_simulation.specs.States.{Renewed}
use Rattle.query_answerer.proofs.states.renew.Goals as goal

module _ (room a k : ℕ) (s ys : List ℕ) (at : a ≡ 2 * room) (size : k ≡ room) (low : room ≤ 2048) (fits : 3 * room ≤ length s) (filled : length ys ≡ k)
    (zeros : (j : ℕ) → j < k → get_or ys j 0 ≡ 0) where
  same : length (put_mid a k s ys) ≡ length s
  same = grind (arith, places)

  zero_at : (q : ℕ) → q < room → get_or (put_mid a k s ys) (2 * room + q) 0 ≡ 0
  zero_at q l = grind (arith, places, zeros q)

  cleared : Renewed room s (put_mid a k s ys) 1
  cleared =
      record {
        small = omega arith;
        unused = record { low = low; size = omega (arith, same); older = λ q l. omega (arith, zero_at q l) };
        behind = record { same = same; rest = drop-put_mid a k s ys (3 * room) (omega arith) (omega arith) filled };
      }

pub returns : goal.returns
returns c = cleared 2048 4096 2048 c.args.space.now c.fill.new.self refl refl (omega arith) (omega (arith, c.requires.size)) (search rules) (search rules)
