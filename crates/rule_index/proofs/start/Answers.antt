use Rattle.std.specs.Prelude.{List, ◌≡◌, ℕ, ◌+◌, ◌*◌, ◌<◌, ◌≤◌, length, get_or, replicate}
use Rattle.std.proofs.Common.{arith, ◌∙◌}
use Rattle.std.proofs.lemmas.Grind.{common_steps}
use borrow.Rule.Slice.PartMut.{mid_of, put_mid}
use Rattle.rule_index.proofs.start.Goals as goal

-- k numbers from a on are v, and those before them are as they were
module _ (a k v : ℕ) (xs ys : List ℕ) (h : a + k ≤ length xs) (e : ys ≡ replicate (length (mid_of a k xs)) v) where
  same_length : length (put_mid a k xs ys) ≡ length xs
  same_length = grind (arith, common_steps)

  inside : (j : ℕ) → j < k → get_or (put_mid a k xs ys) (a + j) 0 ≡ v
  inside j p = grind (arith, common_steps)

  before : (m : ℕ) → m < a → get_or (put_mid a k xs ys) m 0 ≡ get_or xs m 0
  before m p = grind (arith, common_steps)

pub returns : goal.returns
returns c =
    let none = c.fill.ensures.after (λ y e. e) in
    let clear = c.fill-2.ensures.after (λ y e. e) in
    let t = c.loop-x.invariant in
    let start = c.args.index.now in
    let ix = c.loop-x.index in
    record {
      size = same_length 3712 128 0 ix _ (omega arith) clear ∙ t.size;
      kept = λ m p. before 3712 128 0 ix _ (omega arith) clear m (omega arith) ∙ t.before m (omega arith) ∙ before 3584 64 256 start _ (omega arith) none m p;
      first = λ x p. before 3712 128 0 ix _ (omega arith) clear (3584 + x) (omega arith) ∙ t.before (3584 + x) (omega arith) ∙ inside 3584 64 256 start _ (omega arith) none x p;
      level = λ x p. before 3712 128 0 ix _ (omega arith) clear (3648 + x) (omega arith) ∙ t.levels x (omega arith);
      clear = λ kind x q p. inside 3712 128 0 ix _ (omega arith) clear (64 * kind + x) (omega arith);
    }
