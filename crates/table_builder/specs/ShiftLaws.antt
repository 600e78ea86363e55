-- How far copying transitions has come: those before j are copied.
use Rattle.std.specs.Prelude.{List, ◌∷◌, ◌≡◌, refl, ℕ, suc, ◌+◌, ◌*◌, ◌<◌, ◌≤◌, length, get_or, set, drop}
use Rattle.std.proofs.Common.{sym, ap, ◌∙◌, add-one, arith, length-set, drop_of_length-le, drop-cons, get_or-set_other}
use Rattle.std.proofs.Math.Numerals.{add-two}
use Rattle.std.proofs.lemmas.List.Edits.{sets}
use Rattle.table_builder.specs.Memo.{Copied}

-- three numbers more
sets-three : (n vs : List ℕ) (i k : ℕ) → k + 3 ≤ length vs → sets n i (drop k vs)
    ≡ sets (set (set (set n i (get_or vs k 0)) (i + 1) (get_or vs (k + 1) 0)) (i + 2) (get_or vs (k + 2) 0)) (i + 3) (drop (k + 3) vs)
sets-three n vs i k h =
    let three : k + 3 ≡ suc (suc (suc k)) = omega arith in
    let after : i + 3 ≡ suc (suc (suc i)) = omega arith in
    let split : drop k vs ≡ get_or vs k 0 ∷ get_or vs (suc k) 0 ∷ get_or vs (suc (suc k)) 0 ∷ drop (suc (suc (suc k))) vs =
    drop-cons vs k 0 (omega arith)
    ∙ ap (λ (l : List ℕ). get_or vs k 0 ∷ l) (drop-cons vs (suc k) 0 (omega arith)
    ∙ ap (λ (l : List ℕ). get_or vs (suc k) 0 ∷ l) (drop-cons vs (suc (suc k)) 0 (omega arith))) in
    ap (sets n i) split ∙ rw (three, after, add-one i, add-two i, add-one k, add-two k) refl

module _ (start size count by : ℕ) (m : List ℕ) where
  pub record Shifting (n : List ℕ) (j : ℕ) : Type 0 where
    pub most : j ≤ size
    pub same : length n ≡ length m
    pub kept : (x : ℕ) → x < 3 * count → get_or n x 0 ≡ get_or m x 0
    pub left : (vs : List ℕ) → Copied start size by m vs → sets n (3 * (count + j)) (drop (3 * j) vs) ≡ sets m (3 * count) vs

module _ {start size count by : ℕ} {m : List ℕ} where
  pub shifting_start : Shifting start size count by m m 0
  shifting_start =
      let e : 3 * (count + 0) ≡ 3 * count = omega arith in
      record { most = omega arith; same = refl; kept = λ x h. refl; left = λ vs c. ap (λ (i : ℕ). sets m i vs) e }

  -- the states of the next transition
  pub shifting_near : {n : List ℕ} {j : ℕ} → Shifting start size count by m n j → start + size ≤ count → j < size
      → ((i : ℕ) → i < size → (get_or m (3 * (start + i)) 0 + by < 65536) × (get_or m (3 * (start + i) + 2) 0 + by < 65536))
      → (get_or n (3 * (start + j)) 0 + by < 65536) × (get_or n (3 * (start + j) + 2) 0 + by < 65536)
  shifting_near {n} {j} s early h near =
      let x : get_or n (3 * (start + j)) 0 ≡ get_or m (3 * (start + j)) 0 = s.kept (3 * (start + j)) (omega arith) in
      let y : get_or n (3 * (start + j) + 2) 0 ≡ get_or m (3 * (start + j) + 2) 0 = s.kept (3 * (start + j) + 2) (omega arith) in
      rw (x, y) (near j h)

  pub shifting_next : {n : List ℕ} {j : ℕ} → Shifting start size count by m n j → start + size ≤ count → j < size
      → {a b c : ℕ} → a ≡ get_or n (3 * (start + j)) 0 + by → b ≡ get_or n (3 * (start + j) + 1) 0 → c ≡ get_or n (3 * (start + j) + 2) 0 + by
      → Shifting start size count by m (set (set (set n (3 * (count + j)) a) (3 * (count + j) + 1) b) (3 * (count + j) + 2) c) (j + 1)
  shifting_next {n} {j} s early h {a} {b} {c} ea eb ec =
      record {
        most = omega arith;
        same = simp length-set s.same;
        kept = λ x l.
            get_or-set_other (set (set n i a) (i + 1) b) (i + 2) x c 0 (λ e. let f : ⊥ = omega arith in f)
            ∙ (get_or-set_other (set n i a) (i + 1) x b 0 (λ e. let f : ⊥ = omega arith in f)
            ∙ (get_or-set_other n i x a 0 (λ e. let f : ⊥ = omega arith in f) ∙ s.kept x l));
        left = λ vs v.
            let p : 3 * (count + (j + 1)) ≡ i + 3 = omega arith in
            let q : 3 * (j + 1) ≡ 3 * j + 3 = omega arith in
            let x : get_or vs (3 * j) 0 ≡ a = v.from j h ∙ (ap (λ (y : ℕ). y + by) (sym (s.kept (3 * (start + j)) (omega arith))) ∙ sym ea) in
            let y : get_or vs (3 * j + 1) 0 ≡ b = v.label j h ∙ (sym (s.kept (3 * (start + j) + 1) (omega arith)) ∙ sym eb) in
            let z : get_or vs (3 * j + 2) 0 ≡ c = v.to j h ∙ (ap (λ (y : ℕ). y + by) (sym (s.kept (3 * (start + j) + 2) (omega arith))) ∙ sym ec) in
            rw (p, q, ← x, ← y, ← z) (sym (sets-three n vs i (3 * j) (omega (arith, v.all)))) ∙ s.left vs v;
      }
    where
      i : ℕ
      i = 3 * (count + j)

  pub shifting_end : {n : List ℕ} {j : ℕ} → Shifting start size count by m n j → size ≤ j → (vs : List ℕ) → Copied start size by m vs → n ≡ sets m (3 * count) vs
  shifting_end {n} {j} s h vs v = rw (drop_of_length-le vs {i = 3 * j} (omega (arith, v.all))) at (s.left vs v)
