-- The gathered order judges as document 01 asks, and its run as a loop makes it.
use Rattle.std.specs.Prelude.{Bool, true, false, not, ◌≡◌, refl, ℕ, suc, ◌+◌, ◌<◌, ◌≤◌, length, take, drop}
use mathlib.Core.List.{List, [], ◌∷◌, ◌++◌, append-nil, append_assoc, Memᴰ}
use Rattle.std.proofs.Common.{sym, ap, ◌∙◌, subst, arith, take-append-drop, length-append, take_at}
use Rattle.std.proofs.lemmas.List.{take-append-le}
use Rattle.roles.specs.Rule.{Rule, Book}
use Rattle.order.specs.Regular.{Regular}
use Rattle.order.specs.Closure.{no_order, with_rule, clashes}
use Rattle.order.specs.ClosureLaws.{Closed, closed_none, closed_with}
use Rattle.order.specs.Regularity.{closed_regular, clash_irregular, regular_front}
use Rattle.base.specs.Result.{demand}
use Rattle.book_causes.specs.Ordered.{order_from, Judged}
use Rattle.book_causes.specs.Ordered.Judged.{has_order, none}

-- a front part of a front part
regular_take : (ρs τs : List Rule) → Regular ρs → (j : ℕ) → j ≤ length ρs → Regular (take j (ρs ++ τs))
regular_take ρs τs r j h =
    rw (take-append-le j ρs τs h) (regular_front (take j ρs) (drop j ρs) (rw (take-append-drop j ρs) r))

-- from a rule on, where the rules before it gave an order
judged-from : (b : Book) (done rest : List Rule) (lower : ℕ → ℕ → Bool) → Closed done lower → b.rules ≡ done ++ rest
    → ((ρ : Rule) → Memᴰ ρ rest → ρ.left ≡ [] → ⊥) → Judged b (order_from b lower (length done) rest)
unfolding order_from
judged-from b done [] lower c e some = has_order (rw (e, append-nil) (closed_regular done lower c))
judged-from b done (ρ ∷ rest) lower c e some =
    by_test (clashes lower ρ) refl
    (λ (c' : Closed (done ++ (ρ ∷ [])) (with_rule lower ρ)).
    judged-from b (done ++ (ρ ∷ [])) rest (with_rule lower ρ) c' split (λ σ m. some σ (Memᴰ.tail m)))
  where
    split : b.rules ≡ (done ++ (ρ ∷ [])) ++ rest
    split = e ∙ sym (append_assoc done (ρ ∷ []) rest)

    longer : length (done ++ (ρ ∷ [])) ≡ suc (length done)
    longer = length-append done (ρ ∷ []) ∙ (let q : length done + 1 ≡ suc (length done) = omega arith in q)

    front : take (suc (length done)) b.rules ≡ done ++ (ρ ∷ [])
    front = ap (take (suc (length done))) split ∙ take_at (done ++ (ρ ∷ [])) rest (suc (length done)) longer

    fits : length done < length b.rules
    fits = rw e (rw length-append (omega arith))

    by_test : (t : Bool) → clashes lower ρ ≡ t
        → (Closed (done ++ (ρ ∷ [])) (with_rule lower ρ) → Judged b (order_from b (with_rule lower ρ) (length (done ++ (ρ ∷ []))) rest))
        → Judged b (demand (not t) 8 (length done) (order_from b (with_rule lower ρ) (suc (length done)) rest))
    by_test true h next =
        none (length done) fits (λ j p. rw e (regular_take done (ρ ∷ rest) (closed_regular done lower c) j p))
        (λ r. clash_irregular done lower c ρ h (subst Regular front r))
    by_test false h next = rw longer at (next (closed_with done lower c ρ (some ρ (Memᴰ.head refl)) h))

-- a well-formed book is judged as document 01 asks
pub judged : (b : Book) → ((ρ : Rule) → Memᴰ ρ b.rules → ρ.left ≡ [] → ⊥) → Judged b (order_from b no_order 0 b.rules)
judged b some = judged-from b [] b.rules no_order closed_none refl some
