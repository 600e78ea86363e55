-- The gathering of the order as a loop runs it, rule by rule, and what a book that passes causes 1 to 8 is.
use Rattle.std.specs.Prelude.{Bool, true, false, not, List, [], ◌∷◌, ◌≡◌, ℕ, suc, ◌+◌, ◌<◌, ◌≤◌, length, get_or, take, drop}
use Rattle.std.proofs.Math.Path.{refl}
use Rattle.std.proofs.Common.{sym, ap, ◌∙◌, add-one, drop_of_length-le, take_all, drop-cons}
use Rattle.std.proofs.Math.Seq.{take-suc}
use Rattle.roles.specs.Rule.{Rule, Book}
use Rattle.order.specs.Closure.{no_order, with_rule, clashes}
use Rattle.order.specs.ClosureLaws.{Closed, closed_none, closed_with}
use Rattle.order.specs.Regular.{Regular}
use Rattle.base.specs.Result.{Result, and_then, map_result}
use Rattle.base.specs.Result.Result.{refused, ok}
use Rattle.base.specs.ResultLaws.{refused-ok, ok_injective, and_then_assoc, demand-rest, map_refused}
use Rattle.book_format.specs.Format.{decode, distinct_book, read}
use Rattle.book_format.specs.ReadLaws.{rules-some}
use Rattle.book_causes.specs.Ordered.{order_from, order_book, ordered, Judged}
use Rattle.book_causes.specs.Ordered.Judged.{has_order, none}
use Rattle.book_causes.specs.OrderedLaws.{judged}

-- the first k rules gave an order, and the whole gathering is the one from rule k on
pub record Gathering (b : Book) (k : ℕ) (lower : ℕ → ℕ → Bool) : Type 0 where
  pub closed : Closed (take k b.rules) lower
  pub rest : order_from b no_order 0 b.rules ≡ order_from b lower k (drop k b.rules)

pub gathering_start : (b : Book) → Gathering b 0 no_order
gathering_start b = record { closed = closed_none; rest = refl }

module _ (b : Book) (k : ℕ) (lower : ℕ → ℕ → Bool) (g : Gathering b k lower) where
  module _ (h : k < length b.rules) (ρ : Rule) (e : get_or b.rules k ρ ≡ ρ) where
    next : order_from b no_order 0 b.rules ≡ order_from b lower k (ρ ∷ drop (suc k) b.rules)
    next = g.rest ∙ ap (order_from b lower k) (drop-cons b.rules k ρ h ∙ ap (λ (σ : Rule). σ ∷ drop (suc k) b.rules) e)

    pub gathering_next : (ρ.left ≡ [] → ⊥) → clashes lower ρ ≡ false → Gathering b (k + 1) (with_rule lower ρ)
    unfolding order_from
    gathering_next some extends =
        record {
          closed = rw (add-one, take-suc b.rules k ρ h, e) (closed_with (take k b.rules) lower g.closed ρ some extends);
          rest = next ∙ rw (extends, add-one) refl;
        }

    pub gathering_clash : clashes lower ρ ≡ true → order_from b no_order 0 b.rules ≡ refused 8 k
    unfolding order_from
    gathering_clash clash = next ∙ rw clash refl

  module _ (h : length b.rules ≤ k) where
    pub gathering_end : order_from b no_order 0 b.rules ≡ ok b
    unfolding order_from
    gathering_end = g.rest ∙ rw (drop_of_length-le b.rules h) refl

    pub gathering_closed : Closed b.rules lower
    gathering_closed = rw (take_all k b.rules h) at g.closed

-- causes 1 to 8, for a well-formed book
ordered_then : (s : List ℕ) → ordered s ≡ and_then (read s) order_book
unfolding ordered read
ordered_then s = sym (and_then_assoc (decode s) distinct_book order_book)

pub ordered-from : (s : List ℕ) (b : Book) → read s ≡ ok b → ordered s ≡ order_book b
ordered-from s b h = ordered_then s ∙ rw h refl

pub ordered-judged : (s : List ℕ) (b : Book) → read s ≡ ok b → Judged b (ordered s)
ordered-judged s b h = rw (ordered-from s b h) (judged b (rules-some s b h))

-- cause 8 keeps the book
order-keeps : (b : Book) (lower : ℕ → ℕ → Bool) (k : ℕ) (ρs : List Rule) (d : Book) → order_from b lower k ρs ≡ ok d → b ≡ d
unfolding order_from
order-keeps b lower k [] d h = ok_injective b d h
order-keeps b lower k (ρ ∷ ρs) d h =
    order-keeps b (with_rule lower ρ) (suc k) ρs d
    (demand-rest (not (clashes lower ρ)) 8 k (order_from b (with_rule lower ρ) (suc k) ρs) d h)

pub ordered-read : (s : List ℕ) (b : Book) → ordered s ≡ ok b → read s ≡ ok b
ordered-read s b h = by_result (read s) (sym (ordered_then s) ∙ h)
  where
    by_result : (r : Result Book) → and_then r order_book ≡ ok b → r ≡ ok b
    by_result (refused c v) e = absurd (refused-ok c v b e)
    by_result (ok d) e = ap ok (order-keeps d no_order 0 d.rules b e)

-- what causes 1 to 7 refuse is refused so
pub ordered-refused : {A : Type 0} (f : Book → A) (s : List ℕ) {c v : ℕ} → refused c v ≡ map_result f (read s) → ordered s ≡ refused c v
ordered-refused f s h = ordered_then s ∙ rw (map_refused f (read s) h) refl

-- a book that passes has a regular order
pub ordered_regular : (s : List ℕ) (b : Book) → ordered s ≡ ok b → Regular b.rules
ordered_regular s b h = by_judgement (ordered s) (ordered-judged s b (ordered-read s b h)) h
  where
    by_judgement : (r : Result Book) → Judged b r → r ≡ ok b → Regular b.rules
    by_judgement _ (has_order g) e = g
    by_judgement _ (none k q front missing) e = absurd (refused-ok 8 k b e)
