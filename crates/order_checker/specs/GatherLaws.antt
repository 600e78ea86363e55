-- The gathering over a book's bytes as the loop runs it: the masks after k rules hold the order that these force.
use Rattle.std.specs.Prelude.{Bool, true, false, List, ◌∷◌, ◌≡◌, refl, ℕ, ◌+◌, ◌<◌, ◌≤◌, length}
use Rattle.std.proofs.Common.{sym, ap, ◌∙◌}
use Rattle.std.proofs.lemmas.Bool.{not-true, not-false}
use Rattle.roles.specs.Rule.{Rule, Book}
use Rattle.order.specs.Closure.{no_order, with_rule, clashes}
use Rattle.name_sets.specs.Mask.{Holds}
use Rattle.base.specs.Result.{Result, map_result}
use Rattle.base.specs.Result.Result.{refused, ok}
use Rattle.base.specs.ResultLaws.{refused-ok, ok_injective}
use Rattle.book_format.specs.Format.{named, read}
use Rattle.book_format.specs.Place.{rule_at, whole_at, rule_place}
use Rattle.book_format.specs.DecodeLaws.{decoded}
use Rattle.book_format.specs.ReadLaws.{read-decode, read_whole, read-rule, read_some, read-few_names}
use Rattle.book_causes.specs.Ordered.{ordered}
use Rattle.book_causes.specs.OrderedRun.{Gathering, gathering_start, gathering_next, gathering_clash, gathering_end, gathering_closed, ordered-from, ordered-read}
use Rattle.book_header.specs.declared.Header.{Header}
use Rattle.book_decoder.specs.Verdict.{header_of}
use Rattle.refusals.specs.Check.{check-passed, check_failed}
use Rattle.refusals.specs.declared.check.Check.{Check}
use Rattle.refusals.specs.declared.check.Check.TheVariants.{Passed, Failed}
use Rattle.order_checker.specs.Gather.{Added, GatheredOrder}

-- the masks after k rules
pub record Gathers (s masks : List ℕ) (k : ℕ) : Type 0 where
  pub order : (b : Book) → read s ≡ ok b → (lower : ℕ → ℕ → Bool) × Gathering b k lower × Holds masks lower

pub gathers_start : {s masks : List ℕ} → Holds masks no_order → Gathers s masks 0
gathers_start h = record { order = λ b e. (no_order, gathering_start b, h) }

-- a well-formed book, by its header
pub record Formed (s : List ℕ) (h : Header) : Type 0 where
  book : Book
  reads : read s ≡ ok book
  head : header_of book ≡ h

pub formed : {s : List ℕ} {h : Header} → map_result header_of (read s) ≡ ok h → Formed s h
formed {s} {h} e = by_result (read s) refl e
  where
    by_result : (r : Result Book) → read s ≡ r → map_result header_of r ≡ ok h → Formed s h
    by_result (refused c v) q e = absurd (refused-ok c v h e)
    by_result (ok b) q e = record { book = b; reads = q; head = ok_injective (header_of b) h e }

module _ {s : List ℕ} {h : Header} (f : Formed s h) where
  rules : (b : Book) → read s ≡ ok b → length b.rules ≡ h.rules
  rules b i = ap (λ (x : Book). length x.rules) (ok_injective b f.book (sym i ∙ f.reads)) ∙ ap (λ (x : Header). x.rules) f.head

  names : f.book.names ≡ h.names
  names = ap (λ (x : Header). x.names) f.head

  pub few_names : h.names ≤ 64
  few_names = rw (← names) (read-few_names s f.book f.reads)

  module _ {k : ℕ} (p : k < h.rules) where
    within : (b : Book) (i : read s ≡ ok b) → k < length b.rules
    within b i = rw (rules b i) p

    pub whole-rule : whole_at s (rule_place s k) ≡ true
    whole-rule = read_whole s f.book f.reads k (within f.book f.reads)

    -- rule k, and what adding it answered and left
    module _ {ρ : Rule} (e : ρ ≡ rule_at s (rule_place s k)) where
      pub named_rule : named h.names (ρ.right ∷ ρ.left) ≡ true
      named_rule =
          let d = decoded s f.book (read-decode s f.book f.reads) in
          rw (e, ← names) (d.named k (rw (← d.count) (within f.book f.reads)))

      module _ {masks new : List ℕ} {r : Check} (a : Added ρ masks r new) (g : Gathers s masks k) where
        pub gathers_next : r ≡ Passed → Gathers s new (k + 1)
        gathers_next q = record { order = next }
          where
            next : (b : Book) → read s ≡ ok b → (lower : ℕ → ℕ → Bool) × Gathering b (k + 1) lower × Holds new lower
            next b i =
                let l = g.order b i in
                let t = l.1.closed.order.transitive in
                let extends : clashes l.0 ρ ≡ false = not-true _ (check-passed _ r (a.answer l.0 t l.2) q) in (
                  with_rule l.0 ρ,
                  gathering_next b k l.0 l.1 (within b i) ρ (read-rule s b i k (within b i) ρ e) (read_some s b i k (within b i) ρ e) extends,
                  a.leaves l.0 t l.2 extends,
                )

        pub gathers_clash : r ≡ Failed → refused 8 k ≡ map_result header_of (ordered s)
        gathers_clash q =
            let b = f.book in
            let i = f.reads in
            let l = g.order b i in
            let clash : clashes l.0 ρ ≡ true = not-false _ (check_failed _ r (a.answer l.0 l.1.closed.order.transitive l.2) q) in
            rw (ordered-from s b i, gathering_clash b k l.0 l.1 (within b i) ρ (read-rule s b i k (within b i) ρ e) clash) refl

  pub gathers_end : {masks : List ℕ} {k : ℕ} → h.rules ≤ k → Gathers s masks k
      → (ok h ≡ map_result header_of (ordered s)) × GatheredOrder s (ok h) masks
  gathers_end {k = k} p g = (
    rw passed (sym (ap ok f.head)),
    λ b e. let l = g.order b (ordered-read s b e) in (l.0, gathering_closed b k l.0 l.1 (rw (rules b (ordered-read s b e)) p), l.2),
  )
    where
      passed : ordered s ≡ ok f.book
      passed =
          let l = g.order f.book f.reads in
          ordered-from s f.book f.reads ∙ gathering_end f.book k l.0 l.1 (rw (rules f.book f.reads) p)
