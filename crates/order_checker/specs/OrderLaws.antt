-- The whole answer of the order check: refused with levels of 0, or passed with the levels of the rules.
use Rattle.std.specs.Prelude.{List, ◌≡◌, refl, ℕ, replicate, Ok, Err}
use Rattle.std.proofs.Math.Path.{sym, ap}
use Rattle.std.proofs.Common.{◌∙◌, take_all}
use Rattle.std.proofs.Math.ListN.{length, get_or-replicate}
use Rattle.std.proofs.lemmas.List.{length-replicate}
use Rattle.roles.specs.Rule.{Book}
use Rattle.order_levels.specs.declared.Levels.{Levels}
use Rattle.order_levels.specs.Levels.{LeveledBy, Climbs}
use Rattle.order_masks.specs.MaskLevels.{levels-found, depth-found}
use Rattle.base.specs.Result.{Result, map_result}
use Rattle.base.specs.Result.Result.{ok}
use Rattle.base.specs.ResultLaws.{ok_injective, map_refused, map_ok}
use Rattle.book_format.specs.Format.{read}
use Rattle.book_format.specs.ReadLaws.{read_names, read-few_names}
use Rattle.book_causes.specs.Ordered.{ordered}
use Rattle.book_causes.specs.OrderedRun.{ordered-judged, ordered-read}
use Rattle.book_causes.specs.Accepted.{levels_of, depth_of, count_or_none, written}
use Rattle.book_header.specs.declared.Header.{Header}
use Rattle.refusals.specs.declared.book.BookRefusal.{BookRefusal}
use Rattle.book_decoder.specs.Verdict.{header_of, says}
use Rattle.order_checker.specs.declared.Ordering.{Ordering}
use Rattle.order_checker.specs.Gather.{GatheredOrder, Ordered}

module _ {s : List ℕ} where
  pub order-refused : {x : BookRefusal} → says (Err x) ≡ map_result header_of (ordered s) → Ordered s (Err x)
  order-refused e =
      let o = map_refused header_of (ordered s) e in
      record { verdict = e; judged = ordered-judged s; levels = rw o refl; depth = rw o refl }

  -- levels found by masks, one for each name, that hold the gathered order
  pub order-passed : {h w : Header} → ok h ≡ map_result header_of (ordered s) → ok w ≡ map_result header_of (read s) → (masks : List ℕ) → length masks ≡ w.names → GatheredOrder s (ok h) masks → {l : Levels}
      → Climbs masks l → Ordered s (Ok (record { header = w; levels = l.levels; depth = l.depth }))
  unfolding depth_of
  order-passed {h} {w} r f masks size g {l} found =
      let p = map_ok header_of (ordered s) r in
      let b = p.0 in
      let q = p.1 in
      let i = ordered-read s b q in
      let few = read-few_names s b i in
      let same : length masks ≡ b.names = size ∙ ap (λ (x : Header). x.names) (ok_injective w (header_of b) (f ∙ ap (map_result header_of) i)) in
      let k = g b q in
      let all : LeveledBy masks l.levels l.depth = rw (take_all 64 masks (rw same few)) at found in
      record {
        verdict = f ∙ ap (map_result header_of) (i ∙ sym q);
        judged = ordered-judged s;
        levels =
            levels-found b.names b.rules (read_names s b i) few k.1 same k.2 all (replicate 64 0) (length-replicate {A = ℕ} 64 0)
            (λ x p. get_or-replicate {A = ℕ} 64 x 0 0 p)
            ∙ sym (ap (λ (t : Result Book). written t levels_of (replicate 64 0)) q);
        depth = depth-found b.names b.rules (read_names s b i) few k.1 same k.2 all ∙ sym (ap (count_or_none depth_of) q);
      }
