-- `fresh` meets its contract: a key is one of the first where it has an entry.
use Rattle.std.specs.Prelude.{◌⊎◌, ◌≡◌, ◌<◌, ◌≤◌, not, eqb}
use Rattle.std.proofs.Common.{◌∙◌, ap, inl, inr, arith, eq-eqb}
use Rattle.std.proofs.lemmas.Bool.{ne_eqb}
use Rattle.refusals.specs.Check.{check}
use Rattle.base.specs.Truth.{lt_or_le}
use Rattle.book_reader.specs.Entered.{among}
use Rattle.book_reader.specs.EnteredLaws.{found_among, none-among}
use Rattle.book_reader.proofs.key_lists.fresh.Goals as goal
use Rattle.book_reader.proofs.key_lists.fresh.Goals.{After-find}

by_place : (c : After-find) → (0 < c.find.result) ⊎ (c.find.result ≤ 0) → eqb c.find.result 0 ≡ not (among c.args.keys.now c.args.last c.args.key)
by_place c (inl p) = rw (found_among _ c.find.ensures p) (ne_eqb c.find.result 0 (omega arith))
by_place c (inr p) = rw (none-among _ c.find.ensures (omega arith)) (eq-eqb _ _ (omega arith))

pub returns : goal.returns
returns c = c.from.ensures ∙ ap check (by_place (goal.at.returns c).After-find (lt_or_le 0 c.find.result))
