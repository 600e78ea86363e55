use Rattle.std.proofs.Common.{refl, ap, ◌∙◌, ◌*◌, arith, lt-ltb, le-ltb}
use Rattle.std.specs.Prelude.{ltb}
use Rattle.std.specs.List.{list_all}
use Rattle.refusals.specs.Check.{check}
use Rattle.roles.specs.Role.{Chain}
use Rattle.book_format.specs.Format.{named}
use Rattle.book_format.specs.DeclaredLaws.{list_all-named}
use Rattle.book_cursor.specs.Cursor.{entry_rule}
use Rattle.book_cursor.specs.CursorLaws.{entry-part}
use Rattle.book_decoder.proofs.declared.Goals as goal

pub returns-then-names-rule : goal.returns-then-names-rule
unfolding named
returns-then-names-rule c = rw (le-ltb c.args.rule.right (2 * c.args.names) (omega arith)) refl

pub returns : goal.returns
unfolding named
returns c =
    rw (lt-ltb c.args.rule.right (2 * c.args.names) (omega arith))
    (c.from.ensures
    ∙ ap check
    (c.all_below.ensures
    ∙ ap (λ (w : Chain). list_all (λ r. ltb r (2 * c.args.names)) w) (entry-part _ c.args.rule)
    ∙ list_all-named c.args.names (entry_rule c.args.book.now c.args.rule).left))
