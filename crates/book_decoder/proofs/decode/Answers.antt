-- `decode` meets its contract: each check's answer settles one test of the definition.
use mathlib.Core.List.{[]}
use mathlib.Core.Path.{sym, ap, ◌∙◌}
use lib.ListN.{drop}
use Rattle.book_decoder.specs.Verdict.{header_of}
use Rattle.refusals.specs.Check.{check-passed, check_failed}
use Rattle.book_format.specs.Format.{rules_from, counts_fit}
use Rattle.book_format.specs.DecodeLaws.{decode-size, decode-mark, decode_version, decode-counts, decode-all}
use Rattle.base.specs.Result.{map_result}
use Rattle.book_header.specs.declared.Header.{Header}
use Rattle.book_decoder.proofs.decode.Goals as goal

pub returns-in_default : goal.returns-in_default
returns-in_default c = sym (ap (map_result header_of) (decode-size _ (check_failed _ _ c.sized.ensures c.in_default.is)))

pub returns-in_default-marked : goal.returns-in_default-marked
returns-in_default-marked c =
    sym (ap (map_result header_of) (decode-mark _ (check-passed _ _ c.sized.ensures c.in-Passed.is) (check_failed _ _ c.marked.ensures c.in_default-marked.is)))

pub returns-in_default-versioned : goal.returns-in_default-versioned
returns-in_default-versioned c =
    sym
    (ap (map_result header_of)
    (decode_version _ (check-passed _ _ c.sized.ensures c.in-Passed.is)
    (check-passed _ _ c.marked.ensures c.in-Passed-marked.is) (check_failed _ _ c.versioned.ensures c.in_default-versioned.is)))

pub returns-in_default-ranged : goal.returns-in_default-ranged
returns-in_default-ranged c =
    sym
    (ap (map_result header_of)
    (decode-counts _ (check-passed _ _ c.sized.ensures c.in-Passed.is)
    (check-passed _ _ c.marked.ensures c.in-Passed-marked.is)
    (check-passed _ _ c.versioned.ensures c.in-Passed-versioned.is)
    (sym (ap (λ (h : Header). counts_fit h.names h.rules) c.declared-header.ensures)
    ∙ check_failed _ _ c.ranged.ensures c.in_default-ranged.is)))

pub returns : goal.returns
returns c =
    let says = c.declared-header.ensures in
    c.decode_rules.ensures
    ∙ ap (λ (h : Header). map_result header_of (rules_from h.names [] h.rules (drop 8 c.args.book.now))) says
    ∙ sym
    (ap (map_result header_of)
    (decode-all _ (check-passed _ _ c.sized.ensures c.in-Passed.is)
    (check-passed _ _ c.marked.ensures c.in-Passed-marked.is)
    (check-passed _ _ c.versioned.ensures c.in-Passed-versioned.is)
    (sym (ap (λ (h : Header). counts_fit h.names h.rules) says) ∙ check-passed _ _ c.ranged.ensures c.in-Passed-ranged.is)))
