-- `prepare` meets its contract: tables that fit are indexed.
use Rattle.std.proofs.Common.{arith, refl, sym}
use Rattle.query_answerer.specs.BatchLaws.{named_tables, ready_wrong, ready-zeros, ready-fit}
use Rattle.query_answerer.proofs.batch.prepare.Goals as goal

pub fill-requires-clause-fit : goal.fill-requires-clause-fit
fill-requires-clause-fit c = (named_tables _ _ c.in-Some.ensures.0 (λ z. omega (arith, c.in-Some.ensures.1, z))).fit

pub fill-requires-clause-prepared : goal.fill-requires-clause-prepared
fill-requires-clause-prepared c = ready-zeros _ _ c.in-Some.ensures.0 (λ z. omega (arith, c.in-Some.ensures.1, z)) c.requires

pub returns : goal.returns
returns c = ready-fit _ _ c.in-Some.ensures.0 (λ z. omega (arith, c.in-Some.ensures.1, z)) c.fill.ensures

pub returns-in_default : goal.returns-in_default
returns-in_default c = ready_wrong _ _ (sym c.in_default.ensures) refl c.requires
