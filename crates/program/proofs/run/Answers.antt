-- Each way to stop is one that the opening or the blocks promise.
use Rattle.program.specs.Ran.Ran.{unwritten}
use Rattle.program.specs.RanLaws.{ran_refused, ran_served}
use Rattle.program.proofs.run.Goals as goal

pub returns-then-is_err : goal.returns-then-is_err
returns-then-is_err g c = unwritten

pub returns-in-None : goal.returns-in-None
returns-in-None g c = ran_refused c.open-opening.ensures c.in-None.is

pub returns-in-Some : goal.returns-in-Some
returns-in-Some g c = ran_served c.open-opening.ensures c.in-Some.is c.serve.ensures
