-- What was read is answered block after block, and what is kept goes before the next block.
use Rattle.std.proofs.Common.{◌≡◌, ◌-◌, ◌≤◌, length, take}
use Rattle.query_correctness.specs.TrailQuery.{AnsweredByTrails}
use Rattle.transcript_writer.specs.Opened.{heads_in, moves_in}
use Rattle.program.specs.Ran.{Serving}
use Rattle.program.proofs.serve.Given as goal

abbrev pub invariant-loop : goal.invariant-loop
invariant-loop g l = record {
  input : length l.input ≡ 65538;
  out : length l.out ≡ 65536;
  kept : l.kept ≤ length l.input;
  serving : Serving (AnsweredByTrails (heads_in l.tables) (moves_in l.tables)) l.number (take l.kept l.input) l.left (18446744073709551615 - l.counter);
}
