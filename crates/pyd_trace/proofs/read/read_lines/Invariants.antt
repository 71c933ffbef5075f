use Rattle.std.proofs.Common.{◌≡◌, ◌+◌, ◌≤◌, length}
use Rattle.pyd_trace.specs.Guessing.{AreLinesSoFar}
use Rattle.pyd_trace.proofs.read.read_lines.Given as goal

abbrev pub invariant-loop-rest : goal.invariant-loop-rest
invariant-loop-rest l = record {
  so_far : AreLinesSoFar l.lines l.events.items l.rest;
  number : l.number ≡ length l.events.items + 2;
  bound : l.number + length l.rest ≤ length l.lines + 2;
}

abbrev pub decreases-loop-rest : goal.decreases-loop-rest
decreases-loop-rest l = length l.rest
