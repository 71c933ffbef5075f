use Rattle.std.proofs.Common.{◌≡◌, ◌≤◌, take, drop, length}
use Rattle.pyd_derivation.specs.Reading.{shifts}
use Rattle.pyd_measure.specs.States.{state}
use Rattle.pyd_measure.proofs.measured.read.Given as goal

abbrev pub invariant-loop-i : goal.invariant-loop-i
invariant-loop-i l = record {
  within : l.i ≤ length l.steps;
  tokens : l.at ≤ length l.tokens;
  left : shifts (take l.i l.steps) ≡ l.at;
  known : l.state ≡ state (drop l.i l.steps) (drop l.at l.tokens);
}

abbrev pub decreases-loop-i : goal.decreases-loop-i
decreases-loop-i l = l.i
