-- The node isn't among those so far.
use Rattle.std.proofs.Common.{◌≡◌, drop}
use Rattle.pyd_runs.specs.Records.{node_at}
use Rattle.pyd_here.proofs.acting.place_of.Given as goal

abbrev pub invariant-loop-at : goal.invariant-loop-at
invariant-loop-at l = node_at (drop l.at l.nodes) l.number ≡ node_at l.nodes l.number
