-- The node isn't among those so far.
use Rattle.std.proofs.Common.{◌≡◌, drop}
use Rattle.pyd_runs.specs.Records.{node_at}
use Rattle.pyd_desk.proofs.finding.find.Given as goal

abbrev pub invariant-loop-node : goal.invariant-loop-node
invariant-loop-node l =
    node_at (drop l.node-index l.nodes) l.number ≡ node_at l.nodes l.number
