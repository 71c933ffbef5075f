-- The nodes so far are trimmed.
use Rattle.std.proofs.Common.{drop}
use Rattle.pyd_core.proofs.InRow.{HasTrimmedFirst}
use Rattle.pyd_core.proofs.keeper.Core.trim_all.Given as goal

abbrev pub invariant-loop-node : goal.invariant-loop-node
invariant-loop-node l =
    HasTrimmedFirst l.seat l.nodes (drop l.node-index l.nodes) l.initial.self l.self
