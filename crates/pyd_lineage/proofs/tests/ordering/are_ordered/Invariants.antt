-- The nodes from here on stand in order, before any that may stand behind them.
use Rattle.std.proofs.Common.{List, ◌≤◌, ◌++◌, length, drop}
use Rattle.pyd_ir.specs.declared.node.Node.{Node}
use Rattle.pyd_lineage.specs.Ordered.{AreOrdered}
use Rattle.pyd_lineage.proofs.tests.ordering.are_ordered.Given as goal

abbrev pub invariant-loop-left : goal.invariant-loop-left
invariant-loop-left l = record {
  within : l.left ≤ length l.nodes;
  ordered : (behind : List Node) → AreOrdered l.initial.later behind
      → AreOrdered l.later (drop l.left l.nodes ++ behind);
}

abbrev pub decreases-loop-left : goal.decreases-loop-left
decreases-loop-left l = l.left
