-- The missing numbers that are left are those of the nodes that are left. The numbers so far, and then
-- those of the nodes that are left, are all.
use Rattle.std.proofs.Common.{◌≡◌, ◌++◌, drop}
use Rattle.pyd_lineage.specs.Marking.{numbers_where}
use Rattle.pyd_runs.specs.Deciding.{may_place}
use Rattle.pyd_core.specs.Cores.{state_of}
use Rattle.pyd_core.specs.Placing.{is_missing, placeable_numbers}
use Rattle.pyd_core.proofs.keeper.Core.placeable_in_line.Given as goal

abbrev pub invariant-loop-node : goal.invariant-loop-node
invariant-loop-node l = record {
  left : l.left ≡ numbers_where (is_missing (state_of l.self)) (drop l.node-index l.node-items);
  numbers : l.numbers.items
      ++ numbers_where (λ n. may_place (state_of l.self) n.id) (drop l.node-index l.node-items)
      ≡ placeable_numbers l.self;
}
