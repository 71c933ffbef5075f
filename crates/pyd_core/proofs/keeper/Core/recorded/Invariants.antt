-- The numbers so far, and then those of the nodes that are left, are all.
use Rattle.std.proofs.Common.{◌≡◌, ◌++◌, drop, is_some}
use Rattle.pyd_lineage.specs.Marking.{numbers_where}
use Rattle.pyd_desk.specs.Reading.{outcome_at}
use Rattle.pyd_core.specs.Placing.{recorded_numbers}
use Rattle.pyd_core.proofs.keeper.Core.recorded.Given as goal

abbrev pub invariant-loop-node : goal.invariant-loop-node
invariant-loop-node l =
    l.numbers.items
    ++ numbers_where (λ n. is_some (outcome_at l.self.desk n.id)) (drop l.node-index l.node-items)
    ≡ recorded_numbers l.self
