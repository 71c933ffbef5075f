-- What the nodes that are left name and what the set has are all.
use Rattle.pyd_lineage.specs.Marking.{has}
use Rattle.pyd_lineage.proofs.Sets.{IsOnTheWay}
use Rattle.pyd_lineage.proofs.Walks.{unknown_names}
use Rattle.pyd_lineage.proofs.marking.mark_chain.Given as goal

abbrev pub invariant-loop-node : goal.invariant-loop-node
invariant-loop-node l = IsOnTheWay (unknown_names (has l.known)) l.chain l.node-index l.initial.set l.set
