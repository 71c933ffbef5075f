-- The numbers so far, and then those of the nodes that are left, are all.
use Rattle.std.proofs.Common.{◌≡◌, ◌++◌, drop}
use Rattle.pyd_lineage.specs.Marking.{numbers_where, is_left_out}
use Rattle.pyd_lineage.proofs.lineage.left_out.Given as goal

abbrev pub invariant-loop-node : goal.invariant-loop-node
invariant-loop-node l =
    l.numbers ++ numbers_where (is_left_out l.reached) (drop l.node-index l.nodes)
    ≡ numbers_where (is_left_out l.reached) l.nodes
