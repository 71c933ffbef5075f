-- The numbers so far, and then those of the nodes that are left, are all that is put at the end.
use Rattle.std.proofs.Common.{◌≡◌, ◌++◌, drop}
use Rattle.pyd_lineage.specs.Marking.{numbers_where, is_missed}
use Rattle.pyd_lineage.proofs.lineage.add_missed.Given as goal

abbrev pub invariant-loop-node : goal.invariant-loop-node
invariant-loop-node l =
    l.numbers ++ numbers_where (is_missed l.known l.reached) (drop l.node-index l.nodes)
    ≡ l.initial.numbers ++ numbers_where (is_missed l.known l.reached) l.nodes
