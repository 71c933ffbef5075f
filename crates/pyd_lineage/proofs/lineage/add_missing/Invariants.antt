-- The numbers so far, and then those of the nodes that are left, are all that is put at the end.
use Rattle.std.proofs.Common.{◌≡◌, ◌++◌, drop}
use Rattle.pyd_lineage.specs.Marking.{numbers_where, is_missing}
use Rattle.pyd_lineage.proofs.lineage.add_missing.Given as goal

abbrev pub invariant-loop-node : goal.invariant-loop-node
invariant-loop-node l =
    l.numbers ++ numbers_where (is_missing l.known) (drop l.node-index l.nodes)
    ≡ l.initial.numbers ++ numbers_where (is_missing l.known) l.nodes
