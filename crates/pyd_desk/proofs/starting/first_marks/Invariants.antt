-- The marks so far, and then those of the nodes that are left, are all.
use Rattle.std.proofs.Common.{◌≡◌, ◌++◌, drop, map}
use Rattle.pyd_desk.specs.Starting.{first_mark}
use Rattle.pyd_desk.proofs.starting.first_marks.Given as goal

abbrev pub invariant-loop-node : goal.invariant-loop-node
invariant-loop-node l =
    l.marks.items ++ map first_mark (drop l.node-index l.nodes) ≡ map first_mark l.nodes
