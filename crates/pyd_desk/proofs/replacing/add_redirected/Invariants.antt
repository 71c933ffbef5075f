-- The nodes so far, and then those that are left, are all.
use Rattle.std.proofs.Common.{◌≡◌, ◌++◌, drop, map}
use Rattle.pyd_refine.specs.Redirecting.{redirect_node}
use Rattle.pyd_desk.proofs.replacing.add_redirected.Given as goal

abbrev pub invariant-loop-node : goal.invariant-loop-node
invariant-loop-node l =
    l.nodes.items ++ map (redirect_node l.images.id l.images.ports.now) (drop l.node-index l.more)
    ≡ l.initial.nodes.items ++ map (redirect_node l.images.id l.images.ports.now) l.more
