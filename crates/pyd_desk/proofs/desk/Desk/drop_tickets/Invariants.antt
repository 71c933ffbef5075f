-- The tickets of the nodes so far died.
use Rattle.std.proofs.Common.{take}
use Rattle.pyd_desk.specs.Lines.{chain_of}
use Rattle.pyd_desk.specs.Tickets.{IsRidOf}
use Rattle.pyd_desk.proofs.desk.Desk.drop_tickets.Given as goal

abbrev pub invariant-loop-node : goal.invariant-loop-node
invariant-loop-node l =
    IsRidOf (chain_of l.line) (take l.node-index l.line.nodes.items) l.fn.self l.self
