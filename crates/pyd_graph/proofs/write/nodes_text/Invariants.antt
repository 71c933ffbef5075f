use Rattle.std.proofs.Common.{◌≡◌, take, string_bytes}
use Rattle.pyd_graph.specs.GraphText.{nodes_text}
use Rattle.pyd_graph.proofs.write.nodes_text.Given as goal

abbrev pub invariant-loop-node : goal.invariant-loop-node
invariant-loop-node l = string_bytes l.text ≡ nodes_text l.routines (take l.node-index l.nodes)
