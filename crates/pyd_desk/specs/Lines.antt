-- The two lists of nodes, and the graphs that they stand for.
use Rattle.std.specs.Prelude.{◌≡◌, ℕ, List, Option, Some, None, drop, take}
use Rattle.pyd_ir.specs.declared.node.Node.{Node}
use Rattle.pyd_runs.specs.Graphs.{Graph}
use Rattle.pyd_runs.specs.Records.{node_at}
use Rattle.pyd_desk.specs.declared.desk.Desk.{Desk}
use Rattle.pyd_desk.specs.declared.desk.Mark.{Mark}
use Rattle.pyd_desk.specs.declared.desk.PortKind.{PortKind}
use Rattle.pyd_desk.specs.declared.desk.PortKind.TheVariants.{One}
use Rattle.pyd_desk.specs.declared.line.Line.{Line}
use Rattle.pyd_desk.specs.Desks.{driver_of, mark_at}
use Rattle.pyd_desk.specs.Works.{port_kind}

-- the settled nodes
abbrev pub past_of : Line → List Node
past_of line = take line.settled line.nodes.items

-- the nodes that aren't settled
abbrev pub chain_of : Line → List Node
chain_of line = drop line.settled line.nodes.items

-- what stands at the ports of a node, if there is one, that gave a value; of one that is gone the value
abbrev pub kind_of : Option Node → PortKind
kind_of None = One
kind_of (Some n) = port_kind n.work

-- each mark tells what stands at the ports of its node
abbrev pub TellsPorts : List Node → List Mark → Type 0
TellsPorts nodes marks = (k : ℕ) → (mark_at marks k).ports ≡ kind_of (node_at nodes k)

-- a graph has these nodes, and the driver these records
pub record IsGraphOf (line : Line) (d : Desk) (g : Graph) : Type 0 where
  pub past : g.past ≡ past_of line
  pub chain : g.chain ≡ chain_of line
  pub driver : g.driver ≡ driver_of d
  pub ports : TellsPorts line.nodes.items d.marks.items
