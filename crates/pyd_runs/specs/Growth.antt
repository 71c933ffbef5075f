-- The graph with a composite's piece in its place.
use Rattle.std.specs.Prelude.{ℕ, Option, Some, None}
use Rattle.pyd_ir.specs.declared.node.Node.{Node}
use Rattle.pyd_ir.specs.Inputs.{Given}
use Rattle.pyd_translate.specs.declared.piece.Piece.{Piece}
use Rattle.pyd_refine.specs.Composites.{refined_piece}
use Rattle.pyd_refine.specs.Redirecting.{replaced}
use Rattle.pyd_refine.specs.Readiness.{control_value}
use Rattle.pyd_runs.specs.Plans.{Plan, limits_of}
use Rattle.pyd_runs.specs.Graphs.{Graph, end_at}
use Rattle.pyd_runs.specs.Desks.{Stores}
use Rattle.pyd_runs.specs.Records.{node_at, recorded}

-- the piece that takes the place of a node, by what is recorded of its control
abbrev pub piece_for : Plan → Given → ℕ → Node → Piece
piece_for p given next n =
    refined_piece p.file (limits_of p) n (control_value given n.work) next

-- the graph with a piece in the place of the node of a number; where no node is left, the run ends
abbrev pub with_piece : Graph → ℕ → Piece → Graph
with_piece g k piece = record g {
  chain = replaced k piece g.chain;
  next = piece.next;
  end = end_at (replaced k piece g.chain);
}

-- the graph with the piece of a node in its place, if it stands in the chain
abbrev pub grown_by : Plan → Given → Graph → ℕ → Option Node → Graph
grown_by p given g k None = g
grown_by p given g k (Some n) = with_piece g k (piece_for p given g.next n)

-- the graph with the piece of the chain's node of a number in its place
unfoldable pub grown : Plan → Stores → ℕ → Graph → Graph
grown p stores k g = grown_by p (recorded g stores) g k (node_at g.chain k)
