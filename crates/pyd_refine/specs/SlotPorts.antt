-- That the slot ports which nodes name are of composites before them, and that refining keeps this.
use Rattle.std.specs.Prelude.{ℕ, List, ◌∷◌, ◌++◌, Option}
use Rattle.pyd_value.specs.declared.value.Value.{Value}
use Rattle.pyd_tree.specs.declared.file.File.{File}
use Rattle.pyd_meaning.specs.declared.limits.Limits.{Limits}
use Rattle.pyd_ir.specs.declared.node.Node.{Node}
use Rattle.pyd_ir.specs.Arguments.{arguments}
use Rattle.pyd_translate.specs.declared.piece.Piece.{Piece}
use Rattle.pyd_translate.specs.Naming.{Numbers, AreAmong}
use Rattle.pyd_translate.specs.SlotPorts.{ArePortsOf, and_all_slots, HavePorts}
use Rattle.pyd_refine.specs.Composites.{refined_piece}
use Rattle.pyd_refine.specs.Redirecting.{piece_images, replaced_by}
use Rattle.pyd_refine.specs.Ordering.{IsOrdered, LieBelow}

-- each slot port that a piece names, in its nodes and in the place of ports, is one of these nodes', or of a node before it that has slot ports
pub record NamesPorts (slots : Numbers) (p : Piece) : Type 0 where
  pub nodes : HavePorts slots p.nodes
  pub ports : ArePortsOf (and_all_slots slots p.nodes) (piece_images p)

-- the piece of a composite names those that the composite names, or of nodes before them in the piece
abbrev pub PiecePorts : Type 0
PiecePorts = (file : File) (limits : Limits) (node : Node) (chosen : Option Value) (ids : ℕ)
    (known slots : Numbers)
    → LieBelow known ids → AreAmong known (arguments node.work)
    → ArePortsOf slots (arguments node.work)
    → NamesPorts slots (refined_piece file limits node chosen ids)

-- with the piece of a composite in its place, each slot port that a node of the list names is again one of these nodes', or of a node before it that has slot ports
abbrev pub RefinedPorts : Type 0
RefinedPorts = (file : File) (limits : Limits) (known : Numbers) (ids : ℕ) (slots : Numbers)
    (before : List Node) (node : Node) (after : List Node) (chosen : Option Value)
    → LieBelow known ids → IsOrdered known ids (before ++ node ∷ after)
    → HavePorts slots (before ++ node ∷ after)
    → HavePorts slots
    (before ++ replaced_by node.id (refined_piece file limits node chosen ids) after)
