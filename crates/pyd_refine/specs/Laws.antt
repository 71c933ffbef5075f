-- What refining keeps: the lines and the end of the list, and its order; and that it uses up steps.
use Rattle.std.specs.Prelude.{◌≡◌, ℕ, ◌<◌, ◌≤◌, List, [], ◌∷◌, ◌++◌, Option}
use Rattle.pyd_value.specs.declared.value.Value.{Value}
use Rattle.pyd_tree.specs.declared.file.File.{File}
use Rattle.pyd_meaning.specs.declared.limits.Limits.{Limits}
use Rattle.pyd_ir.specs.declared.arg.Arg.{Arg}
use Rattle.pyd_ir.specs.declared.node.Node.{Node}
use Rattle.pyd_ir.specs.Arguments.{arguments}
use Rattle.pyd_ir.specs.Inputs.{Given}
use Rattle.pyd_translate.specs.declared.piece.Piece.{Piece}
use Rattle.pyd_translate.specs.Making as making
use Rattle.pyd_translate.specs.Statements.{Done}
use Rattle.pyd_translate.specs.Starts.{statements_piece}
use Rattle.pyd_translate.specs.Walk.{work_ports, walk}
use Rattle.pyd_refine.specs.Composites.{refined, refined_piece}
use Rattle.pyd_refine.specs.Redirecting.{piece_images, replaced_by, replaced}
use Rattle.pyd_translate.specs.Naming.{Numbers, AreAmong}
use Rattle.pyd_refine.specs.Ordering.{and_nodes, IsOrdered, LieBelow}
use Rattle.pyd_refine.specs.Readiness.{Yields, IsReady, TakesPlace, DoAlike}

-- the numbers of nodes are none below this one
abbrev pub AreFrom : ℕ → List Node → Type 0
AreFrom ids [] = Unit {0}
AreFrom ids (n ∷ ns) = (ids ≤ n.id) × AreFrom ids ns

-- a piece that is numbered from a number on, whose nodes and ports name only what is known or stands before them in it
pub record IsNew (known : Numbers) (ids : ℕ) (p : Piece) : Type 0 where
  pub grown : ids ≤ p.next
  pub numbers : AreFrom ids p.nodes
  pub nodes : IsOrdered known p.next p.nodes
  pub ports : AreAmong (and_nodes known p.nodes) (piece_images p)

-- with the piece in its place the list prints the same lines and ends alike, is in order again, and counts no more steps, and fewer wherever the walk leads to the node
pub record IsReplaced (file : File) (limits : Limits) (known : Numbers) (given : Given)
    (before : List Node) (node : Node) (after : List Node) (p : Piece) : Type 0 where
  pub same :
      DoAlike (walk file limits (before ++ replaced_by node.id p after) given)
      (walk file limits (before ++ node ∷ after) given)
  pub order : IsOrdered known p.next (before ++ replaced_by node.id p after)
  pub no_more :
      (walk file limits (before ++ replaced_by node.id p after) given).steps
      ≤ (walk file limits (before ++ node ∷ after) given).steps
  pub fewer :
      Yields (walk file limits before given) (λ reached.
      (walk file limits (before ++ replaced_by node.id p after) given).steps
      < (walk file limits (before ++ node ∷ after) given).steps)

-- in a list in order, a new piece that does what a node does may take its place
abbrev pub SubstitutionLaw : Type 0
SubstitutionLaw = (file : File) (limits : Limits) (known : Numbers) (ids : ℕ) (given : Given)
    (before : List Node) (node : Node) (after : List Node) (env : List Arg) (p : making.Piece Done)
    → LieBelow known ids → IsOrdered known ids (before ++ node ∷ after)
    → IsNew (and_nodes known before) ids (statements_piece env p)
    → Yields (walk file limits before given) (λ reached.
    TakesPlace file limits ids reached p (work_ports file limits node.work node reached))
    → IsReplaced file limits known given before node after (statements_piece env p)

-- in a list in order, the node of a number is found where it stands
abbrev pub FoundLaw : Type 0
FoundLaw = (known : Numbers) (next : ℕ) (before : List Node) (node : Node) (after : List Node)
    (p : Piece)
    → IsOrdered known next (before ++ node ∷ after)
    → replaced node.id p (before ++ node ∷ after) ≡ before ++ replaced_by node.id p after

-- the piece of a composite that is ready does what the composite does, and counts fewer steps
abbrev pub PieceLaw : Type 0
PieceLaw = (file : File) (limits : Limits) (node : Node) (chosen : Option Value) (ids : ℕ)
    (given : Given)
    → IsReady file ids given node chosen
    → TakesPlace file limits ids given (refined file limits node chosen ids)
    (work_ports file limits node.work node given)

-- the piece of a composite is new, whatever the value of its control is
abbrev pub PieceOrder : Type 0
PieceOrder = (file : File) (limits : Limits) (node : Node) (chosen : Option Value) (ids : ℕ)
    (known : Numbers)
    → LieBelow known ids → AreAmong known (arguments node.work)
    → IsNew known ids (refined_piece file limits node chosen ids)

-- in a list in order, the piece of a composite that is ready wherever the walk leads to it may take its place
abbrev pub RefineLaw : Type 0
RefineLaw = (file : File) (limits : Limits) (known : Numbers) (ids : ℕ) (given : Given)
    (before : List Node) (node : Node) (after : List Node) (chosen : Option Value)
    → LieBelow known ids → IsOrdered known ids (before ++ node ∷ after)
    → Yields (walk file limits before given) (λ reached. IsReady file ids reached node chosen)
    → IsReplaced file limits known given before node after (refined_piece file limits node chosen ids)
