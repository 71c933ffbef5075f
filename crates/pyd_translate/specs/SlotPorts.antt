-- Which nodes the slot ports among arguments belong to.
use Rattle.std.specs.Prelude.{◌≡◌, ℕ, List, [], ◌∷◌, nat_eq, Bool, true, false, ◌&&◌, ◌||◌, Option, Some, None}
use Rattle.pyd_tree.specs.declared.file.File.{File}
use Rattle.pyd_names.specs.Binding.{module_variables}
use Rattle.pyd_ir.specs.declared.arg.Arg.{Arg}
use Rattle.pyd_ir.specs.declared.arg.Arg.TheVariants.{Known, From, Slot, Unbound}
use Rattle.pyd_ir.specs.declared.node.Node.{Node}
use Rattle.pyd_ir.specs.declared.work.Frame.{Frame}
use Rattle.pyd_ir.specs.declared.work.Side.{Side}
use Rattle.pyd_ir.specs.declared.work.Work.{Work}
use Rattle.pyd_ir.specs.declared.work.Work.TheVariants.{Op, Read, Call, Stop, Print, Run, Cond, While, For, Pick, Enter}
use Rattle.pyd_ir.specs.Arguments.{arguments, rest_arguments, side_arguments, is_composite}
use Rattle.pyd_scope.specs.Numbering.{body, start}
use Rattle.pyd_scope.specs.Passages.{Passage}
use Rattle.pyd_translate.specs.Making.{Piece}
use Rattle.pyd_translate.specs.Slots.{unbound_slots}
use Rattle.pyd_translate.specs.Sides.{side_unfolds}
use Rattle.pyd_translate.specs.Statements.{Done, context}
use Rattle.pyd_translate.specs.Rests.{block_unfolds}
use Rattle.pyd_translate.specs.Matching.{AreBelow}
use Rattle.pyd_translate.specs.Naming.{Numbers}

-- whether a node of this work has a port for each slot, as an `if` and a loop has
abbrev pub has_slots : Work → Bool
has_slots (Op op args) = false
has_slots (Read arg kind) = false
has_slots (Call func args) = false
has_slots (Stop fault) = false
has_slots (Print args) = false
has_slots (Run func args) = false
has_slots (Cond test stmt arm rest env) = true
has_slots (While test stmt turns rest env) = true
has_slots (For over stmt turns rest env) = true
has_slots (Pick test first second env) = false
has_slots (Enter func args) = false

-- an argument that is a slot port is one of these nodes'
abbrev pub IsPortOf : Numbers → Arg → Type 0
IsPortOf known (Known v) = Unit {0}
IsPortOf known (From r) = Unit {0}
IsPortOf known (Slot r) = known r.node ≡ true
IsPortOf known Unbound = Unit {0}

-- so are all
abbrev pub ArePortsOf : Numbers → List Arg → Type 0
ArePortsOf known [] = Unit {0}
ArePortsOf known (a ∷ args) = IsPortOf known a × ArePortsOf known args

-- these nodes, and one more if it has slot ports
abbrev pub and_slots : Numbers → Node → Numbers
and_slots known n k = (has_slots n.work && nat_eq k n.id) || known k

-- these, and each of a list that has slot ports
abbrev pub and_all_slots : Numbers → List Node → Numbers
and_all_slots known [] = known
and_all_slots known (n ∷ ns) = and_all_slots (and_slots known n) ns

-- each slot port among the arguments of a node is one of these nodes', or of a node that has slot ports and stands before it
abbrev pub HavePorts : Numbers → List Node → Type 0
HavePorts known [] = Unit {0}
HavePorts known (n ∷ ns) = ArePortsOf known (arguments n.work) × HavePorts (and_slots known n) ns

-- what came of statements: the slots, and the value that was returned
abbrev pub IsDoneOf : Numbers → Option Done → Type 0
IsDoneOf known (Some done) = ArePortsOf known done.env × IsPortOf known done.value
IsDoneOf known None = Unit {0}

-- what came of a value
abbrev pub IsValueOf : Numbers → Option Arg → Type 0
IsValueOf known (Some a) = IsPortOf known a
IsValueOf known None = Unit {0}

-- each slot port among the arguments of nodes, and in what came of them, is one of these nodes', or of one of them that has slot ports and stands before
pub record KeepsPorts {A : Type 0} (known : Numbers) (p : Piece A)
    (IsOf : Numbers → Option A → Type 0) : Type 0 where
  pub nodes : HavePorts known p.nodes
  pub got : IsOf (and_all_slots known p.nodes) p.got

-- the slot ports that the nodes of statements name are those of the slots and the rest, or of composites before them
abbrev pub BlockPorts : Type 0
BlockPorts = (file : File) (routine depth : ℕ) (here : Passage) (rest : List Frame)
    (ids : ℕ) (env : List Arg) (known : Numbers)
    → AreBelow ids (rest_arguments rest) → AreBelow ids env
    → ArePortsOf known (rest_arguments rest) → ArePortsOf known env
    → KeepsPorts known (block_unfolds file routine depth here rest env ids) IsDoneOf

-- those that the nodes of a side name are those of the slots and the side
abbrev pub SidePorts : Type 0
SidePorts = (file : File) (routine depth line : ℕ) (s : Side) (ids : ℕ) (env : List Arg)
    (known : Numbers)
    → AreBelow ids (side_arguments s) → AreBelow ids env
    → ArePortsOf known (side_arguments s) → ArePortsOf known env
    → KeepsPorts known (side_unfolds file s (context routine depth line env) ids) IsValueOf

-- no node
abbrev pub no_numbers : Numbers
no_numbers k = false

-- those that the nodes of a script name are of composites before them
abbrev pub ScriptPorts : Type 0
ScriptPorts = (file : File)
    → HavePorts no_numbers
    (block_unfolds file 0 0 (record { stmts = body file 0; point = start }) []
    (unbound_slots (module_variables file)) 0).nodes

-- no later node names a slot port of a leaf
abbrev pub LeafPorts : Type 0
LeafPorts = (known : Numbers) (n : Node) (ns : List Node)
    → is_composite n.work ≡ false → HavePorts known (n ∷ ns) → HavePorts known ns
