-- The text of nodes, in UTF-8: a line for each.
use Rattle.std.specs.Prelude.{ℕ, List, [], ◌∷◌, ◌++◌, Option, Some, None, codes, decimal, encode_utf8_all}
use Rattle.std.specs.List.{flat_map, slice_get}
use Rattle.pyd_text.specs.Texts.{repr}
use Rattle.pyd_scope.specs.declared.routine.Routine.{Routine}
use Rattle.pyd_ir.specs.declared.arg.Arg.{Arg}
use Rattle.pyd_ir.specs.declared.arg.Arg.TheVariants.{Known, From, Slot, Unbound}
use Rattle.pyd_ir.specs.declared.arg.Ref.{Ref}
use Rattle.pyd_ir.specs.declared.work.Work.{Work}
use Rattle.pyd_ir.specs.declared.work.Work.TheVariants.{Op, Read, Call, Stop, Print, Run, Cond, While, For, Pick, Enter}
use Rattle.pyd_ir.specs.declared.node.Node.{Node}
use Rattle.pyd_ir.specs.Arguments.{arguments, control}
use Rattle.pyd_graph.specs.Names.{operator_name, fault_name}

-- the name of a routine, and what is unbound where there is none
abbrev pub name_in : Option Routine → List ℕ
name_in (Some routine) = encode_utf8_all routine.name
name_in None = codes "?"

-- the name of the function with this number among the routines
abbrev pub function_name : List Routine → ℕ → List ℕ
function_name routines func = name_in (slice_get routines func)

-- what a node does, in a word, with the function that is called or the fault that comes
abbrev pub word : List Routine → Work → List ℕ
word routines (Op op args) = operator_name op
word routines (Read arg kind) = codes "Read"
word routines (Call func args) = codes "Call " ++ function_name routines func
word routines (Stop fault) = codes "Stop " ++ fault_name fault
word routines (Print args) = codes "Print"
word routines (Run func args) = codes "Run " ++ function_name routines func
word routines (Cond test stmt arm rest env) = codes "Cond"
word routines (While test stmt turns rest env) = codes "While"
word routines (For over stmt turns rest env) = codes "For"
word routines (Pick test first second env) = codes "Pick"
word routines (Enter func args) = codes "Enter " ++ function_name routines func

-- a control alone, and all arguments where there is none
abbrev pub alone_or_all : Option Arg → List Arg → List Arg
alone_or_all (Some control) args = control ∷ []
alone_or_all None args = args

-- the arguments that are written: of a composite but Enter its control alone
abbrev pub written : Work → List Arg
written work = alone_or_all (control work) (arguments work)

-- a port of a node
abbrev pub port_text : Ref → List ℕ
port_text r = codes "#" ++ (decimal r.node ++ (codes "." ++ decimal r.port))

-- an argument: the `repr` of a value that is known, a port, or what is unbound
abbrev pub argument_text : Arg → List ℕ
argument_text (Known v) = encode_utf8_all (repr v)
argument_text (From r) = port_text r
argument_text (Slot r) = port_text r
argument_text Unbound = codes "?"

-- an argument behind a space
abbrev pub field_text : Arg → List ℕ
field_text a = codes " " ++ argument_text a

-- arguments, each behind a space
abbrev pub fields_text : List Arg → List ℕ
fields_text args = flat_map field_text args

-- what a node does, and the arguments that are written
abbrev pub work_text : List Routine → Work → List ℕ
work_text routines work = word routines work ++ fields_text (written work)

-- the line of a node with its end: its number, its line and what it does, divided by single spaces
abbrev pub line_text : List Routine → Node → List ℕ
line_text routines n =
    decimal n.id ++ (codes " " ++ (decimal n.line ++ (codes " " ++ (work_text routines n.work ++ codes "\n"))))

-- the lines of nodes
abbrev pub nodes_text : List Routine → List Node → List ℕ
nodes_text routines nodes = flat_map (line_text routines) nodes
