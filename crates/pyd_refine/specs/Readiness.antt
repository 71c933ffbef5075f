-- When a composite may be refined, and when a piece does what it does.
use Rattle.std.specs.Prelude.{◌≡◌, ℕ, ◌<◌, List, [], ◌∷◌, length, Option, Some, None, Result, Ok, Err}
use Rattle.pyd_value.specs.declared.value.Value.{Value}
use Rattle.pyd_value.specs.declared.fault.Fault.{Fault}
use Rattle.pyd_tree.specs.declared.file.File.{File}
use Rattle.pyd_names.specs.Binding.{locals}
use Rattle.pyd_meaning.specs.declared.limits.Limits.{Limits}
use Rattle.pyd_meaning.specs.Evaluation.{Evaluation}
use Rattle.pyd_ir.specs.declared.arg.Arg.{Arg}
use Rattle.pyd_ir.specs.declared.node.Node.{Node}
use Rattle.pyd_ir.specs.declared.work.Frame.{Frame}
use Rattle.pyd_ir.specs.declared.work.Work.{Work}
use Rattle.pyd_ir.specs.declared.work.Work.TheVariants.{Op, Read, Call, Stop, Print, Run, Cond, While, For, Pick, Enter}
use Rattle.pyd_ir.specs.Arguments.{control, rest_arguments, side_arguments}
use Rattle.pyd_ir.specs.Inputs.{Given, value_of}
use Rattle.pyd_ir.specs.Ports.{Ports}
use Rattle.pyd_translate.specs.Making.{Piece}
use Rattle.pyd_translate.specs.Statements.{Done}
use Rattle.pyd_translate.specs.Walk.{walk}
use Rattle.pyd_translate.specs.Matching.{AreBelow, AreGiven, HaveValues, AreAlike, IsReached}
use Rattle.pyd_refine.specs.Redirecting.{image, images}

-- this holds of what an evaluation gives, if it gives anything
abbrev pub Yields : {A : Type 0} → Evaluation A → (A → Type 0) → Type 0
Yields {A} e P = (x : A) → e.result ≡ Ok x → P x

-- the value of an argument that may be missing
abbrev pub value_if_there : Given → Option Arg → Option Value
value_if_there given None = None
value_if_there given (Some a) = value_of given a

-- a value is there
abbrev pub IsThere : Option Value → Type 0
IsThere None = ⊥
IsThere (Some v) = Unit {0}

-- the value of a work's control; an Enter has none
abbrev pub control_value : Given → Work → Option Value
control_value given work = value_if_there given (control work)

-- there is an argument for each slot, and the arguments are given
pub record HasSlots (slots : List (List ℕ)) (ids : ℕ) (given : Given) (env : List Arg) : Type 0 where
  pub count : length env ≡ length slots
  pub all_given : AreGiven ids given env

-- the slots are given, and the rest names nodes below the number
pub record HasRest (slots : List (List ℕ)) (ids : ℕ) (given : Given) (rest : List Frame)
    (env : List Arg) : Type 0 where
  pub filled : HasSlots slots ids given env
  pub below : AreBelow ids (rest_arguments rest)

module _ (file : File) (ids : ℕ) (given : Given) where
  -- a loop's node names nodes below the number by its control
  pub record IsLoopNode (node : Node) (a : Arg) (k : ℕ) (rest : List Frame) (env : List Arg)
      : Type 0 where
    pub over : AreBelow ids (a ∷ [])
    pub goes_on : HasRest (locals file node.routine) ids given rest env

  -- a composite of this work may be refined where this has been given and its control has a value; a leaf may not
  abbrev pub IsReadyFor : Option Value → Work → Node → Type 0
  IsReadyFor chosen (Op op args) node = ⊥
  IsReadyFor chosen (Read arg kind) node = ⊥
  IsReadyFor chosen (Call func args) node = ⊥
  IsReadyFor chosen (Stop fault) node = ⊥
  IsReadyFor chosen (Print args) node = ⊥
  IsReadyFor chosen (Run func args) node = ⊥
  IsReadyFor chosen (Cond test k arm rest env) node =
      IsThere chosen × HasRest (locals file node.routine) ids given rest env
  IsReadyFor chosen (While test k turns rest env) node =
      IsThere chosen × IsLoopNode node test k rest env
  IsReadyFor chosen (For over k turns rest env) node =
      IsThere chosen × IsLoopNode node over k rest env
  IsReadyFor chosen (Pick test first second env) node =
      IsThere chosen × HasSlots (locals file node.routine) ids given env
      × HaveValues ids given (side_arguments first) × HaveValues ids given (side_arguments second)
  IsReadyFor chosen (Enter func args) node = HaveValues ids given args

  -- a composite may be refined where this has been given, and this is the value of its control
  pub record IsReady (node : Node) (chosen : Option Value) : Type 0 where
    pub fields : IsReadyFor chosen node.work node
    pub value : control_value given node.work ≡ chosen

-- what stands in the place of the ports has their values
abbrev pub ArePorts : ℕ → Given → Done → Ports → Type 0
ArePorts next given done ports =
    (port : ℕ) → value_of given (image (images done.env done.value) port) ≡ ports port

-- the walk of a piece that was made from number ids prints and ends as a node does, gives the same at its ports, and counts fewer steps
pub record TakesPlace (file : File) (limits : Limits) (ids : ℕ) (given : Given) (p : Piece Done)
    (node : Evaluation Ports) : Type 0 where
  pub lines : (walk file limits p.nodes given).lines ≡ node.lines
  pub ends :
      AreAlike (walk file limits p.nodes given).result p.got node.result
      (IsReached ids given p.next ArePorts)
  pub fewer : (walk file limits p.nodes given).steps < node.steps

-- two results that are both there, or the same fault
abbrev pub EndAlike : {A B : Type 0} → Result A Fault → Result B Fault → Type 0
EndAlike (Ok x) (Ok y) = Unit {0}
EndAlike (Ok x) (Err f) = ⊥
EndAlike (Err f) (Ok y) = ⊥
EndAlike (Err f) (Err e) = f ≡ e

-- one evaluation prints and ends as another
pub record DoAlike {A B : Type 0} (e : Evaluation A) (m : Evaluation B) : Type 0 where
  pub lines : e.lines ≡ m.lines
  pub ends : EndAlike e.result m.result
