-- When nodes that were made do what an evaluation does.
use Rattle.std.specs.Prelude.{◌≡◌, ℕ, ◌+◌, ◌*◌, ◌≤◌, ◌<◌, suc, List, [], ◌∷◌, length, Option, Some, None, Result, Ok, Err}
use Rattle.pyd_value.specs.declared.value.Value.{Value}
use Rattle.pyd_value.specs.declared.fault.Fault.{Fault}
use Rattle.pyd_tree.specs.declared.file.File.{File}
use Rattle.pyd_meaning.specs.declared.limits.Limits.{Limits}
use Rattle.pyd_meaning.specs.Evaluation.{Evaluation}
use Rattle.pyd_meaning.specs.Names.{Names}
use Rattle.pyd_ir.specs.declared.arg.Arg.{Arg}
use Rattle.pyd_ir.specs.declared.arg.Arg.TheVariants.{Known, From, Slot, Unbound}
use Rattle.pyd_ir.specs.declared.node.Node.{Node}
use Rattle.pyd_ir.specs.Arguments.{arguments}
use Rattle.pyd_ir.specs.Inputs.{Given, value_of}
use Rattle.pyd_translate.specs.Making.{Piece}
use Rattle.pyd_translate.specs.Statements.{Done}
use Rattle.pyd_translate.specs.Walk.{walk, names_of, Finish}

-- an argument names no node from a number on
abbrev pub IsBelow : ℕ → Arg → Type 0
IsBelow ids (Known v) = Unit {0}
IsBelow ids (From r) = r.node < ids
IsBelow ids (Slot r) = r.node < ids
IsBelow ids Unbound = Unit {0}

-- no argument does
abbrev pub AreBelow : ℕ → List Arg → Type 0
AreBelow ids [] = Unit {0}
AreBelow ids (a ∷ args) = IsBelow ids a × AreBelow ids args

-- an argument names a node below a number, and has a value unless it is a slot's
abbrev pub IsGiven : ℕ → Given → Arg → Type 0
IsGiven ids given (Known v) = Unit {0}
IsGiven ids given (From r) = (r.node < ids) × (v : Value) × (given r.node r.port ≡ Some v)
IsGiven ids given (Slot r) = r.node < ids
IsGiven ids given Unbound = Unit {0}

-- all arguments do
abbrev pub AreGiven : ℕ → Given → List Arg → Type 0
AreGiven ids given [] = Unit {0}
AreGiven ids given (a ∷ args) = IsGiven ids given a × AreGiven ids given args

-- nodes that are numbered one after another from a number on, each naming only nodes below its own number
abbrev pub AreNumbered : ℕ → List Node → Type 0
AreNumbered ids [] = Unit {0}
AreNumbered ids (n ∷ ns) = (n.id ≡ ids) × AreBelow ids (arguments n.work) × AreNumbered (suc ids) ns

-- nodes below a number have given the same
abbrev pub IsKept : ℕ → Given → Given → Type 0
IsKept ids before after = (node port : ℕ) → node < ids → after node port ≡ before node port

-- an argument has this value and names a node below a number
abbrev pub HasValue : ℕ → Given → Arg → Value → Type 0
HasValue next given a v = (value_of given a ≡ Some v) × IsBelow next a

-- all arguments have values
abbrev pub HaveValues : ℕ → Given → List Arg → Type 0
HaveValues next given [] = Unit {0}
HaveValues next given (a ∷ args) =
    ((v : Value) × HasValue next given a v) × HaveValues next given args

-- there is an argument for each slot, the arguments are given, and the slots have these names
pub record AreSlots (slots : List (List ℕ)) (next : ℕ) (given : Given) (env : List Arg)
    (names : Names) : Type 0 where
  pub count : length env ≡ length slots
  pub all_given : AreGiven next given env
  pub bound : names_of slots env given ≡ names

-- the slots and the value of a piece are these names and this value
pub record IsFinish (slots : List (List ℕ)) (next : ℕ) (given : Given) (done : Done)
    (fin : Finish) : Type 0 where
  pub env : AreSlots slots next given done.env fin.names
  pub value : HasValue next given done.value fin.value

-- how what came of nodes is related to what an evaluation gave, by the next number and what was given
abbrev pub Relation : Type 0 → Type 0 → Type 1
Relation A B = ℕ → Given → A → B → Type 0

-- two results alike: the same fault, or two results that are related
abbrev pub AreAlike : {A B : Type 0} → Result Given Fault → Option A → Result B Fault
    → (Given → A → B → Type 0) → Type 0
AreAlike (Ok given) (Some a) (Ok b) R = R given a b
AreAlike (Ok given) None (Ok b) R = ⊥
AreAlike (Ok given) got (Err f) R = ⊥
AreAlike (Err f) got (Ok b) R = ⊥
AreAlike (Err f) got (Err e) R = f ≡ e

-- what a walk of a piece that was made from number ids has given, where the piece went on with a and an evaluation gave b
pub record IsReached {A B : Type 0} (ids : ℕ) (before : Given) (next : ℕ) (R : Relation A B)
    (after : Given) (a : A) (b : B) : Type 0 where
  pub grown : ids ≤ next
  pub kept : IsKept ids before after
  pub related : R next after a b

-- the walk of a piece that was made from number ids prints and ends as an evaluation, and counts at most 4 steps for each of its steps and some more
pub record Matches {A B : Type 0} (file : File) (limits : Limits) (more ids : ℕ) (given : Given)
    (p : Piece A) (m : Evaluation B) (R : Relation A B) : Type 0 where
  pub lines : (walk file limits p.nodes given).lines ≡ m.lines
  pub ends :
      AreAlike (walk file limits p.nodes given).result p.got m.result (IsReached ids given p.next R)
  pub steps : (walk file limits p.nodes given).steps ≤ 4 * m.steps + more
