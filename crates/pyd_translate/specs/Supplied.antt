-- That what nodes need is there where a walk comes to them.
use Rattle.std.specs.Prelude.{◌≡◌, ℕ, List, [], ◌∷◌, length, IsTrue, Result, Ok, Err}
use Rattle.pyd_value.specs.declared.fault.Fault.{Fault}
use Rattle.pyd_tree.specs.declared.expression.Expr.{Expr}
use Rattle.pyd_tree.specs.declared.file.File.{File}
use Rattle.pyd_names.specs.Binding.{locals}
use Rattle.pyd_meaning.specs.declared.limits.Limits.{Limits}
use Rattle.pyd_meaning.specs.Names.{Names}
use Rattle.pyd_scope.specs.Passages.{Passage}
use Rattle.pyd_ir.specs.declared.arg.Arg.{Arg}
use Rattle.pyd_ir.specs.declared.node.Node.{Node}
use Rattle.pyd_ir.specs.declared.work.Frame.{Frame}
use Rattle.pyd_ir.specs.declared.work.Side.{Side}
use Rattle.pyd_ir.specs.declared.work.Work.{Work}
use Rattle.pyd_ir.specs.declared.work.Work.TheVariants.{Op, Read, Call, Stop, Print, Run, Cond, While, For, Pick, Enter}
use Rattle.pyd_ir.specs.Arguments.{arguments, rest_arguments, side_arguments}
use Rattle.pyd_ir.specs.Inputs.{Given, has_value, have_values}
use Rattle.pyd_translate.specs.Expressions.{expression_unfolds}
use Rattle.pyd_translate.specs.Sides.{side_unfolds}
use Rattle.pyd_translate.specs.Statements.{context}
use Rattle.pyd_translate.specs.Rests.{block_unfolds}
use Rattle.pyd_translate.specs.Walk.{work_ports, give}
use Rattle.pyd_translate.specs.Matching.{AreGiven, HaveValues, AreSlots}

-- there is an argument for each slot of a routine
abbrev pub AreFilled : File → ℕ → List Arg → Type 0
AreFilled file routine env = length env ≡ length (locals file routine)

-- what a node of a routine can't do without: the values of the arguments of a leaf or of a call that is entered, and of the control, the rest and the sides of a composite, which has an argument for each slot; a read needs none
abbrev pub HasNeeds : File → ℕ → Given → Work → Type 0
HasNeeds file routine given (Op op args) = IsTrue (have_values given args)
HasNeeds file routine given (Read arg kind) = Unit {0}
HasNeeds file routine given (Call func args) = IsTrue (have_values given args)
HasNeeds file routine given (Stop fault) = Unit {0}
HasNeeds file routine given (Print args) = IsTrue (have_values given args)
HasNeeds file routine given (Run func args) = IsTrue (have_values given args)
HasNeeds file routine given (Cond test stmt arm rest env) =
    IsTrue (has_value given test) × IsTrue (have_values given (rest_arguments rest))
    × AreFilled file routine env
HasNeeds file routine given (While test stmt turns rest env) =
    IsTrue (has_value given test) × IsTrue (have_values given (rest_arguments rest))
    × AreFilled file routine env
HasNeeds file routine given (For over stmt turns rest env) =
    IsTrue (has_value given over) × IsTrue (have_values given (rest_arguments rest))
    × AreFilled file routine env
HasNeeds file routine given (Pick test first second env) =
    IsTrue (has_value given test) × IsTrue (have_values given (side_arguments first))
    × IsTrue (have_values given (side_arguments second)) × AreFilled file routine env
HasNeeds file routine given (Enter func args) = IsTrue (have_values given args)

-- goes on where there was no fault
abbrev pub WhereGiven : {A : Type 0} → Result A Fault → (A → Type 0) → Type 0
WhereGiven (Ok a) P = P a
WhereGiven (Err f) P = Unit {0}

module _ (file : File) (limits : Limits) where
  -- each node, where the walk comes to it, has what it needs, and its arguments are given by nodes below the next number
  unfoldable pub AreSupplied : ℕ → List Node → Given → Type 0
  AreSupplied next [] given = Unit {0}
  AreSupplied next (n ∷ ns) given =
      AreGiven next given (arguments n.work) × HasNeeds file n.routine given n.work
      × WhereGiven (work_ports file limits n.work n given).result
      (λ ports. AreSupplied next ns (give n.id ports given))

-- the nodes of an expression have what they need, whatever its number names
abbrev pub ExpressionSupply : Type 0
ExpressionSupply = (file : File) (limits : Limits) (routine depth line : ℕ) (e : Expr) (k ids : ℕ)
    (given : Given) (env : List Arg) (names : Names)
    → AreSlots (locals file routine) ids given env names
    → AreSupplied file limits
    (expression_unfolds file e k (context routine depth line env) ids).next
    (expression_unfolds file e k (context routine depth line env) ids).nodes given

-- the nodes of statements and of what goes on behind them have what they need, whatever the numbers in the rest name
abbrev pub BlockSupply : Type 0
BlockSupply = (file : File) (limits : Limits) (routine depth : ℕ) (here : Passage)
    (rest : List Frame) (ids : ℕ) (given : Given) (env : List Arg) (names : Names)
    → HaveValues ids given (rest_arguments rest)
    → AreSlots (locals file routine) ids given env names
    → AreSupplied file limits (block_unfolds file routine depth here rest env ids).next
    (block_unfolds file routine depth here rest env ids).nodes given

-- the nodes of a side have what they need
abbrev pub SideSupply : Type 0
SideSupply = (file : File) (limits : Limits) (routine depth line : ℕ) (s : Side)
    (ids : ℕ) (given : Given) (env : List Arg) (names : Names)
    → HaveValues ids given (side_arguments s)
    → AreSlots (locals file routine) ids given env names
    → AreSupplied file limits (side_unfolds file s (context routine depth line env) ids).next
    (side_unfolds file s (context routine depth line env) ids).nodes given
