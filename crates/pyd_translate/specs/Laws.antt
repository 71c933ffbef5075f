-- What the pieces of statements and of sides do, and how their nodes are numbered.
use Rattle.std.specs.Prelude.{◌≡◌, ℕ, ◌+◌, ◌*◌, List, [], ◌++◌, length, drop, Option, Some, None}
use Rattle.pyd_tree.specs.declared.expression.Expr.{Expr}
use Rattle.pyd_tree.specs.declared.file.File.{File}
use Rattle.pyd_names.specs.Binding.{locals, module_variables}
use Rattle.pyd_meaning.specs.declared.limits.Limits.{Limits}
use Rattle.pyd_meaning.specs.Evaluation.{◌>>=◌}
use Rattle.pyd_meaning.specs.Names.{Names}
use Rattle.pyd_meaning.specs.Setting.{place_of}
use Rattle.pyd_meaning.specs.Expression.{meaning_of}
use Rattle.pyd_meaning.specs.Module.{setting_at, mean}
use Rattle.pyd_ir.specs.declared.arg.Arg.{Arg}
use Rattle.pyd_ir.specs.declared.work.Frame.{Frame}
use Rattle.pyd_ir.specs.declared.work.Side.{Side}
use Rattle.pyd_ir.specs.Arguments.{rest_arguments, side_arguments}
use Rattle.pyd_ir.specs.Inputs.{Given}
use Rattle.pyd_translate.specs.Making.{Piece}
use Rattle.pyd_scope.specs.Numbering.{contents, expressions, table, expression_table, body, start}
use Rattle.pyd_translate.specs.declared.at.Start.{Start}
use Rattle.pyd_scope.specs.Passages.{Passage}
use Rattle.pyd_translate.specs.Starts.{passage}
use Rattle.pyd_translate.specs.Slots.{unbound_slots}
use Rattle.pyd_translate.specs.Expressions.{expression_unfolds}
use Rattle.pyd_translate.specs.Sides.{side_unfolds}
use Rattle.pyd_translate.specs.Statements.{Done, context}
use Rattle.pyd_translate.specs.Rests.{block_unfolds}
use Rattle.pyd_translate.specs.Walk.{acts, then_rest, side_meaning}
use Rattle.pyd_translate.specs.Matching.{IsBelow, AreBelow, AreNumbered, HaveValues, HasValue, AreSlots, IsFinish, Matches}

-- these stand in a table from a number on
abbrev pub Stands : {A : Type 0} → List A → ℕ → List A → Type 0
Stands {A} table k xs = (more : List A) × (drop k table ≡ xs ++ more)

-- statements that stand in a routine at their place, with all that stands in them
pub record IsPlaced (file : File) (routine : ℕ) (here : Passage) : Type 0 where
  pub statements :
      Stands (table file routine) here.point.statement
      ((contents here.stmts).table here.point.expression)
  pub expressions :
      Stands (expression_table file routine) here.point.expression
      (contents here.stmts).expressions

-- the statements at each start stand in their routine at their place
abbrev pub StartLaw : Type 0
StartLaw = (file : File) (routine : ℕ) (s : Start) → IsPlaced file routine (passage file routine s)

-- the nodes of an expression that stands in its routine at its number do what it means
abbrev pub ExpressionLaw : Type 0
ExpressionLaw = (file : File) (limits : Limits) (routine depth line : ℕ) (e : Expr) (k ids : ℕ)
    (given : Given) (env : List Arg) (names : Names)
    → Stands (expression_table file routine) k (expressions e)
    → AreSlots (locals file routine) ids given env names
    → Matches file limits 0 ids given
    (expression_unfolds file e k (context routine depth line env) ids)
    (meaning_of (setting_at file limits routine depth) e (place_of line) names) HasValue

-- the nodes of statements and of what goes on behind them do what these mean, and count 2 steps more for each frame
abbrev pub BlockLaw : Type 0
BlockLaw = (file : File) (limits : Limits) (routine depth : ℕ) (here : Passage) (rest : List Frame)
    (ids : ℕ) (given : Given) (env : List Arg) (names : Names)
    → IsPlaced file routine here → AreBelow ids (rest_arguments rest)
    → AreSlots (locals file routine) ids given env names
    → Matches file limits (2 * length rest) ids given
    (block_unfolds file routine depth here rest env ids)
    (acts (setting_at file limits routine depth) here.stmts names
    >>= then_rest file limits routine depth given rest)
    (IsFinish (locals file routine))

-- the nodes of a side do what it means, and count one step more
abbrev pub SideLaw : Type 0
SideLaw = (file : File) (limits : Limits) (routine depth line : ℕ) (s : Side)
    (ids : ℕ) (given : Given) (env : List Arg) (names : Names)
    → HaveValues ids given (side_arguments s)
    → AreSlots (locals file routine) ids given env names
    → Matches file limits 1 ids given (side_unfolds file s (context routine depth line env) ids)
    (side_meaning file limits routine depth given s (place_of line) names) HasValue

-- what came of nodes names only nodes below the next number
abbrev pub IsDoneBelow : ℕ → Option Done → Type 0
IsDoneBelow next (Some done) = AreBelow next done.env × IsBelow next done.value
IsDoneBelow next None = Unit {0}

-- the same of a value
abbrev pub IsValueBelow : ℕ → Option Arg → Type 0
IsValueBelow next (Some a) = IsBelow next a
IsValueBelow next None = Unit {0}

-- nodes are numbered one after another from a number on, and each names only nodes before it
pub record IsInOrder {A : Type 0} (ids : ℕ) (p : Piece A) (IsLow : ℕ → Option A → Type 0)
    : Type 0 where
  pub nodes : AreNumbered ids p.nodes
  pub next : p.next ≡ ids + length p.nodes
  pub got : IsLow p.next p.got

-- the nodes of statements are numbered in order, whatever the numbers in the rest name
abbrev pub BlockOrder : Type 0
BlockOrder = (file : File) (routine depth : ℕ) (here : Passage) (rest : List Frame)
    (ids : ℕ) (env : List Arg)
    → AreBelow ids (rest_arguments rest) → AreBelow ids env
    → IsInOrder ids (block_unfolds file routine depth here rest env ids) IsDoneBelow

-- the nodes of a side are numbered in order
abbrev pub SideOrder : Type 0
SideOrder = (file : File) (routine depth line : ℕ) (s : Side) (ids : ℕ) (env : List Arg)
    → AreBelow ids (side_arguments s) → AreBelow ids env
    → IsInOrder ids (side_unfolds file s (context routine depth line env) ids) IsValueBelow

-- no node has given anything
abbrev pub nothing_given : Given
nothing_given node port = None

-- the nodes of a script do what it means, and count at most 4 steps for each of its steps
abbrev pub ScriptLaw : Type 0
ScriptLaw = (file : File) (limits : Limits)
    → Matches file limits 0 0 nothing_given
    (block_unfolds file 0 0 (record { stmts = body file 0; point = start }) []
    (unbound_slots (module_variables file)) 0)
    (mean file limits)
    (λ next given done r. AreSlots (module_variables file) next given done.env r.names)
