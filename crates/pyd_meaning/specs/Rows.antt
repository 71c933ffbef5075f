-- Small expressions and scripts, with all that they do.
use Rattle.std.specs.Prelude.{◌≡◌, ℕ, zero, suc, pos, List, [], ◌∷◌, map, slice_get, codes, Bool, Option, None, Result, if◌then◌else◌}
use Rattle.std.specs.Str.{bytes_eq}
use Rattle.pyd_value.specs.declared.value.Value.{Value, Int}
use Rattle.pyd_value.specs.declared.fault.Fault.{Fault}
use Rattle.pyd_value.specs.declared.fault.End.{End}
use Rattle.pyd_tree.specs.declared.expression.Expr.{Expr}
use Rattle.pyd_tree.specs.declared.expression.Expr.TheVariants as expression
use Rattle.pyd_tree.specs.declared.statement.What.{What}
use Rattle.pyd_tree.specs.declared.statement.Arm.{Arm, roll-Arm}
use Rattle.pyd_tree.specs.declared.statement.Block.{Block, roll-Block}
use Rattle.pyd_tree.specs.declared.statement.Stmt.{Stmt}
use Rattle.pyd_tree.specs.declared.statement.Targets.{Targets}
use Rattle.pyd_tree.specs.declared.file.File.{File}
use Rattle.pyd_tree.specs.declared.file.Func.{Func}
use Rattle.pyd_names.specs.Binding.{module_statements, function}
use Rattle.pyd_names.specs.Resolution.{Resolution, resolved, builtin_named, builtin_or}
use Rattle.pyd_names.specs.Resolution as resolution
use Rattle.pyd_meaning.specs.Evaluation.{Evaluation, prints}
use Rattle.pyd_meaning.specs.declared.limits.Limits.{Limits}
use Rattle.pyd_meaning.specs.Defaults.{default_limits}
use Rattle.pyd_meaning.specs.Names.{Names, no_names, bind}
use Rattle.pyd_meaning.specs.Setting.{place_of, Setting}
use Rattle.pyd_meaning.specs.Expression.{meaning_of}
use Rattle.pyd_meaning.specs.Completion.{Reached}
use Rattle.pyd_meaning.specs.Module.{mean, end_of}

-- an integer literal
abbrev pub number : ℕ → Expr
number n = expression.Lit (Int (pos n))

-- the row's names in a function: x and y are locals, C is the constant 7, f is a function
abbrev pub row_names : List ℕ → Resolution
row_names name =
    if bytes_eq name (codes "x") then resolution.Local
    else if bytes_eq name (codes "y") then resolution.Local
    else if bytes_eq name (codes "C") then resolution.Constant (Int (pos 7))
    else if bytes_eq name (codes "f") then resolution.Function 1
    else builtin_or (builtin_named name) resolution.Unbound

-- the setting of the rows: each call of f prints `f` and gives 0
abbrev pub row_setting : Setting
row_setting = record {
  limits = default_limits;
  routine = 1;
  resolve = row_names;
  calls = λ k args line. prints (codes "f") (Int (pos 0));
}

-- x is 3, and y isn't bound
abbrev pub row_bindings : Names
row_bindings = bind no_names (codes "x") (Int (pos 3))

-- what an expression prints, gives and counts in line 5 of that setting
abbrev pub Gives : Expr → List (List ℕ) → Result Value Fault → ℕ → Type 0
Gives e lines result steps =
    meaning_of row_setting e (place_of 5) row_bindings
    ≡ record { lines = lines; result = result; steps = steps }

-- a statement in its line
abbrev pub statement : ℕ → What → Stmt
statement line what = record { line = line; what = what }

-- a suite
abbrev pub suite : List Stmt → Block
suite statements = roll-Block (record { stmts = statements })

-- an arm with its header's line
abbrev pub arm : ℕ → Expr → List Stmt → Arm
arm line test statements = roll-Arm (record { line = line; test = test; body = suite statements })

-- targets with a comma, and without
abbrev pub targets : Bool → List (List ℕ) → Targets
targets tuple names = record { names = names; tuple = tuple }

-- a function of these parameters
abbrev pub function_of : List (List ℕ) → List Stmt → Func
function_of parameters statements = record {
  line = 1;
  name = codes "f";
  marks = [];
  params = map (λ p. (1, p)) parameters;
  body = suite statements;
}

-- the kinds of a routine's names; any other is a builtin or unbound
abbrev pub named : List (List ℕ × Resolution) → List ℕ → Resolution
named [] name = builtin_or (builtin_named name) resolution.Unbound
named (kind ∷ kinds) name = if bytes_eq kind.0 name then kind.1 else named kinds name

-- a script: its module's statements, its functions, and the kinds of each routine's names
pub record Script : Type 0 where
  pub statements : List Stmt
  pub functions : List Func
  pub kinds : List (List (List ℕ × Resolution))

-- the kinds of the names of routine k
abbrev pub kinds_in : List (List (List ℕ × Resolution)) → ℕ → List (List ℕ × Resolution)
kinds_in [] k = []
kinds_in (kinds ∷ more) zero = kinds
kinds_in (kinds ∷ more) (suc k) = kinds_in more k

-- function k, counted from 1
abbrev pub function_in : List Func → ℕ → Option Func
function_in fs zero = None
function_in fs (suc k) = slice_get fs k

-- a file that is this script
pub record IsScript (file : File) (script : Script) : Type 0 where
  pub statements_are : module_statements file ≡ script.statements
  pub functions_are : (k : ℕ) → function file k ≡ function_in script.functions k
  pub names_are : (k : ℕ) (name : List ℕ) → resolved file k name ≡ named (kinds_in script.kinds k) name

-- the lines, the end and the steps of an evaluation
abbrev pub seen : Evaluation Reached → List (List ℕ) × End × ℕ
seen e = (e.lines, end_of e.result, e.steps)

-- what each file prints that is this script, how it ends, and its steps
abbrev pub Does : Script → Limits → List (List ℕ) → End → ℕ → Type 0
Does script limits lines end steps =
    (file : File) → IsScript file script → seen (mean file limits) ≡ (lines, end, steps)

-- limits
abbrev pub at_most : ℕ → ℕ → Limits
at_most turns depth = record { turns = turns; depth = depth }
