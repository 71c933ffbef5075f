-- What a name stands for in a routine.
use Rattle.std.specs.Prelude.{ℕ, List, [], ◌∷◌, map, codes, Bool, true, false, if◌then◌else◌, Option, Some, None}
use Rattle.std.specs.List.{position_from}
use Rattle.std.specs.Map.{lookup}
use Rattle.pyd_value.specs.declared.value.Value.{Value}
use Rattle.pyd_value.specs.declared.operator.Builtin.{Builtin as BuiltinFunction}
use Rattle.pyd_value.specs.declared.operator.Builtin.TheVariants as builtin
use Rattle.pyd_tree.specs.declared.file.File.{File}
use Rattle.pyd_names.specs.Binding.{same_name, is_among, constants, functions, imported_names, module_variables, locals}

-- a local, a constant, the function with this number, a builtin, an imported name, a module variable seen from a function, or nothing
pub data Resolution : Type 0 where
  Local : Resolution
  Constant : Value → Resolution
  Function : ℕ → Resolution
  Imported : Resolution
  Builtin : BuiltinFunction → Resolution
  Variable : Resolution
  Unbound : Resolution

-- the builtins by their names
abbrev pub builtins : List (List ℕ × BuiltinFunction)
builtins =
    (codes "print", builtin.Print)
    ∷ (codes "len", builtin.Len)
    ∷ (codes "abs", builtin.Abs)
    ∷ (codes "min", builtin.Min)
    ∷ (codes "max", builtin.Max)
    ∷ (codes "sum", builtin.Sum)
    ∷ (codes "str", builtin.Str)
    ∷ (codes "repr", builtin.Repr)
    ∷ (codes "int", builtin.Int)
    ∷ (codes "bool", builtin.Bool)
    ∷ (codes "range", builtin.Range)
    ∷ []

-- the builtin of this name
abbrev pub builtin_named : List ℕ → Option BuiltinFunction
builtin_named name = lookup (same_name name) builtins

-- the value of the constant of this name
abbrev pub constant_named : File → List ℕ → Option Value
constant_named file name = lookup (same_name name) (constants file)

-- the number of the first function of this name, counted from 1
abbrev pub function_named : File → List ℕ → Option ℕ
function_named file name = position_from (same_name name) 1 (map (λ f. f.name) (functions file))

-- a module variable, else unbound
abbrev pub variable_or_unbound : Bool → Resolution
variable_or_unbound true = Variable
variable_or_unbound false = Unbound

-- a builtin, else what follows
abbrev pub builtin_or : Option BuiltinFunction → Resolution → Resolution
builtin_or (Some b) rest = Builtin b
builtin_or None rest = rest

-- a function, else what follows
abbrev pub function_or : Option ℕ → Resolution → Resolution
function_or (Some k) rest = Function k
function_or None rest = rest

-- a constant, else what follows
abbrev pub constant_or : Option Value → Resolution → Resolution
constant_or (Some v) rest = Constant v
constant_or None rest = rest

-- what a name stands for that is no local: a constant, a `def`, an imported name, a builtin, a module variable, or nothing
abbrev pub resolved_outside : File → List ℕ → Resolution
resolved_outside file name =
    constant_or (constant_named file name) (
    function_or (function_named file name) (
    if is_among (imported_names file) name then Imported else
    builtin_or (builtin_named name) (
    variable_or_unbound (is_among (module_variables file) name))))

-- what a name stands for in a routine: a local, else what it is outside
abbrev pub resolved : File → ℕ → List ℕ → Resolution
resolved file routine name = if is_among (locals file routine) name then Local else resolved_outside file name
