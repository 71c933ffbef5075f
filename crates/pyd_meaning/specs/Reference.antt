-- What reading a name gives, and what calling one leads to (Python Language Reference, 4.2 and 6.3.4).
use Rattle.std.specs.Prelude.{ℕ, List, Option}
use Rattle.pyd_value.specs.declared.value.Value.{Value}
use Rattle.pyd_value.specs.declared.fault.Kind.TheVariants.{NameError}
use Rattle.pyd_value.specs.declared.operator.Builtin.{Builtin}
use Rattle.pyd_names.specs.Resolution.{Resolution}
use Rattle.pyd_names.specs.Resolution as resolution
use Rattle.pyd_meaning.specs.Evaluation.{Evaluation, gives, ◌>>=◌}
use Rattle.pyd_meaning.specs.Names.{Names}
use Rattle.pyd_meaning.specs.Setting.{Place, Setting, raises, unbound_local, value_or}

-- the value of a name of this kind; functions, builtins and imported names have none
abbrev pub read_as : Resolution → ℕ → Option Value → Place → Evaluation Value
read_as resolution.Local routine value at = value_or value (unbound_local routine) at
read_as (resolution.Constant v) routine value at = gives v
read_as (resolution.Function k) routine value at = raises NameError at
read_as (resolution.Builtin b) routine value at = raises NameError at
read_as resolution.Imported routine value at = raises NameError at
read_as resolution.Variable routine value at = raises NameError at
read_as resolution.Unbound routine value at = raises NameError at

-- the value of a name
abbrev pub read : Setting → List ℕ → Place → Names → Evaluation Value
read setting name at names = read_as (setting.resolve name) setting.routine (names name) at

-- what a called name stands for
pub data Callee : Type 0 where
  Defined : ℕ → Callee
  Given : Builtin → Callee
  Uncallable : Callee

-- a function is found by its name; any other name is read, and no value can be called
abbrev pub callee_as : Resolution → Evaluation Value → Evaluation Callee
callee_as (resolution.Function k) value = gives (Defined k)
callee_as (resolution.Builtin b) value = gives (Given b)
callee_as resolution.Local value = value >>= (λ v. gives Uncallable)
callee_as (resolution.Constant c) value = value >>= (λ v. gives Uncallable)
callee_as resolution.Imported value = value >>= (λ v. gives Uncallable)
callee_as resolution.Variable value = value >>= (λ v. gives Uncallable)
callee_as resolution.Unbound value = value >>= (λ v. gives Uncallable)

-- what a called name stands for, before its arguments are evaluated
abbrev pub callee : Setting → List ℕ → Place → Names → Evaluation Callee
callee setting name at names = callee_as (setting.resolve name) (read setting name at names)
