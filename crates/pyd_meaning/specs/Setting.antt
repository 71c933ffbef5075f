-- What an expression or a statement stands in: the limits, the routine's names, and what calls do.
use Rattle.std.specs.Prelude.{ℕ, zero, suc, List, Option, Some, None}
use Rattle.pyd_value.specs.declared.value.Value.{Value}
use Rattle.pyd_value.specs.declared.fault.Kind.{Kind}
use Rattle.pyd_value.specs.declared.fault.Kind.TheVariants.{NameError, UnboundLocalError}
use Rattle.pyd_value.specs.declared.fault.Limit.{Limit}
use Rattle.pyd_ops.specs.Answer.{raise, exceed}
use Rattle.pyd_names.specs.Resolution.{Resolution}
use Rattle.pyd_meaning.specs.declared.limits.Limits.{Limits}
use Rattle.pyd_meaning.specs.Evaluation.{Evaluation, settled, gives}

-- where something is done: the line of the innermost statement or header
pub record Place : Type 0 where
  pub line : ℕ

-- the place of a statement or header that begins in this line
abbrev pub place_of : ℕ → Place
place_of line = record { line = line }

-- an exception at a place
abbrev pub raises : {A : Type 0} → Kind → Place → Evaluation A
raises kind at = settled (raise kind at.line)

-- the fault of a limit at a place
abbrev pub exceeds : {A : Type 0} → Limit → Place → Evaluation A
exceeds limit at = settled (exceed limit at.line)

-- what a call does: the number of the function, its arguments, and the line of the caller
abbrev pub Calls : Type 0
Calls = ℕ → List Value → ℕ → Evaluation Value

-- the limits, the number of the routine (0 is the module), how its names resolve, and its calls
pub record Setting : Type 0 where
  pub limits : Limits
  pub routine : ℕ
  pub resolve : List ℕ → Resolution
  pub calls : Calls

-- what a local that isn't bound raises: the module's own variables aren't locals of a function
abbrev pub unbound_local : ℕ → Kind
unbound_local zero = NameError
unbound_local (suc k) = UnboundLocalError

-- the value, or the exception where there is none
abbrev pub value_or : Option Value → Kind → Place → Evaluation Value
value_or (Some v) kind at = gives v
value_or None kind at = raises kind at
