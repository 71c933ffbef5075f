-- What an operation gives: a value, or a fault in a line.
use Rattle.std.specs.Prelude.{◌≡◌, ℕ, Result, Ok, Err, IfOk}
use Rattle.pyd_value.specs.declared.value.Value.{Value}
use Rattle.pyd_value.specs.declared.memory.NoMemory.{NoMemory}
use Rattle.pyd_value.specs.declared.fault.Fault.{Fault}
use Rattle.pyd_value.specs.declared.fault.Fault.TheVariants as fault
use Rattle.pyd_value.specs.declared.fault.Kind.{Kind}
use Rattle.pyd_value.specs.declared.fault.Limit.{Limit}
use Rattle.pyd_value.specs.declared.fault.Outcome.{Outcome}
use Rattle.pyd_value.specs.declared.fault.Outcome.TheVariants as outcome

-- an exception in a line
abbrev pub raise : {A : Type 0} → Kind → ℕ → Result A Fault
raise kind line = Err (fault.Raised kind line)

-- the fault of a limit in a line
abbrev pub exceed : {A : Type 0} → Limit → ℕ → Result A Fault
exceed limit line = Err (fault.Limit limit line)

-- a value or a fault, as the calls hand it out
abbrev pub outcome_of : Result Value Fault → Outcome
outcome_of (Ok v) = outcome.Ok v
outcome_of (Err f) = outcome.Fault f

-- a call that has its memory hands this out
abbrev pub Answers : Result Outcome NoMemory → Result Value Fault → Type 0
Answers result answer = IfOk result (λ outcome. outcome ≡ outcome_of answer)
