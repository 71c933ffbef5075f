-- What is printed in the end and what is given, where an evaluation comes after lines that were printed before.
use Rattle.std.specs.Prelude.{◌≡◌, ℕ, List, ◌++◌, Result}
use Rattle.pyd_value.specs.declared.value.Value.{Value}
use Rattle.pyd_value.specs.declared.fault.Fault.{Fault}
use Rattle.pyd_ops.specs.Answer.{outcome_of}
use Rattle.pyd_meaning.specs.declared.ran.Ran.{Ran}
use Rattle.pyd_meaning.specs.Evaluation.{Evaluation, gives, ◌>>=◌}
use Rattle.pyd_meaning.specs.Names.{Names}
use Rattle.pyd_meaning.specs.Setting.{Place}
use Rattle.pyd_meaning.specs.Expression.{Meaning, each}

-- the lines printed before and then those of the evaluation, and its value or fault
unfoldable pub outcome : {A : Type 0} → List (List ℕ) → Evaluation A → List (List ℕ) × Result A Fault
outcome before e = (before ++ e.lines, e.result)

-- what was run is this evaluation: its lines, and its value or fault
pub record IsRunOf (ran : Ran) (e : Evaluation Value) : Type 0 where
  pub lines : ran.lines ≡ e.lines
  pub outcome : ran.outcome ≡ outcome_of e.result

-- values that are there, and then those of the rest
unfoldable pub each_after : List Value → List Meaning → Place → Names → Evaluation (List Value)
each_after done es at names = each es at names >>= (λ vs. gives (done ++ vs))
