-- What a call does once its callee is known, and what it needs to enter a body.
use Rattle.std.specs.Prelude.{◌≡◌, ℕ, ◌<◌, List, map, length, Option, Some, Result}
use Rattle.pyd_value.specs.declared.value.Value.{Value}
use Rattle.pyd_value.specs.declared.fault.Fault.{Fault}
use Rattle.pyd_tree.specs.declared.expression.Expr.{Expr}
use Rattle.pyd_tree.specs.declared.file.Func.{Func}
use Rattle.pyd_names.specs.Binding.{function}
use Rattle.pyd_meaning.specs.Evaluation.{Evaluation, ◌>>=◌}
use Rattle.pyd_meaning.specs.Reference.{Callee}
use Rattle.pyd_meaning.specs.Setting.{place_of}
use Rattle.pyd_meaning.specs.Calls.{called}
use Rattle.pyd_eval.specs.declared.activation.Activation.{Activation}
use Rattle.pyd_eval.specs.Frames.{setting, evaluations}
use Rattle.pyd_eval.specs.Given.{Does}
use Rattle.pyd_eval.specs.Passed.{values_in}

-- the arguments from the left, and then the call
abbrev pub does_call : Activation → Callee → List Expr → ℕ → List (Option Value) → Evaluation Value
does_call on callee args line slots =
    evaluations on args line slots >>= (λ vs. called (setting on) callee vs (place_of line))

-- a function that may be called from here, with its arguments in slots
pub record IsEntered (on : Activation) (k : ℕ) (f : Func) (taken : List (Option Value)) : Type 0 where
  pub found : function on.program.now.file k ≡ Some f
  pub within : on.depth < on.limits.depth
  pub even : length f.params ≡ length taken
  pub full : taken ≡ map Some (values_in taken)

-- what its call has printed in the end and gives, from whichever line it is called
abbrev pub DoesCall : Activation → ℕ → List Value → List (List ℕ) → List (List ℕ)
    → Result Value Fault → Type 0
DoesCall on k args before after got =
    (line : ℕ) → Does before ((setting on).calls k args line) after got
