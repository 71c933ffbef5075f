-- What a call does that ends before its function's body, and when it comes to the body.
use Rattle.std.proofs.Common.{◌≡◌, ℕ, List, [], length, Option, Some, None, option_map, refl, sym, ap, ◌∙◌}
use Rattle.pyd_value.specs.declared.value.Value.{Value}
use Rattle.pyd_value.specs.declared.fault.Fault.{Fault}
use Rattle.pyd_value.specs.declared.fault.Outcome.TheVariants as outcome
use Rattle.pyd_tree.specs.declared.file.File.{File}
use Rattle.pyd_tree.specs.declared.file.Func.{Func}
use Rattle.pyd_names.specs.Binding.{function}
use Rattle.pyd_meaning.specs.Evaluation.{settled, faults}
use Rattle.pyd_meaning.specs.Outcome.{IsRunOf}
use Rattle.pyd_eval.specs.Whole.{IsCalled}
use Rattle.pyd_runner.specs.Functions.{parameter_count}

-- a fault without lines
pub ends : (fault : Fault) (lines : List (List ℕ)) → lines ≡ []
    → IsRunOf (record { outcome = outcome.Fault fault; lines = lines }) (faults fault)
unfolding settled
ends fault lines none = record { lines = none; outcome = refl }

no_number : (n : ℕ) → None ≡ Some n → ⊥
no_number n none = cc

same_number : (m n : ℕ) → Some m ≡ Some n → m ≡ n
same_number m n same = cc

-- a function whose count of parameters is known
counted : (o : Option Func) (n : ℕ) → option_map (λ (f : Func). length f.params) o ≡ Some n
    → (f : Func) × (o ≡ Some f) × (length f.params ≡ n)
counted None n is = absurd (no_number n is)
counted (Some f) n is = (f, refl, same_number (length f.params) n is)

-- a call that may run
pub is_called : (file : File) (func n : ℕ) (args copy : List Value)
    → parameter_count file func ≡ Some n → copy ≡ args → length args ≡ n
    → IsCalled file func (length copy)
is_called file func n args copy is same even =
    let f = counted (function file func) n is in
    record { func = f.0; found = f.1; even = f.2 ∙ sym even ∙ ap (λ (l : List Value). length l) (sym same) }
