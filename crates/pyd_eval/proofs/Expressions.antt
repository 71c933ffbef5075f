-- What an operation on values gives, as the end of what an expression does.
use Rattle.std.proofs.Common.{◌≡◌, ℕ, List, Bool, true, false, refl, sym, ap, Result, Ok, Err}
use Rattle.std.specs.Prelude.{IfOk, not}
use Rattle.std.proofs.lemmas.Result.{IfOk-weaker}
use Rattle.pyd_value.specs.declared.value.Value.{Value}
use Rattle.pyd_value.specs.declared.fault.Fault.{Fault}
use Rattle.pyd_value.specs.declared.memory.NoMemory.{NoMemory}
use Rattle.pyd_ops.specs.Answer.{outcome_of}
use Rattle.pyd_ops.proofs.Outcomes.{value_of, fault_of}
use Rattle.pyd_eval.specs.declared.got.Got.{Got}
use Rattle.pyd_eval.specs.Given.{seen}

-- an answer that an operation gave is the last of what is done
pub answered : (lines : List (List ℕ)) (answer : Result Value Fault) (r : Result (Result Got Fault) NoMemory)
    → IfOk r (λ got. seen got ≡ answer) → IfOk r (λ got. ◌≡◌ {A = List (List ℕ) × Result Value Fault} (lines, answer) (lines, seen got))
answered lines answer r is = IfOk-weaker r _ _ (λ got e. ap (λ g. (lines, g)) (sym e)) is

-- what isn't true is false
pub not-true : (b : Bool) → not b ≡ true → b ≡ false
not-true true e = sym e
not-true false e = refl

-- what isn't false is true
pub not-false : (b : Bool) → not b ≡ false → b ≡ true
not-false true e = refl
not-false false e = sym e

-- an answer is known from what is handed out of it
pub answer_of : (r s : Result Value Fault) → outcome_of r ≡ outcome_of s → r ≡ s
answer_of (Ok v) s is = sym (value_of s v is)
answer_of (Err f) s is = sym (fault_of s f is)
