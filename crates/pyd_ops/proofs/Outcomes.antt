-- What an outcome says of the answer that it hands out, for callers.
use Rattle.std.proofs.Common.{◌≡◌, Result, Ok, Err, ap}
use Rattle.pyd_value.specs.declared.value.Value.{Value}
use Rattle.pyd_value.specs.declared.fault.Fault.{Fault}
use Rattle.pyd_value.specs.declared.fault.Outcome.TheVariants as outcome
use Rattle.pyd_ops.specs.Answer.{outcome_of}

-- a value that is handed out is the answer
pub value_of : (r : Result Value Fault) (v : Value) → outcome.Ok v ≡ outcome_of r → r ≡ Ok v
value_of (Ok u) v e = let h : u ≡ v = cc in ap Ok h
value_of (Err f) v e = absurd (let k : ⊥ = cc in k)

-- and so is a fault
pub fault_of : (r : Result Value Fault) (f : Fault) → outcome.Fault f ≡ outcome_of r → r ≡ Err f
fault_of (Err g) f e = let h : g ≡ f = cc in ap Err h
fault_of (Ok u) f e = absurd (let k : ⊥ = cc in k)
