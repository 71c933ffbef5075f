-- What an expression gave, own or lent, and what an evaluation does after lines that were printed before.
use Rattle.std.specs.Prelude.{◌≡◌, ℕ, List, Result, Ok, Err}
use Rattle.pyd_value.specs.declared.value.Value.{Value}
use Rattle.pyd_value.specs.declared.fault.Fault.{Fault}
use Rattle.pyd_meaning.specs.Evaluation.{Evaluation}
use Rattle.pyd_meaning.specs.Outcome.{outcome}
use Rattle.pyd_eval.specs.declared.got.Got.{Got}
use Rattle.pyd_eval.specs.declared.got.Got.TheVariants.{Own, Lent}

-- the value
abbrev pub value_of : Got → Value
value_of (Own v) = v
value_of (Lent r) = r.now

-- the value or the fault
abbrev pub seen : Result Got Fault → Result Value Fault
seen (Ok g) = Ok (value_of g)
seen (Err f) = Err f

-- after lines that were printed before, an evaluation has printed these in all, and gives this
abbrev pub Does : {A : Type 0} → List (List ℕ) → Evaluation A → List (List ℕ) → Result A Fault → Type 0
Does before e after result = outcome before e ≡ (after, result)
