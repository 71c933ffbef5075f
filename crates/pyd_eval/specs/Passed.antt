-- Arguments in the first slots of the function that is called.
use Rattle.std.specs.Prelude.{List, [], ◌∷◌, Option, Some, None, Result, Ok, Err, Vec}
use Rattle.pyd_value.specs.declared.value.Value.{Value}
use Rattle.pyd_value.specs.declared.fault.Fault.{Fault}

-- the values of the slots that aren't empty
abbrev pub values_in : List (Option Value) → List Value
values_in [] = []
values_in (None ∷ slots) = values_in slots
values_in (Some v ∷ slots) = v ∷ values_in slots

-- the arguments, or the fault
abbrev pub passed : {A : Type 0} → Result (Vec (Option Value) A) Fault → Result (List Value) Fault
passed (Ok taken) = Ok (values_in taken.items)
passed (Err f) = Err f
