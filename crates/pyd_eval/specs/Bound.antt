-- What binding left: the names, or the fault.
use Rattle.std.specs.Prelude.{Result, Ok, Err}
use Rattle.pyd_value.specs.declared.fault.Fault.{Fault}
use Rattle.pyd_meaning.specs.Names.{Names}

-- the names that are bound now, or the fault
abbrev pub bound : {A : Type 0} → Names → Result A Fault → Result Names Fault
bound names (Ok done) = Ok names
bound names (Err f) = Err f
