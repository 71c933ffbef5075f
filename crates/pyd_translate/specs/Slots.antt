-- The arguments of a routine's slots, and reading a name.
use Rattle.std.specs.Prelude.{ℕ, suc, List, [], ◌∷◌, if◌then◌else◌}
use Rattle.pyd_value.specs.declared.fault.Kind.TheVariants.{NameError}
use Rattle.pyd_names.specs.Binding.{same_name}
use Rattle.pyd_names.specs.Resolution.{Resolution}
use Rattle.pyd_names.specs.Resolution as resolution
use Rattle.pyd_meaning.specs.Setting.{unbound_local}
use Rattle.pyd_ir.specs.declared.arg.Arg.{Arg}
use Rattle.pyd_ir.specs.declared.arg.Arg.TheVariants.{Known, From, Slot, Unbound}
use Rattle.pyd_ir.specs.declared.work.Work.TheVariants.{Read}
use Rattle.pyd_translate.specs.Making.{Making, Context, pure, stop_by, emit_value, port}

-- the argument of a name's slot
abbrev pub arg_of : List (List ℕ) → List Arg → List ℕ → Arg
arg_of [] env name = Unbound
arg_of (slot ∷ slots) [] name = Unbound
arg_of (slot ∷ slots) (a ∷ env) name = if same_name name slot then a else arg_of slots env name

-- a name's slot takes an argument, and all others are as before
abbrev pub set_slot : List (List ℕ) → List Arg → List ℕ → Arg → List Arg
set_slot [] env name b = env
set_slot (slot ∷ slots) [] name b = []
set_slot (slot ∷ slots) (a ∷ env) name b =
    if same_name name slot then b ∷ env else a ∷ set_slot slots env name b

-- the slot ports of a composite from a port on, one for each slot
abbrev pub slot_ports : {A : Type 0} → ℕ → ℕ → List A → List Arg
slot_ports id p [] = []
slot_ports id p (slot ∷ slots) = Slot (port id p) ∷ slot_ports id (suc p) slots

-- no slot is bound
abbrev pub unbound_slots : {A : Type 0} → List A → List Arg
unbound_slots [] = []
unbound_slots (slot ∷ slots) = Unbound ∷ unbound_slots slots

-- a local as an operand: a slot port is read, and what is surely unbound stops
abbrev pub operand : Context → Arg → Making Arg
operand at (Known v) = pure (Known v)
operand at (From r) = pure (From r)
operand at (Slot r) = emit_value at (Read (Slot r) (unbound_local at.routine))
operand at Unbound = stop_by at (unbound_local at.routine)

-- a name of this kind as an operand; functions, builtins and imported names have no value
abbrev pub operand_as : Resolution → Context → Arg → Making Arg
operand_as resolution.Local at a = operand at a
operand_as (resolution.Constant v) at a = pure (Known v)
operand_as (resolution.Function k) at a = stop_by at NameError
operand_as (resolution.Builtin b) at a = stop_by at NameError
operand_as resolution.Imported at a = stop_by at NameError
operand_as resolution.Variable at a = stop_by at NameError
operand_as resolution.Unbound at a = stop_by at NameError
