-- What a use says of a name in a routine of a program.
use Rattle.std.specs.Prelude.{◌≡◌, ℕ, List, [], Option, Some, None}
use Rattle.std.specs.List.{slice_get}
use Rattle.pyd_names.specs.Resolution.{Resolution, resolved}
use Rattle.pyd_names.specs.Resolution as resolution
use Rattle.pyd_scope.specs.declared.program.Program.{Program}
use Rattle.pyd_scope.specs.declared.routine.Routine.{Routine}
use Rattle.pyd_scope.specs.declared.uses.Use.{Use}
use Rattle.pyd_scope.specs.declared.uses.Use.TheVariants.{Slot, Constant, Routine as RoutineUse, Builtin, Imported, Variable, Unbound}
use Rattle.pyd_scope.specs.Places.{place}

-- what a use says that a name stands for
abbrev pub resolution_of : Use → Resolution
resolution_of (Slot i) = resolution.Local
resolution_of (Constant r) = resolution.Constant r.now
resolution_of (RoutineUse k) = resolution.Function k
resolution_of (Builtin b) = resolution.Builtin b
resolution_of Imported = resolution.Imported
resolution_of Variable = resolution.Variable
resolution_of Unbound = resolution.Unbound

-- the slots of a routine that may be there
abbrev pub slots_in : Option Routine → List (List ℕ)
slots_in None = []
slots_in (Some r) = r.slots

-- the slots of a routine of a program, none where there is no such routine
abbrev pub slots_of : Program → ℕ → List (List ℕ)
slots_of p routine = slots_in (slice_get p.routines routine)

-- what a name stands for, and for a local where its slot is
pub record Resolves (p : Program) (routine : ℕ) (name : List ℕ) (found : Use) : Type 0 where
  pub resolution : resolution_of found ≡ resolved p.file routine name
  pub slot : (i : ℕ) → found ≡ Slot i → place (slots_of p routine) name ≡ Some i
