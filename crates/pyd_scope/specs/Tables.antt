-- What is known of the names that occur in a routine.
use Rattle.std.specs.Prelude.{◌≡◌, ℕ, suc, List, Bool, true, false, if◌then◌else◌, Option, Some, None, option_map, All}
use Rattle.std.specs.List.{slice_get}
use Rattle.pyd_value.specs.declared.value.Value.{Value}
use Rattle.pyd_value.specs.declared.operator.Builtin.{Builtin as BuiltinFunction}
use Rattle.pyd_tree.specs.declared.file.File.{File}
use Rattle.pyd_names.specs.Binding.{is_among, constants, locals}
use Rattle.pyd_names.specs.Resolution.{Resolution, resolved, builtin_named}
use Rattle.pyd_names.specs.Resolution as resolution
use Rattle.pyd_scope.specs.declared.standing.Outside.{Outside}
use Rattle.pyd_scope.specs.declared.table.Entry.{Entry}
use Rattle.pyd_scope.specs.declared.table.Known.{Known}
use Rattle.pyd_scope.specs.declared.table.Known.TheVariants.{Slot, Constant, Routine, Builtin, Imported, Variable, Unbound}
use Rattle.pyd_scope.specs.Places.{place}

-- the entry of a name
abbrev pub entry : List ℕ → Known → Entry
entry name known = record { name = name; known = known }

-- what a name stands for of which this is known, by the constants of its file
abbrev pub resolution_known : List (List ℕ × Value) → Known → Option Resolution
resolution_known constants (Slot i) = Some resolution.Local
resolution_known constants (Constant i) = option_map (λ c. resolution.Constant c.1) (slice_get constants i)
resolution_known constants (Routine i) = Some (resolution.Function (suc i))
resolution_known constants (Builtin b) = Some (resolution.Builtin b)
resolution_known constants Imported = Some resolution.Imported
resolution_known constants Variable = Some resolution.Variable
resolution_known constants Unbound = Some resolution.Unbound

-- what is known of a name in a routine of a file is right, and for a local the place of its slot
pub record IsKnown (file : File) (routine : ℕ) (name : List ℕ) (known : Known) : Type 0 where
  pub resolution : resolution_known (constants file) known ≡ Some (resolved file routine name)
  pub slot : (i : ℕ) → known ≡ Slot i → place (locals file routine) name ≡ Some i

-- what each entry tells of its name is right
abbrev pub IsTable : File → ℕ → List Entry → Type 0
IsTable file routine entries = All (λ e. IsKnown file routine e.name e.known) entries

-- the tables of the routines, by their numbers
abbrev pub AreTables : File → List (List Entry) → Type 0
AreTables file tables = (routine : ℕ) (entries : List Entry) → slice_get tables routine ≡ Some entries → IsTable file routine entries

-- what is found at a place, else what follows
abbrev pub found_at : (ℕ → Known) → Option ℕ → Known → Known
found_at at None rest = rest
found_at at (Some i) rest = at i

-- a builtin, else what follows
abbrev pub builtin_known : Option BuiltinFunction → Known → Known
builtin_known None rest = rest
builtin_known (Some b) rest = Builtin b

-- a module variable, or nothing
abbrev pub variable_known : Bool → Known
variable_known true = Variable
variable_known false = Unbound

-- what is known of a name that is no local, no constant and no function
abbrev pub known_beyond : Outside → List ℕ → Known
known_beyond o name = if is_among o.imported name then Imported else
    builtin_known (builtin_named name) (variable_known (is_among o.variables name))

-- what is known of a name beside these locals
abbrev pub known_in : Outside → List (List ℕ) → List ℕ → Known
known_in o locals name =
    found_at Slot (place locals name) (
    found_at Constant (place o.constants name) (
    found_at Routine (place o.functions name) (known_beyond o name)))

-- what each entry tells of its name is known beside these locals
abbrev pub AreKnown : Outside → List (List ℕ) → List Entry → Type 0
AreKnown o locals entries = All (λ e. e.known ≡ known_in o locals e.name) entries
