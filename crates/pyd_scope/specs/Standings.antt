-- What names stand for, told by the names that a file has.
use Rattle.std.specs.Prelude.{◌≡◌, ℕ, List, map, Bool, true, false, if◌then◌else◌, Option, Some, None}
use Rattle.std.specs.List.{slice_get}
use Rattle.pyd_value.specs.declared.operator.Builtin.{Builtin}
use Rattle.pyd_tree.specs.declared.file.File.{File}
use Rattle.pyd_names.specs.declared.name_use.NameUse.{NameUse}
use Rattle.pyd_tree.specs.declared.file.Func.{Func}
use Rattle.pyd_names.specs.Binding.{is_among, function_locals}
use Rattle.pyd_names.specs.Binding as names
use Rattle.pyd_names.specs.Uses.{uses}
use Rattle.pyd_names.specs.Resolution.{builtin_named}
use Rattle.pyd_scope.specs.declared.standing.Standing.{Standing}
use Rattle.pyd_scope.specs.declared.standing.Standing.TheVariants as standing
use Rattle.pyd_scope.specs.declared.standing.Outside.{Outside}
use Rattle.pyd_scope.specs.declared.sightings.Sighting.{Sighting}
use Rattle.pyd_scope.specs.Places.{place}
use Rattle.pyd_scope.specs.Rules.{is_functional, function_names}

-- these are the names that a file has
pub record IsOutside (file : File) (o : Outside) : Type 0 where
  pub constants : o.constants ≡ map (λ c. c.0) (names.constants file)
  pub functions : o.functions ≡ function_names file
  pub functional : o.functional.items ≡ map is_functional (names.functions file)
  pub imported : o.imported ≡ names.imported_names file
  pub variables : o.variables ≡ names.module_variables file

-- a module variable, or nothing
abbrev pub variable_standing : Bool → Standing
variable_standing true = standing.Variable
variable_standing false = standing.Unbound

-- a builtin, else what follows
abbrev pub builtin_standing : Option Builtin → Standing → Standing
builtin_standing (Some b) rest = standing.Builtin b
builtin_standing None rest = rest

-- what a name stands for that is no local, no constant and no function
abbrev pub standing_beyond : Outside → List ℕ → Standing
standing_beyond o name = if is_among o.imported name then standing.Imported else
    builtin_standing (builtin_named name) (variable_standing (is_among o.variables name))

-- whether a function that may be there is `@functional`
abbrev pub or_false : Option Bool → Bool
or_false None = false
or_false (Some functional) = functional

-- the function at a place, else what follows
abbrev pub function_standing : List Bool → Option ℕ → Standing → Standing
function_standing functional None rest = rest
function_standing functional (Some at) rest = standing.Function (or_false (slice_get functional at))

-- what a name stands for that is no local
abbrev pub standing_outside : Outside → List ℕ → Standing
standing_outside o name = if is_among o.constants name then standing.Constant else
    function_standing o.functional.items (place o.functions name) (standing_beyond o name)

-- what a name stands for beside these locals
abbrev pub standing_in : Outside → List (List ℕ) → List ℕ → Standing
standing_in o locals name = if is_among locals name then standing.Local else standing_outside o name

-- a use in a routine with these locals
abbrev pub sighting_in : Outside → List (List ℕ) → Bool → NameUse → Sighting
sighting_in o locals functional u = record { line = u.line; manner = u.manner; standing = standing_in o locals u.name; functional = functional }

-- the uses in a function
abbrev pub function_sightings : Outside → Func → List Sighting
function_sightings o f = map (sighting_in o (function_locals f) (is_functional f)) (uses f.body)
