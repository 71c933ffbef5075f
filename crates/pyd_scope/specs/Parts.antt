-- The parts of a program.
use Rattle.std.specs.Prelude.{List, [], ◌∷◌, length, codes, true, false}
use Rattle.std.specs.List.{flat_map}
use Rattle.pyd_tree.specs.declared.file.File.{File}
use Rattle.pyd_tree.specs.declared.file.Func.{Func}
use Rattle.pyd_tree.specs.declared.file.Item.{Item}
use Rattle.pyd_tree.specs.declared.file.Item.TheVariants as item
use Rattle.pyd_names.specs.Binding.{function_locals, module_variables}
use Rattle.pyd_scope.specs.declared.routine.Routine.{Routine}
use Rattle.pyd_scope.specs.Rules as rule

-- the module as a routine: unfolded and not pure, its slots being its variables
abbrev pub module_routine : File → Routine
module_routine file = record { name = codes "__main__"; line = 1; pure = false; unfolded = true; params = 0; slots = module_variables file }

-- a function as a routine: its slots are its parameters, and then the other names that it binds
abbrev pub function_routine : Func → Routine
function_routine f = record { name = f.name; line = f.line; pure = rule.is_functional f; unfolded = rule.has_mark (codes "schedule") f; params = length f.params; slots = function_locals f }

-- the function that an item is
abbrev pub routines_in : Item → List Routine
routines_in (item.Import line from names) = []
routines_in (item.Def f) = function_routine f ∷ []
routines_in (item.Stmt s) = []

-- the module, and then the functions in text order
abbrev pub routines : File → List Routine
routines file = module_routine file ∷ flat_map routines_in file.items
