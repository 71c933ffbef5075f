-- A function's routine among those of a program.
use Rattle.std.proofs.Common.{◌≡◌, ℕ, zero, suc, List, [], ◌∷◌, map, Option, refl, ap, ◌∙◌}
use Rattle.std.specs.Prelude.{option_map}
use Rattle.std.specs.List.{slice_get, flat_map, filter_map}
use Rattle.std.proofs.lemmas.Option.{slice_get-map}
use Rattle.pyd_tree.specs.declared.file.File.{File}
use Rattle.pyd_tree.specs.declared.file.Item.{Item}
use Rattle.pyd_tree.specs.declared.file.Item.TheVariants as item
use Rattle.pyd_names.specs.Binding.{function, function_in, functions}
use Rattle.pyd_scope.specs.declared.routine.Routine.{Routine}
use Rattle.pyd_scope.specs.Parts.{function_routine, routines_in, routines}

-- the routines of items are those of their functions
item_routines : (items : List Item)
    → flat_map routines_in items ≡ map function_routine (filter_map function_in items)
item_routines [] = refl
item_routines (item.Import line from names ∷ is) = item_routines is
item_routines (item.Def f ∷ is) = ap (λ rs. function_routine f ∷ rs) (item_routines is)
item_routines (item.Stmt s ∷ is) = item_routines is

-- the routine of a number that isn't the module's is the function's
pub routine_of_function : (file : File) (rs : List Routine) (n : ℕ) (o : Option Routine)
    → rs ≡ routines file → ¬ (n ≡ 0) → o ≡ slice_get rs n
    → o ≡ option_map function_routine (function file n)
routine_of_function file rs zero o are some is = absurd (some refl)
routine_of_function file rs (suc k) o are some is =
    is ∙ ap (λ (l : List Routine). slice_get l (suc k)) are
    ∙ ap (λ (l : List Routine). slice_get l k) (item_routines file.items)
    ∙ slice_get-map function_routine (functions file) k
