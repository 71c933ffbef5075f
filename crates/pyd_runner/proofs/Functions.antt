-- A function among the routines of its program.
use Rattle.std.proofs.Common.{◌≡◌, ℕ, zero, suc, List, [], ◌∷◌, map, length, Option, Some, None, refl, ap, sym, ◌∙◌}
use Rattle.std.specs.Prelude.{option_map, IsSome}
use Rattle.std.specs.List.{slice_get, flat_map, filter_map}
use Rattle.std.proofs.lemmas.Option.{slice_get-map}
use Rattle.pyd_tree.specs.declared.file.File.{File}
use Rattle.pyd_tree.specs.declared.file.Func.{Func}
use Rattle.pyd_tree.specs.declared.file.Item.{Item}
use Rattle.pyd_tree.specs.declared.file.Item.TheVariants as item
use Rattle.pyd_names.specs.Binding.{function, function_in, functions}
use Rattle.pyd_scope.specs.declared.routine.Routine.{Routine}
use Rattle.pyd_scope.specs.Parts.{function_routine, routines_in, routines}
use Rattle.pyd_runner.specs.Functions.{parameter_count}

-- the routines of items are those of their functions
item_routines : (items : List Item)
    → flat_map routines_in items ≡ map function_routine (filter_map function_in items)
item_routines [] = refl
item_routines (item.Import line from names ∷ is) = item_routines is
item_routines (item.Def f ∷ is) = ap (λ rs. function_routine f ∷ rs) (item_routines is)
item_routines (item.Stmt s ∷ is) = item_routines is

-- the routine with the number of a function is the function's
routine_of : (file : File) (rs : List Routine) (k : ℕ)
    → rs ≡ routines file → IsSome (function file k)
    → slice_get rs k ≡ option_map function_routine (function file k)
routine_of file rs zero are some = cc
routine_of file rs (suc k) are some =
    ap (λ (l : List Routine). slice_get l (suc k)) are
    ∙ ap (λ (l : List Routine). slice_get l k) (item_routines file.items)
    ∙ slice_get-map function_routine (functions file) k

-- a function has as many parameters as its routine says
same_count : (o : Option Func)
    → option_map (λ (f : Func). length f.params) o
    ≡ option_map (λ (r : Routine). r.params) (option_map function_routine o)
same_count None = refl
same_count (Some f) = refl

-- the same of the routine that is found by the function's number
pub count_is : (file : File) (rs : List Routine) (k : ℕ) (r : Routine)
    → rs ≡ routines file → IsSome (function file k) → Some r ≡ slice_get rs k
    → parameter_count file k ≡ Some r.params
count_is file rs k r are some is =
    same_count (function file k)
    ∙ ap (option_map (λ (r : Routine). r.params)) (sym (is ∙ routine_of file rs k are some))

no_routine : (o : Option Func) → IsSome o → None ≡ option_map function_routine o → ⊥
no_routine None some none = cc
no_routine (Some f) some none = cc

-- a function has a routine
pub has_routine : (file : File) (rs : List Routine) (k : ℕ)
    → rs ≡ routines file → IsSome (function file k) → None ≡ slice_get rs k → ⊥
has_routine file rs k are some none =
    no_routine (function file k) some (none ∙ routine_of file rs k are some)
