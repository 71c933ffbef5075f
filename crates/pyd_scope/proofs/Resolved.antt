-- What a program's parts say of a name is what it is resolved to.
use Rattle.std.proofs.Common.{◌≡◌, ℕ, zero, suc, List, [], ◌∷◌, map, Bool, true, false, if◌then◌else◌, Option, Some, None, is_some, refl, ap, sym, ◌∙◌}
use Rattle.std.specs.List.{slice_get, flat_map, filter_map}
use Rattle.std.proofs.lemmas.Option.{slice_get-map}
use Rattle.std.specs.Prelude.{option_map}
use Rattle.pyd_value.specs.declared.value.Value.{Value}
use Rattle.pyd_value.specs.declared.operator.Builtin.{Builtin}
use Rattle.pyd_tree.specs.declared.file.File.{File}
use Rattle.pyd_tree.specs.declared.file.Func.{Func}
use Rattle.pyd_tree.specs.declared.file.Item.{Item}
use Rattle.pyd_tree.specs.declared.file.Item.TheVariants as item
use Rattle.pyd_names.specs.Binding.{is_among, function_in, functions, imported_names, module_variables, locals_in, locals}
use Rattle.pyd_names.specs.Resolution.{Resolution, resolved, resolved_outside, constant_named, function_named, builtin_named, constant_or, function_or, builtin_or, variable_or_unbound}
use Rattle.pyd_names.specs.Resolution as resolution
use Rattle.pyd_scope.specs.declared.routine.Routine.{Routine}
use Rattle.pyd_scope.specs.Parts.{function_routine, routines_in, routines}
use Rattle.pyd_scope.specs.Places.{place}
use Rattle.pyd_scope.specs.Resolving.{slots_in}
use Rattle.pyd_scope.proofs.Finding.{is_some-place}

-- the routines of some items are those of their functions
routines_are : (items : List Item) → flat_map routines_in items ≡ map function_routine (filter_map function_in items)
routines_are [] = refl
routines_are (item.Import line from names ∷ is) = routines_are is
routines_are (item.Def f ∷ is) = ap (λ rs. function_routine f ∷ rs) (routines_are is)
routines_are (item.Stmt s ∷ is) = routines_are is

slots_in_function : (o : Option Func) → slots_in (option_map function_routine o) ≡ locals_in o
slots_in_function None = refl
slots_in_function (Some f) = refl

-- the slots of a routine are its locals
slots_are : (file : File) (k : ℕ) → slots_in (slice_get (routines file) k) ≡ locals file k
slots_are file zero = refl
slots_are file (suc k) =
    ap (λ (rs : List Routine). slots_in (slice_get rs k)) (routines_are file.items)
    ∙ ap slots_in (slice_get-map function_routine (functions file) k)
    ∙ slots_in_function (slice_get (functions file) k)

-- the same for a program's routines
pub slots : (file : File) (rs : List Routine) (k : ℕ) → rs ≡ routines file → slots_in (slice_get rs k) ≡ locals file k
slots file rs k are = ap (λ (l : List Routine). slots_in (slice_get l k)) are ∙ slots_are file k

names_are : (items : List Item) → map (λ (r : Routine). r.name) (flat_map routines_in items) ≡ map (λ (f : Func). f.name) (filter_map function_in items)
names_are [] = refl
names_are (item.Import line from names ∷ is) = names_are is
names_are (item.Def f ∷ is) = ap (λ ns. f.name ∷ ns) (names_are is)
names_are (item.Stmt s ∷ is) = names_are is

-- what a name stands for outside, by what each kind of name says of it
by_kinds : Option Value → Option ℕ → Bool → Option Builtin → Bool → Resolution
by_kinds constant function imported builtin variable =
    constant_or constant (function_or function (if imported then resolution.Imported else builtin_or builtin (variable_or_unbound variable)))

-- a name that is no constant, no function, not imported and no builtin
pub last_kind : (file : File) (name : List ℕ) (r : Resolution) (v : Bool)
    → constant_named file name ≡ None → function_named file name ≡ None → is_among (imported_names file) name ≡ false → builtin_named name ≡ None
    → is_among (module_variables file) name ≡ v → r ≡ variable_or_unbound v → r ≡ resolved_outside file name
unfolding by_kinds
last_kind file name r v constant function imported builtin variable is =
    let vs : Bool = is_among (module_variables file) name in
    is ∙ ap variable_or_unbound (sym variable)
    ∙ sym (ap (λ (o : Option Value). by_kinds o (function_named file name) (is_among (imported_names file) name) (builtin_named name) vs) constant
    ∙ ap (λ (o : Option ℕ). by_kinds None o (is_among (imported_names file) name) (builtin_named name) vs) function
    ∙ ap (λ (b : Bool). by_kinds None None b (builtin_named name) vs) imported
    ∙ ap (λ (o : Option Builtin). by_kinds None None false o vs) builtin)

no_kind_is_local : (c : Option Value) (f : Option ℕ) (i : Bool) (b : Option Builtin) (v : Bool) → ¬ (by_kinds c f i b v ≡ resolution.Local)
unfolding by_kinds
no_kind_is_local (Some c) f i b v is = cc
no_kind_is_local None (Some f) i b v is = cc
no_kind_is_local None None true b v is = cc
no_kind_is_local None None false (Some b) v is = cc
no_kind_is_local None None false None true is = cc
no_kind_is_local None None false None false is = cc

-- what a name stands for outside is no local
pub outside_is_no_local : (file : File) (name : List ℕ) → ¬ (resolved_outside file name ≡ resolution.Local)
unfolding by_kinds
outside_is_no_local file name =
    no_kind_is_local (constant_named file name) (function_named file name) (is_among (imported_names file) name) (builtin_named name) (is_among (module_variables file) name)

-- a name is among those of a routine where it has a place
among_place : (file : File) (rs : List Routine) (k : ℕ) (name : List ℕ) → rs ≡ routines file
    → is_some (place (slots_in (slice_get rs k)) name) ≡ is_among (locals file k) name
among_place file rs k name are =
    is_some-place (slots_in (slice_get rs k)) name ∙ ap (λ (ns : List (List ℕ)). is_among ns name) (slots file rs k are)

-- a name with a place among the slots is a local
pub is_local : (file : File) (rs : List Routine) (k i : ℕ) (name : List ℕ) → rs ≡ routines file → Some i ≡ place (slots_in (slice_get rs k)) name
    → is_among (locals file k) name ≡ true
is_local file rs k i name are is = sym (among_place file rs k name are) ∙ ap is_some (sym is)

-- a name with no place among the slots is no local
pub is_no_local : (file : File) (rs : List Routine) (k : ℕ) (name : List ℕ) → rs ≡ routines file → None ≡ place (slots_in (slice_get rs k)) name
    → is_among (locals file k) name ≡ false
is_no_local file rs k name are is = sym (among_place file rs k name are) ∙ ap is_some (sym is)

-- what a name stands for in a routine, by whether it is a local
pub resolved_in : (file : File) (k : ℕ) (name : List ℕ) (b : Bool) → is_among (locals file k) name ≡ b
    → (if b then resolution.Local else resolved_outside file name) ≡ resolved file k name
resolved_in file k name b is = ap (λ (v : Bool). if v then resolution.Local else resolved_outside file name) (sym is)

-- only a function stands for one
by_function : (c : Option Value) (f : Option ℕ) (i : Bool) (b : Option Builtin) (v : Bool) (n : ℕ) → by_kinds c f i b v ≡ resolution.Function n → f ≡ Some n
unfolding by_kinds
by_function (Some c) f i b v n is = cc
by_function None (Some f) i b v n is = cc
by_function None None true b v n is = cc
by_function None None false (Some b) v n is = cc
by_function None None false None true n is = cc
by_function None None false None false n is = cc

by_local : (l : Bool) (r : Resolution) (n : ℕ) → (if l then resolution.Local else r) ≡ resolution.Function n → r ≡ resolution.Function n
by_local true r n is = cc
by_local false r n is = is

-- a name that stands for a function is the function's
pub is_function : (file : File) (k : ℕ) (name : List ℕ) (n : ℕ) → resolved file k name ≡ resolution.Function n → function_named file name ≡ Some n
unfolding by_kinds
is_function file k name n is =
    by_function (constant_named file name) (function_named file name) (is_among (imported_names file) name) (builtin_named name) (is_among (module_variables file) name) n
    (by_local (is_among (locals file k) name) (resolved_outside file name) n is)

tail_of : List Routine → List Routine
tail_of [] = []
tail_of (r ∷ rs) = rs

-- the names of all routines but the module are those of the functions
pub function_names_are : (file : File) (rs fs : List Routine) (m : Routine) → rs ≡ routines file → rs ≡ m ∷ fs
    → map (λ (r : Routine). r.name) fs ≡ map (λ (f : Func). f.name) (functions file)
unfolding tail_of
function_names_are file rs fs m are split =
    ap (λ (l : List Routine). map (λ (r : Routine). r.name) (tail_of l)) (sym split ∙ are) ∙ names_are file.items
