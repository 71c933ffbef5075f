-- What names stand for by the names of a file is what they are resolved to.
use Rattle.std.proofs.Common.{◌≡◌, ℕ, zero, suc, ◌+◌, ◌≤◌, List, [], ◌∷◌, ◌++◌, map, take, length, Bool, true, false, ◌||◌, cond, if◌then◌else◌, Option, Some, None, is_some, refl, ap, sym, ◌∙◌, arith, Bor}
use Rattle.std.specs.Prelude.{option_map}
use Rattle.std.specs.List.{slice_get, flat_map, position_from}
use Rattle.std.specs.Map.{lookup}
use Rattle.std.proofs.lemmas.List.{take_all}
use Rattle.pyd_value.specs.declared.value.Value.{Value}
use Rattle.pyd_value.specs.declared.operator.Builtin.{Builtin}
use Rattle.pyd_tree.specs.declared.file.File.{File}
use Rattle.pyd_tree.specs.declared.file.Func.{Func}
use Rattle.pyd_names.specs.declared.name_use.NameUse.{NameUse}
use Rattle.pyd_names.specs.Binding.{same_name, is_among, constants, functions, imported_names, module_variables, function_locals, locals_in}
use Rattle.pyd_names.specs.Resolution.{Resolution, constant_named, function_named, builtin_named, constant_or, function_or, builtin_or, variable_or_unbound, resolved_outside}
use Rattle.pyd_names.specs.Resolution as resolution
use Rattle.pyd_names.specs.Uses.{uses, uses_in, module_uses}
use Rattle.pyd_scope.specs.declared.standing.Standing.{Standing}
use Rattle.pyd_scope.specs.declared.standing.Standing.TheVariants as standing
use Rattle.pyd_scope.specs.declared.standing.Outside.{Outside}
use Rattle.pyd_scope.specs.declared.sightings.Sighting.{Sighting}
use Rattle.pyd_scope.specs.Places.{place}
use Rattle.pyd_scope.specs.Rules.{is_functional, is_functional_routine, function_names, standing_of, sightings_in, numbers_from, sightings}
use Rattle.pyd_scope.specs.Standings.{IsOutside, variable_standing, builtin_standing, function_standing, or_false, standing_outside, standing_in, sighting_in, function_sightings}

-- a name is among keys where it is looked up
among-lookup : (name : List ℕ) (cs : List (List ℕ × Value)) → is_among (map (λ c. c.0) cs) name ≡ is_some (lookup (same_name name) cs)
among-lookup name [] = refl
among-lookup name (c ∷ cs) =
    elim (same_name name c.0) as (λ b. (b || is_among (map (λ d. d.0) cs) name) ≡ is_some (cond b (Some c.1) (lookup (same_name name) cs)))
    [ true ↦ refl | false ↦ among-lookup name cs ]

-- places counted from one more are one more
pub position-suc : {X : Type 0} (t : X → Bool) (i : ℕ) (xs : List X) → position_from t (i + 1) xs ≡ option_map suc (position_from t i xs)
position-suc t i [] = refl
position-suc t i (x ∷ xs) =
    elim (t x) as (λ b. cond b (Some (i + 1)) (position_from t (i + 1 + 1) xs) ≡ option_map suc (cond b (Some i) (position_from t (i + 1) xs)))
    [ true ↦ ap (λ (n : ℕ). Some n) (omega arith) | false ↦ position-suc t (i + 1) xs ]

-- a function's decorators, found by its place
functional_at : (fs : List Func) (k : ℕ) → or_false (slice_get (map is_functional fs) k) ≡ is_functional_routine (slice_get fs k)
functional_at [] k = refl
functional_at (f ∷ fs) zero = refl
functional_at (f ∷ fs) (suc k) = functional_at fs k

constant_case : (file : File) (o : Option Value) (rest : Standing) (rest' : Resolution)
    → rest ≡ standing_of file rest' → (if is_some o then standing.Constant else rest) ≡ standing_of file (constant_or o rest')
constant_case file None rest rest' h = h
constant_case file (Some v) rest rest' h = refl

function_case : (file : File) (o : Option ℕ) (rest : Standing) (rest' : Resolution)
    → rest ≡ standing_of file rest' → function_standing (map is_functional (functions file)) o rest ≡ standing_of file (function_or (option_map suc o) rest')
function_case file None rest rest' h = h
function_case file (Some k) rest rest' h = ap (λ (b : Bool). standing.Function b) (functional_at (functions file) k)

imported_case : (file : File) (b : Bool) (rest : Standing) (rest' : Resolution)
    → rest ≡ standing_of file rest' → (if b then standing.Imported else rest) ≡ standing_of file (if b then resolution.Imported else rest')
imported_case file true rest rest' h = refl
imported_case file false rest rest' h = h

builtin_case : (file : File) (o : Option Builtin) (rest : Standing) (rest' : Resolution)
    → rest ≡ standing_of file rest' → builtin_standing o rest ≡ standing_of file (builtin_or o rest')
builtin_case file None rest rest' h = h
builtin_case file (Some b) rest rest' h = refl

variable_case : (file : File) (b : Bool) → variable_standing b ≡ standing_of file (variable_or_unbound b)
variable_case file true = refl
variable_case file false = refl

-- what a name stands for by lists of names
plain : List (List ℕ) → List (List ℕ) → List Bool → List (List ℕ) → List (List ℕ) → List ℕ → Standing
plain cs fs bs is vs name =
    if is_among cs name then standing.Constant else function_standing bs (place fs name)
    (if is_among is name then standing.Imported else builtin_standing (builtin_named name) (variable_standing (is_among vs name)))

-- by the lists of a file a name stands for what it is resolved to
by_file : (file : File) (name : List ℕ)
    → plain (map (λ c. c.0) (constants file)) (function_names file) (map is_functional (functions file)) (imported_names file) (module_variables file) name
    ≡ standing_of file (resolved_outside file name)
unfolding plain
by_file file name =
    let vs : Standing = variable_standing (is_among (module_variables file) name) in
    let after : Standing = if is_among (imported_names file) name then standing.Imported else builtin_standing (builtin_named name) vs in
    let after' : Resolution = if is_among (imported_names file) name then resolution.Imported else builtin_or (builtin_named name) (variable_or_unbound (is_among (module_variables file) name)) in
    let beyond : after ≡ standing_of file after' =
    imported_case file (is_among (imported_names file) name) _ _ (builtin_case file (builtin_named name) _ _ (variable_case file (is_among (module_variables file) name))) in
    ap (λ (b : Bool). if b then standing.Constant else function_standing (map is_functional (functions file)) (place (function_names file) name) after)
    (among-lookup name (constants file))
    ∙ constant_case file (constant_named file name) _ (function_or (option_map suc (place (function_names file) name)) after')
    (function_case file (place (function_names file) name) after after' beyond)
    ∙ ap (λ (o : Option ℕ). standing_of file (constant_or (constant_named file name) (function_or o after')))
    (sym (position-suc (same_name name) 0 (function_names file)))

-- what a name stands for outside
pub outside_is : (file : File) (o : Outside) → IsOutside file o → (name : List ℕ) → standing_outside o name ≡ standing_of file (resolved_outside file name)
unfolding plain
outside_is file o is name =
    ap (λ (l : List (List ℕ)). plain l o.functions o.functional.items o.imported o.variables name) is.constants
    ∙ ap (λ (l : List (List ℕ)). plain (map (λ c. c.0) (constants file)) l o.functional.items o.imported o.variables name) is.functions
    ∙ ap (λ (l : List Bool). plain (map (λ c. c.0) (constants file)) (function_names file) l o.imported o.variables name) is.functional
    ∙ ap (λ (l : List (List ℕ)). plain (map (λ c. c.0) (constants file)) (function_names file) (map is_functional (functions file)) l o.variables name) is.imported
    ∙ ap (λ (l : List (List ℕ)). plain (map (λ c. c.0) (constants file)) (function_names file) (map is_functional (functions file)) (imported_names file) l name) is.variables
    ∙ by_file file name

-- beside locals
inside_is : (file : File) (o : Outside) → IsOutside file o → (locals : List (List ℕ)) (name : List ℕ)
    → standing_in o locals name ≡ standing_of file (if is_among locals name then resolution.Local else resolved_outside file name)
inside_is file o is locals name =
    elim (is_among locals name) as (λ b. (if b then standing.Local else standing_outside o name) ≡ standing_of file (if b then resolution.Local else resolved_outside file name))
    [ true ↦ refl | false ↦ outside_is file o is name ]

-- a use in a routine, which may be there
at_routine : File → List (List ℕ) → Bool → NameUse → Sighting
at_routine file locals functional u =
    record { line = u.line; manner = u.manner; standing = standing_of file (if is_among locals u.name then resolution.Local else resolved_outside file u.name); functional = functional }

sighting_is : (file : File) (o : Outside) → IsOutside file o → (locals : List (List ℕ)) (functional : Bool) (us : List NameUse)
    → map (sighting_in o locals functional) us ≡ map (at_routine file locals functional) us
unfolding at_routine
sighting_is file o is locals functional us =
    ap (λ (h : NameUse → Sighting). map h us)
    (λ k u. record { line = u.line; manner = u.manner; standing = inside_is file o is locals u.name k; functional = functional })

-- the uses in a function, where it has this number
numbered_is : (file : File) (k : ℕ) (f : Func) → slice_get (functions file) k ≡ Some f
    → map (at_routine file (function_locals f) (is_functional f)) (uses f.body) ≡ sightings_in file (suc k)
unfolding at_routine
numbered_is file k f is =
    ap (λ (o : Option Func). map (at_routine file (locals_in o) (is_functional_routine o)) (uses_in o)) (sym is)

each_function : (file : File) (o : Outside) → IsOutside file o → (n : ℕ) (fs : List Func)
    → ((j : ℕ) → slice_get (functions file) (n + j) ≡ slice_get fs j)
    → flat_map (function_sightings o) fs ≡ flat_map (sightings_in file) (numbers_from n fs)
each_function file o is n [] at = refl
each_function file o is n (f ∷ fs) at =
    let here : slice_get (functions file) n ≡ Some f = ap (slice_get (functions file)) (omega arith) ∙ at 0 in
    let first : function_sightings o f ≡ sightings_in file (suc n) =
    sighting_is file o is (function_locals f) (is_functional f) (uses f.body) ∙ numbered_is file n f here in
    ap (λ (s : List Sighting). s ++ flat_map (function_sightings o) fs) first
    ∙ ap (λ (s : List Sighting). sightings_in file (suc n) ++ s)
    (each_function file o is (suc n) fs (λ j. ap (slice_get (functions file)) (omega arith) ∙ at (suc j)))

-- the functions behind references
flat_map-now : {Y : Type 0} (h : Func → List Y) (fs : List (Bor Func)) → flat_map (λ f. h f.now) fs ≡ flat_map h (map (λ f. f.now) fs)
flat_map-now h [] = refl
flat_map-now h (f ∷ fs) = ap (λ ys. h f.now ++ ys) (flat_map-now h fs)

-- all uses, once no function is left
pub sightings_whole : (file : File) (o : Outside) (first out : List Sighting) (us : List NameUse) (fs : List (Bor Func)) (i : ℕ)
    → IsOutside file o → first ≡ map (sighting_in o o.variables false) us → us ≡ module_uses file → map (λ f. f.now) fs ≡ functions file
    → length fs ≤ i → out ≡ first ++ flat_map (λ f. function_sightings o f.now) (take i fs) → out ≡ sightings file
unfolding at_routine
sightings_whole file o first out us fs i is begun used listed past here =
    here
    ∙ ap (λ (gs : List (Bor Func)). first ++ flat_map (λ f. function_sightings o f.now) gs) (take_all i fs past)
    ∙ ap (λ (s : List Sighting). first ++ s) (flat_map-now (function_sightings o) fs ∙ ap (flat_map (function_sightings o)) listed
    ∙ each_function file o is 0 (functions file) (λ j. ap (slice_get (functions file)) (omega arith)))
    ∙ ap (λ (s : List Sighting). s ++ flat_map (sightings_in file) (numbers_from 0 (functions file)))
    (begun ∙ ap (λ (l : List (List ℕ)). map (sighting_in o l false) us) is.variables ∙ sighting_is file o is (module_variables file) false us
    ∙ ap (map (at_routine file (module_variables file) false)) used)

-- names and decorators of functions behind references
pub map-now : {Y : Type 0} (h : Func → Y) (fs : List (Bor Func)) (gs : List Func) → map (λ f. f.now) fs ≡ gs → map (λ f. h f.now) fs ≡ map h gs
map-now h fs gs listed = fused h fs ∙ ap (map h) listed
  where
    fused : {Y : Type 0} (h : Func → Y) (fs : List (Bor Func)) → map (λ f. h f.now) fs ≡ map h (map (λ f. f.now) fs)
    fused h [] = refl
    fused h (f ∷ fs) = ap (λ ys. h f.now ∷ ys) (fused h fs)
