-- What is known of a name gives its use.
use Rattle.std.proofs.Common.{◌≡◌, ◌<◌, ℕ, suc, ◌+◌, List, [], ◌∷◌, map, length, get_or, Bool, true, false, cond, Option, Some, None, refl, ap, sym, ◌∙◌, subst, arith}
use Rattle.std.specs.Prelude.{option_map, IfSome}
use Rattle.std.specs.List.{Contains, slice_get, position_from}
use Rattle.std.proofs.lemmas.List.{length-map}
use Rattle.std.proofs.lemmas.Option.{slice_get_within, slice_get-get_or}
use Rattle.std.proofs.lemmas.List.Elements.{All-contains}
use Rattle.pyd_value.specs.declared.value.Value.{Value}
use Rattle.pyd_tree.specs.declared.file.File.{File}
use Rattle.pyd_tree.specs.declared.file.Func.{Func}
use Rattle.pyd_names.specs.Binding.{same_name, constants, functions, locals}
use Rattle.pyd_names.specs.Resolution.{Resolution, resolved, resolved_outside, constant_named, function_named, builtin_named, constant_or, function_or, builtin_or, variable_or_unbound}
use Rattle.pyd_names.specs.Resolution as resolution
use Rattle.pyd_names.specs.WellFormed.{IsWellFormed}
use Rattle.pyd_scope.specs.declared.table.Entry.{Entry}
use Rattle.pyd_scope.specs.declared.table.Known.{Known}
use Rattle.pyd_scope.specs.declared.table.Known.TheVariants as known
use Rattle.pyd_scope.specs.declared.routine.Routine.{Routine}
use Rattle.pyd_scope.specs.declared.uses.Use.TheVariants.{Slot}
use Rattle.pyd_scope.specs.Parts.{routines}
use Rattle.pyd_scope.specs.Places.{place}
use Rattle.pyd_scope.specs.Resolving.{slots_in}
use Rattle.pyd_scope.specs.Tables.{entry, IsKnown, AreTables}
use Rattle.pyd_scope.proofs.Few.{few_locals, few_functions}
use Rattle.pyd_scope.proofs.Resolved.{slots, is_function}

-- what an entry tells that was found in the table of a routine
pub known_found : (file : File) (k : ℕ) (name : List ℕ) (tables : List (List Entry)) (t : List Entry) (o : Option Known) → AreTables file tables → Some t ≡ slice_get tables k
    → IfSome o (λ x. Contains t (entry name x)) → IfSome o (IsKnown file k name)
known_found file k name tables t None are at found = found
known_found file k name tables t (Some x) are at found = All-contains (λ (e : Entry). IsKnown file k e.name e.known) t (entry name x) (are k t (sym at)) found

within_here : (n i r : ℕ) (b : Bool) (rest : Option ℕ) → (rest ≡ Some i → i < n + 1 + r) → cond b (Some n) rest ≡ Some i → i < n + (r + 1)
within_here n i r true rest later at = let same : n ≡ i = cc in omega (arith, same)
within_here n i r false rest later at = let h : i < n + 1 + r = later at in omega (arith, h)

-- a place is below the count of names
place_within : (test : List ℕ → Bool) (n : ℕ) (ns : List (List ℕ)) (i : ℕ) → position_from test n ns ≡ Some i → i < n + length ns
place_within test n [] i is = cc
place_within test n (m ∷ ms) i is =
    let h : i < n + (length ms + 1) = within_here n i (length ms) (test m) (position_from test (n + 1) ms) (place_within test (n + 1) ms i) is in omega (arith, h)

-- the place of a slot is below 2^32
pub slot_fits : (file : File) (k : ℕ) (name : List ℕ) (i : ℕ) → IsWellFormed file → IsKnown file k name (known.Slot i) → i < 4294967296
slot_fits file k name i well is =
    let few : length (locals file k) < 4294967296 = few_locals file well k in
    let h : i < 0 + length (locals file k) = place_within (same_name name) 0 (locals file k) i (is.slot i refl) in
    omega arith

-- the number of a function is below 2^32
pub function_fits : (file : File) (k : ℕ) (name : List ℕ) (i : ℕ) → IsWellFormed file → IsKnown file k name (known.Routine i) → i + 1 < 4294967296
function_fits file k name i well is =
    let few : length (functions file) < 4294967296 = few_functions file well in
    let told : Some (resolution.Function (suc i)) ≡ Some (resolved file k name) = is.resolution in
    let stands : resolved file k name ≡ resolution.Function (suc i) = cc in
    let h : suc i < 1 + length (map (λ (f : Func). f.name) (functions file)) =
    place_within (same_name name) 1 (map (λ (f : Func). f.name) (functions file)) (suc i) (is_function file k name (suc i) stands) in
    let l : length (map (λ (f : Func). f.name) (functions file)) ≡ length (functions file) = length-map (functions file) (λ (f : Func). f.name) in
    omega arith

injective : {X : Type 0} (x y : X) → Some x ≡ Some y → x ≡ y
injective x y is = cc

same_slot : (i j : ℕ) → Slot i ≡ Slot j → Some i ≡ Some j
same_slot i j is = cc

-- a name that is known as a slot is a local with that slot
pub slot_is : (file : File) (rs : List Routine) (k : ℕ) (name : List ℕ) (i : ℕ) → rs ≡ routines file → IsKnown file k name (known.Slot i)
    → (resolution.Local ≡ resolved file k name) × ((j : ℕ) → Slot i ≡ Slot j → place (slots_in (slice_get rs k)) name ≡ Some j)
slot_is file rs k name i are is = (
  injective resolution.Local (resolved file k name) is.resolution,
  λ j same. ap (λ (ns : List (List ℕ)). place ns name) (slots file rs k are) ∙ is.slot i refl ∙ same_slot i j same,
)

value_within : (cs : List (List ℕ × Value)) (i : ℕ) (o : Option (List ℕ × Value)) (r : Resolution) → slice_get cs i ≡ o
    → option_map (λ c. resolution.Constant c.1) o ≡ Some r → i < length cs
value_within cs i None r at is = cc
value_within cs i (Some c) r at is = slice_get_within cs i c at

-- the place of a constant is below the count of constants
pub constant_within : (file : File) (cs : List (List ℕ × Value)) (k : ℕ) (name : List ℕ) (i : ℕ) → cs ≡ constants file → IsKnown file k name (known.Constant i) → i < length cs
constant_within file cs k name i are is =
    subst (λ (l : List (List ℕ × Value)). i < length l) (sym are) (value_within (constants file) i (slice_get (constants file) i) (resolved file k name) refl is.resolution)

-- a name that is known as a constant stands for its value
pub constant_is : (file : File) (cs : List (List ℕ × Value)) (k : ℕ) (name : List ℕ) (i : ℕ) (d : List ℕ × Value) → cs ≡ constants file
    → IsKnown file k name (known.Constant i) → resolution.Constant (get_or cs i d).1 ≡ resolved file k name
constant_is file cs k name i d are is =
    injective (resolution.Constant (get_or cs i d).1) (resolved file k name)
    (ap (option_map (λ (c : List ℕ × Value). resolution.Constant c.1)) (sym (slice_get-get_or cs i d (constant_within file cs k name i are is))
    ∙ ap (λ (l : List (List ℕ × Value)). slice_get l i) are) ∙ is.resolution)
