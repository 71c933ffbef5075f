-- What is known of a name by the names of a file is what it stands for.
use Rattle.std.proofs.Common.{◌≡◌, ◌⊎◌, ◌<◌, ℕ, suc, List, [], ◌∷◌, map, length, Bool, true, false, cond, if◌then◌else◌, inl, inr, Option, Some, None, is_some, refl, ap, sym, ◌∙◌, subst, get_or, Bor}
use Rattle.std.specs.Prelude.{option_map, slice_index_or}
use Rattle.std.specs.List.{slice_get, position_from}
use Rattle.std.specs.Map.{lookup}
use Rattle.std.proofs.lemmas.Option.{slice_get-map, slice_get-get_or}
use Rattle.pyd_value.specs.declared.value.Value.{Value}
use Rattle.pyd_value.specs.declared.operator.Builtin.{Builtin as BuiltinFunction}
use Rattle.pyd_tree.specs.declared.file.File.{File}
use Rattle.pyd_tree.specs.declared.file.Func.{Func}
use Rattle.pyd_names.specs.Binding.{same_name, is_among, constants, functions, imported_names, module_variables, function_locals, locals_in, locals}
use Rattle.pyd_names.specs.Resolution.{Resolution, resolved, resolved_outside, constant_named, function_named, builtin_named, constant_or, function_or, builtin_or, variable_or_unbound}
use Rattle.pyd_names.specs.Resolution as resolution
use Rattle.pyd_scope.specs.declared.standing.Outside.{Outside}
use Rattle.pyd_scope.specs.declared.table.Entry.{Entry}
use Rattle.pyd_scope.specs.declared.table.Known.{Known}
use Rattle.pyd_scope.specs.declared.table.Known.TheVariants.{Slot, Constant, Routine, Imported}
use Rattle.pyd_scope.specs.Places.{place}
use Rattle.pyd_scope.specs.Rules.{function_names}
use Rattle.pyd_scope.specs.Standings.{IsOutside}
use Rattle.pyd_scope.specs.Tables.{resolution_known, IsKnown, IsTable, AreKnown, found_at, builtin_known, variable_known, known_in}
use Rattle.pyd_scope.proofs.Outsides.{position-suc}
use Rattle.pyd_scope.proofs.Finding.{is_some-place}
use Rattle.pyd_scope.proofs.Resolved.{outside_is_no_local}

-- a key that is there has a place, where its value is
Placed : (List ℕ → Bool) → List (List ℕ × Value) → Option ℕ → Option Value → Type 0
Placed test cs at value = ((at ≡ None) × (value ≡ None)) ⊎ ((i : ℕ) × (c : List ℕ × Value) × (at ≡ Some i) × (slice_get cs i ≡ Some c) × (value ≡ Some c.1))

placed_later : (test : List ℕ → Bool) (c : List ℕ × Value) (cs : List (List ℕ × Value)) (at : Option ℕ) (value : Option Value)
    → Placed test cs at value → Placed test (c ∷ cs) (option_map suc at) value
unfolding Placed
placed_later test c cs at value (inl none) = inl (ap (option_map suc) none.0, none.1)
placed_later test c cs at value (inr some) = inr (suc some.0, some.1, ap (option_map suc) some.2, some.3, some.4)

placed : (test : List ℕ → Bool) (cs : List (List ℕ × Value)) → Placed test cs (position_from test 0 (map (λ c. c.0) cs)) (lookup test cs)
unfolding Placed
placed test [] = inl (refl, refl)
placed test (c ∷ cs) =
    elim (test c.0) as (λ b. Placed test (c ∷ cs) (cond b (Some 0) (position_from test 1 (map (λ d. d.0) cs))) (cond b (Some c.1) (lookup test cs))) [
      | true ↦ inr (0, c, refl, refl, refl)
      | false ↦ subst (λ (o : Option ℕ). Placed test (c ∷ cs) o (lookup test cs)) (sym (position-suc test 0 (map (λ d. d.0) cs)))
          (placed_later test c cs (position_from test 0 (map (λ d. d.0) cs)) (lookup test cs) (placed test cs))
    ]

constant_case : (test : List ℕ → Bool) (cs : List (List ℕ × Value)) (at : Option ℕ) (value : Option Value) (rest : Known) (rest' : Resolution)
    → Placed test cs at value → resolution_known cs rest ≡ Some rest' → resolution_known cs (found_at Constant at rest) ≡ Some (constant_or value rest')
unfolding Placed
constant_case test cs at value rest rest' (inl none) h =
    ap (λ (o : Option ℕ). resolution_known cs (found_at Constant o rest)) none.0 ∙ h ∙ ap (λ (o : Option Value). Some (constant_or o rest')) (sym none.1)
constant_case test cs at value rest rest' (inr some) h =
    ap (λ (o : Option ℕ). resolution_known cs (found_at Constant o rest)) some.2
    ∙ ap (option_map (λ c. resolution.Constant c.1)) some.3
    ∙ ap (λ (o : Option Value). Some (constant_or o rest')) (sym some.4)

function_case : (cs : List (List ℕ × Value)) (o : Option ℕ) (rest : Known) (rest' : Resolution)
    → resolution_known cs rest ≡ Some rest' → resolution_known cs (found_at Routine o rest) ≡ Some (function_or (option_map suc o) rest')
function_case cs None rest rest' h = h
function_case cs (Some i) rest rest' h = refl

imported_case : (cs : List (List ℕ × Value)) (b : Bool) (rest : Known) (rest' : Resolution)
    → resolution_known cs rest ≡ Some rest' → resolution_known cs (if b then Imported else rest) ≡ Some (if b then resolution.Imported else rest')
imported_case cs true rest rest' h = refl
imported_case cs false rest rest' h = h

builtin_case : (cs : List (List ℕ × Value)) (o : Option BuiltinFunction) (rest : Known) (rest' : Resolution)
    → resolution_known cs rest ≡ Some rest' → resolution_known cs (builtin_known o rest) ≡ Some (builtin_or o rest')
builtin_case cs None rest rest' h = h
builtin_case cs (Some b) rest rest' h = refl

variable_case : (cs : List (List ℕ × Value)) (b : Bool) → resolution_known cs (variable_known b) ≡ Some (variable_or_unbound b)
variable_case cs true = refl
variable_case cs false = refl

-- what is known of a name that is no local, by lists of names
plain : List (List ℕ) → List (List ℕ) → List (List ℕ) → List (List ℕ) → List ℕ → Known
plain cs fs is vs name =
    found_at Constant (place cs name) (found_at Routine (place fs name)
    (if is_among is name then Imported else builtin_known (builtin_named name) (variable_known (is_among vs name))))

-- by the lists of a file it is what the name stands for
by_file : (file : File) (name : List ℕ)
    → resolution_known (constants file) (plain (map (λ c. c.0) (constants file)) (function_names file) (imported_names file) (module_variables file) name)
    ≡ Some (resolved_outside file name)
unfolding plain
by_file file name =
    let cs : List (List ℕ × Value) = constants file in
    let after : Resolution = if is_among (imported_names file) name then resolution.Imported else
    builtin_or (builtin_named name) (variable_or_unbound (is_among (module_variables file) name)) in
    constant_case (same_name name) cs (place (map (λ c. c.0) cs) name) (constant_named file name) _ (function_or (option_map suc (place (function_names file) name)) after)
    (placed (same_name name) cs)
    (function_case cs (place (function_names file) name) _ after
    (imported_case cs (is_among (imported_names file) name) _ _
    (builtin_case cs (builtin_named name) _ _ (variable_case cs (is_among (module_variables file) name)))))
    ∙ ap (λ (o : Option ℕ). Some (constant_or (constant_named file name) (function_or o after))) (sym (position-suc (same_name name) 0 (function_names file)))

-- what is known of a name outside
outside_known : (file : File) (o : Outside) → IsOutside file o → (name : List ℕ)
    → resolution_known (constants file) (plain o.constants o.functions o.imported o.variables name) ≡ Some (resolved_outside file name)
outside_known file o is name =
    ap (λ (l : List (List ℕ)). resolution_known (constants file) (plain l o.functions o.imported o.variables name)) is.constants
    ∙ ap (λ (l : List (List ℕ)). resolution_known (constants file) (plain (map (λ c. c.0) (constants file)) l o.imported o.variables name)) is.functions
    ∙ ap (λ (l : List (List ℕ)). resolution_known (constants file) (plain (map (λ c. c.0) (constants file)) (function_names file) l o.variables name)) is.imported
    ∙ ap (λ (l : List (List ℕ)). resolution_known (constants file) (plain (map (λ c. c.0) (constants file)) (function_names file) (imported_names file) l name)) is.variables
    ∙ by_file file name

-- no name that is no local is known as a slot
no_slot : (file : File) (name : List ℕ) (known : Known) (i : ℕ) → resolution_known (constants file) known ≡ Some (resolved_outside file name) → known ≡ Slot i
    → resolved_outside file name ≡ resolution.Local
no_slot file name known i is slot =
    let h : Some resolution.Local ≡ Some (resolved_outside file name) = ap (resolution_known (constants file)) (sym slot) ∙ is in cc

slot_is : (i j : ℕ) → Slot i ≡ Slot j → Some i ≡ Some j
slot_is i j is = cc

-- what is known of a name beside its locals' places
beside : (file : File) (k : ℕ) (name : List ℕ) (rest : Known) (at : Option ℕ) → place (locals file k) name ≡ at
    → resolution_known (constants file) rest ≡ Some (resolved_outside file name) → IsKnown file k name (found_at Slot at rest)
beside file k name rest None none is =
    let apart : is_among (locals file k) name ≡ false = sym (is_some-place (locals file k) name) ∙ ap (λ (o : Option ℕ). is_some o) none in
    record {
      resolution = is ∙ ap (λ (b : Bool). Some (if b then resolution.Local else resolved_outside file name)) (sym apart);
      slot = λ i slot. absurd (outside_is_no_local file name (no_slot file name rest i is slot));
    }
beside file k name rest (Some at) some is =
    let among : is_among (locals file k) name ≡ true = sym (is_some-place (locals file k) name) ∙ ap (λ (o : Option ℕ). is_some o) some in
    record {
      resolution = ap (λ (b : Bool). Some (if b then resolution.Local else resolved_outside file name)) (sym among);
      slot = λ i slot. some ∙ slot_is at i slot;
    }

-- what is known of a name in a routine
known_is : (file : File) (o : Outside) (k : ℕ) (slots : List (List ℕ)) (name : List ℕ) → IsOutside file o → slots ≡ locals file k
    → IsKnown file k name (known_in o slots name)
unfolding plain
known_is file o k slots name is are =
    subst (λ (l : List (List ℕ)). IsKnown file k name (known_in o l name)) (sym are)
    (beside file k name (plain o.constants o.functions o.imported o.variables name) (place (locals file k) name) refl (outside_known file o is name))

-- entries of which each is known are a table
pub table_is : (file : File) (o : Outside) (k : ℕ) (slots : List (List ℕ)) (entries : List Entry) → IsOutside file o → slots ≡ locals file k
    → AreKnown o slots entries → IsTable file k entries
table_is file o k slots entries is are known =
    λ i d within.
    subst (λ (known : Known). IsKnown file k (slice_index_or entries i d).name known) (sym (known i d within))
    (known_is file o k slots (slice_index_or entries i d).name is are)

-- the locals of a function by its number
function_at : (file : File) (fs : List (Bor Func)) (k : ℕ) (f : Bor Func) → map (λ g. g.now) fs ≡ functions file → f ≡ get_or fs k f → k < length fs
    → function_locals f.now ≡ locals file (suc k)
function_at file fs k f listed is within =
    ap locals_in (ap (λ (g : Bor Func). Some g.now) is
    ∙ ap (option_map (λ (g : Bor Func). g.now)) (sym (slice_get-get_or fs k f within))
    ∙ sym (slice_get-map (λ (g : Bor Func). g.now) fs k)
    ∙ ap (λ (gs : List Func). slice_get gs k) listed)

-- the table of a function by its number
pub function_table_is : (file : File) (o : Outside) (fs : List (Bor Func)) (k : ℕ) (f : Bor Func) (entries : List Entry) → IsOutside file o
    → map (λ g. g.now) fs ≡ functions file → f ≡ get_or fs k f → k < length fs → AreKnown o (function_locals f.now) entries → IsTable file (suc k) entries
function_table_is file o fs k f entries is listed at within known =
    table_is file o (suc k) (function_locals f.now) entries is (function_at file fs k f listed at within) known
