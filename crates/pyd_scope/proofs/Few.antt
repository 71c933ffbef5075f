-- A file of few parts has few functions, and few slots in each routine.
use Rattle.std.proofs.Common.{◌≡◌, ◌<◌, ◌≤◌, ℕ, zero, suc, ◌+◌, Bool, true, false, cond, if◌then◌else◌, ◌&&◌, not, List, [], ◌∷◌, ◌++◌, map, length, Option, Some, None, refl, ap, ◌∙◌, subst, arith}
use Rattle.std.specs.List.{filter, filter_map, flat_map, slice_get}
use Rattle.std.proofs.lemmas.List.{length-map, length-append}
use Rattle.pyd_value.specs.Size.{total}
use Rattle.pyd_value.specs.declared.value.Value.{Value}
use Rattle.pyd_tree.specs.declared.statement.Stmt.{Stmt}
use Rattle.pyd_tree.specs.declared.file.File.{File}
use Rattle.pyd_tree.specs.declared.file.Func.{Func}
use Rattle.pyd_tree.specs.declared.file.Item.{Item}
use Rattle.pyd_tree.specs.declared.file.Item.TheVariants as item
use Rattle.pyd_names.specs.Binding.{same_name, distinct, names_of, bindings, statement_bindings, Line, Constant, Statement, statement_line, statement_in, literal_assignment, constants_may_follow, lines_from, binds_once, module_bindings, module_variables, function_in, functions, function_locals, locals_in, locals}
use Rattle.pyd_names.specs.WellFormed.{IsWellFormed, parts, item_parts, block_parts, statement_parts}
use Rattle.pyd_scope.specs.declared.routine.Routine.{Routine}
use Rattle.pyd_scope.specs.Parts.{routines}
use Rattle.pyd_scope.specs.Resolving.{slots_in}
use Rattle.pyd_scope.proofs.Within.{block_within, statement_within}
use Rattle.pyd_scope.proofs.Resolved.{slots, function_names_are}

-- names that are kept by a test are no more
length-kept : (test : List ℕ → Bool) (ns : List (List ℕ)) → length (filter test ns) ≤ length ns
length-kept test [] = omega arith
length-kept test (n ∷ ns) =
    let h : length (filter test ns) ≤ length ns = length-kept test ns in
    elim (test n) as (λ b. length (cond b (n ∷ filter test ns) (filter test ns)) ≤ length (n ∷ ns)) [ true ↦ omega arith | false ↦ omega arith ]

-- distinct names are no more
length-distinct : (ns : List (List ℕ)) → length (distinct ns) ≤ length ns
length-distinct [] = omega arith
length-distinct (n ∷ ns) =
    let h : length (distinct ns) ≤ length ns = length-distinct ns in
    let k : length (filter (λ m. not (same_name n m)) (distinct ns)) ≤ length (distinct ns) = length-kept (λ m. not (same_name n m)) (distinct ns) in
    omega arith

-- a function has no more locals than its parameters and its body's parts
function_within : (f : Func) → length (function_locals f) ≤ length f.params + block_parts f.body
function_within f =
    let d : length (function_locals f) ≤ length (map (λ (p : ℕ × List ℕ). p.1) f.params ++ names_of (bindings f.body)) =
    length-distinct (map (λ (p : ℕ × List ℕ). p.1) f.params ++ names_of (bindings f.body)) in
    let a : length (map (λ (p : ℕ × List ℕ). p.1) f.params ++ names_of (bindings f.body)) ≡ length (map (λ (p : ℕ × List ℕ). p.1) f.params) + length (names_of (bindings f.body)) =
    length-append (map (λ (p : ℕ × List ℕ). p.1) f.params) (names_of (bindings f.body)) in
    let p : length (map (λ (p : ℕ × List ℕ). p.1) f.params) ≡ length f.params = length-map f.params (λ (p : ℕ × List ℕ). p.1) in
    let n : length (names_of (bindings f.body)) ≡ length (bindings f.body) = length-map (bindings f.body) (λ b. b.name) in
    let b : length (bindings f.body) ≤ block_parts f.body = block_within f.body in
    omega arith

-- a function among some items has no more parts than they
function_in_items : (items : List Item) (k : ℕ) (f : Func) → slice_get (filter_map function_in items) k ≡ Some f
    → length f.params + block_parts f.body ≤ total (map item_parts items)
function_in_items [] k f is = cc
function_in_items (item.Import line from names ∷ is) k f at = let h = function_in_items is k f at in omega arith
function_in_items (item.Def g ∷ is) zero f at =
    let same : g ≡ f = cc in
    subst (λ h. length h.params + block_parts h.body ≤ total (map item_parts (item.Def g ∷ is))) same (omega arith)
function_in_items (item.Def g ∷ is) (suc k) f at = let h = function_in_items is k f at in omega arith
function_in_items (item.Stmt s ∷ is) k f at = let h = function_in_items is k f at in omega arith

-- functions are no more than the parts of their items
functions_within : (items : List Item) → length (filter_map function_in items) ≤ total (map item_parts items)
functions_within [] = omega arith
functions_within (item.Import line from names ∷ is) = let h = functions_within is in omega arith
functions_within (item.Def f ∷ is) = let h = functions_within is in omega arith
functions_within (item.Stmt s ∷ is) = let h = functions_within is in omega arith

-- the bindings of the module statements among some lines
bound : List Line → ℕ
bound ls = length (flat_map statement_bindings (filter_map statement_in ls))

-- one statement more
bound_one : (s : Stmt) (ls : List Line) (n : ℕ) → bound ls ≤ n → bound (Statement s ∷ ls) ≤ 1 + statement_parts s + n
unfolding bound
bound_one s ls n h =
    let a : length (statement_bindings s ++ flat_map statement_bindings (filter_map statement_in ls)) ≡ length (statement_bindings s) + bound ls =
    length-append (statement_bindings s) (flat_map statement_bindings (filter_map statement_in ls)) in
    let w : length (statement_bindings s) ≤ statement_parts s = statement_within s in
    omega arith

-- a statement or a constant more
bound_more : (once : List ℕ → Bool) (early : Bool) (s : Stmt) (o : Option (List ℕ × Value)) (ls : List Line) (n : ℕ)
    → bound ls ≤ n → bound (statement_line once early s o ∷ ls) ≤ 1 + statement_parts s + n
unfolding bound
bound_more once early s None ls n h = bound_one s ls n h
bound_more once early s (Some a) ls n h =
    elim (early && once a.0) as (λ b. bound ((if b then Constant s.line a.0 a.1 else Statement s) ∷ ls) ≤ 1 + statement_parts s + n)
    [ true ↦ omega arith | false ↦ bound_one s ls n h ]

-- the bindings of the module statements among some items are no more than the items' parts
bound_within : (once : List ℕ → Bool) (early : Bool) (items : List Item) → bound (lines_from once early items) ≤ total (map item_parts items)
unfolding bound
bound_within once early [] = omega arith
bound_within once early (item.Import line from names ∷ is) =
    let h = bound_within once (early && constants_may_follow (item.Import line from names)) is in omega arith
bound_within once early (item.Def f ∷ is) = let h = bound_within once (early && constants_may_follow (item.Def f)) is in omega arith
bound_within once early (item.Stmt s ∷ is) =
    bound_more once early s (literal_assignment s) (lines_from once (early && constants_may_follow (item.Stmt s)) is) (total (map item_parts is))
    (bound_within once (early && constants_may_follow (item.Stmt s)) is)

-- the module has no more variables than its file has parts
module_within : (file : File) → length (module_variables file) ≤ parts file
unfolding bound
module_within file =
    let d : length (module_variables file) ≤ length (names_of (module_bindings file)) = length-distinct (names_of (module_bindings file)) in
    let n : length (names_of (module_bindings file)) ≡ length (module_bindings file) = length-map (module_bindings file) (λ b. b.name) in
    let b : length (module_bindings file) ≤ parts file = bound_within (binds_once file) true file.items in
    omega arith

-- the locals of a function that may be there
some_within : (file : File) (k : ℕ) (o : Option Func) → slice_get (functions file) k ≡ o → length (locals_in o) ≤ parts file
some_within file k None is = omega arith
some_within file k (Some f) is =
    let l : length (function_locals f) ≤ length f.params + block_parts f.body = function_within f in
    let t : length f.params + block_parts f.body ≤ parts file = function_in_items file.items k f is in
    omega arith

-- a routine has no more locals than its file has parts
locals_within : (file : File) (k : ℕ) → length (locals file k) ≤ parts file
locals_within file zero = module_within file
locals_within file (suc k) = some_within file k (slice_get (functions file) k) refl

-- a well-formed file has few locals in each routine
pub few_locals : (file : File) → IsWellFormed file → (k : ℕ) → length (locals file k) < 4294967296
few_locals file well k =
    let w : length (locals file k) ≤ parts file = locals_within file k in
    let f : parts file < 4294967296 = well.few in
    omega arith

-- and few functions
pub few_functions : (file : File) → IsWellFormed file → length (functions file) < 4294967296
few_functions file well =
    let w : length (functions file) ≤ parts file = functions_within file.items in
    let f : parts file < 4294967296 = well.few in
    omega arith

-- a routine of a program has few slots
pub few_slots : (file : File) (rs : List Routine) (k : ℕ) (r : Routine) (names : List (List ℕ)) → IsWellFormed file → rs ≡ routines file
    → Some r ≡ slice_get rs k → names ≡ r.slots → length names < 4294967296
few_slots file rs k r names well are at is =
    let same : length names ≡ length (locals file k) = ap (λ (ns : List (List ℕ)). length ns) (is ∙ ap slots_in at ∙ slots file rs k are) in
    let few : length (locals file k) < 4294967296 = few_locals file well k in
    omega arith

-- a program has few functions
pub few_numbers : (file : File) (rs fs : List Routine) (m : Routine) → IsWellFormed file → rs ≡ routines file → rs ≡ m ∷ fs → length fs < 4294967296
few_numbers file rs fs m well are split =
    let named : length (map (λ (r : Routine). r.name) fs) ≡ length (map (λ (f : Func). f.name) (functions file)) =
    ap (λ (ns : List (List ℕ)). length ns) (function_names_are file rs fs m are split) in
    let left : length (map (λ (r : Routine). r.name) fs) ≡ length fs = length-map fs (λ (r : Routine). r.name) in
    let right : length (map (λ (f : Func). f.name) (functions file)) ≡ length (functions file) = length-map (functions file) (λ (f : Func). f.name) in
    let few : length (functions file) < 4294967296 = few_functions file well in
    omega arith
