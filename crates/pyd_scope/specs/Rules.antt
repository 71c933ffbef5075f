-- The rules of scope, each as the lines that break it.
use Rattle.std.specs.Prelude.{ℕ, suc, List, [], ◌∷◌, ◌++◌, map, codes, Bool, true, false, not, ◌&&◌, ◌||◌, if◌then◌else◌, Option, Some, None, is_some}
use Rattle.std.specs.List.{flat_map, list_any, list_all}
use Rattle.pyd_value.specs.declared.operator.Builtin.{Builtin}
use Rattle.pyd_value.specs.declared.operator.Builtin.TheVariants as builtin
use Rattle.pyd_tree.specs.declared.expression.Expr.{Expr}
use Rattle.pyd_tree.specs.declared.statement.Stmt.{Stmt}
use Rattle.pyd_tree.specs.declared.file.File.{File}
use Rattle.pyd_tree.specs.declared.file.Func.{Func}
use Rattle.pyd_tree.specs.declared.file.Item.{Item}
use Rattle.pyd_tree.specs.declared.file.Item.TheVariants as item
use Rattle.pyd_names.specs.declared.binding.Binding.{Binding}
use Rattle.pyd_names.specs.declared.name_use.NameUse.{NameUse}
use Rattle.pyd_names.specs.declared.name_use.Manner.{Manner}
use Rattle.pyd_names.specs.declared.name_use.Manner.TheVariants as manner
use Rattle.pyd_names.specs.Literal.{literal}
use Rattle.pyd_names.specs.Binding.{Line, same_name, is_among, bound_in, lines, module_bindings, plain_assignment, is_string_line, imports_in, imported_names, functions, function}
use Rattle.pyd_names.specs.Binding as line
use Rattle.pyd_names.specs.Resolution.{Resolution, resolved, builtin_named}
use Rattle.pyd_names.specs.Resolution as resolution
use Rattle.pyd_names.specs.Uses.{routine_uses}
use Rattle.pyd_scope.specs.declared.standing.Standing.{Standing}
use Rattle.pyd_scope.specs.declared.standing.Standing.TheVariants as standing
use Rattle.pyd_scope.specs.declared.sightings.Sighting.{Sighting}
use Rattle.pyd_scope.specs.Jumps.{returns, loose_breaks, breaks_in}

-- the line, if it breaks the rule
abbrev pub line_if : Bool → ℕ → List ℕ
line_if breaks line = if breaks then line ∷ [] else []

-- the lines of the bindings whose names are bound by others before them
abbrev pub repeats : List (List ℕ) → List Binding → List ℕ
repeats before [] = []
repeats before (b ∷ bs) = line_if (is_among before b.name) b.line ++ repeats (before ++ b.name ∷ []) bs

-- the lines of the bindings whose names the test is true of
abbrev pub bound_where : (List ℕ → Bool) → List Binding → List ℕ
bound_where test bs = flat_map (λ b. line_if (test b.name) b.line) bs

-- what a `def` or a constant defines
abbrev pub definition : Line → List Binding
definition (line.Import line from names) = []
definition (line.Function f) = bound_in f.line f.name ∷ []
definition (line.Constant line name value) = bound_in line name ∷ []
definition (line.Statement s) = []

-- the `def`s and constants in text order
abbrev pub definitions : File → List Binding
definitions file = flat_map definition (lines file)

-- rule 1: a `def` has the name of an earlier `def` or constant, or a constant that of an earlier `def`; no two constants have one name
abbrev pub twice_defined : File → List ℕ
twice_defined file = repeats [] (definitions file)

-- whether no script with these imports may bind the name: it is a builtin's, `__name__`, or imported
abbrev pub is_taken : List (List ℕ) → List ℕ → Bool
is_taken imported name = is_some (builtin_named name) || (same_name name (codes "__name__") || is_among imported name)

-- the names of the `def`s
abbrev pub function_names : File → List (List ℕ)
function_names file = map (λ f. f.name) (functions file)

-- rule 2: a `def`, a constant or a module statement binds a taken name, or a module statement binds a `def`'s
abbrev pub rebind : File → List ℕ
rebind file =
    bound_where (is_taken (imported_names file)) (definitions file)
    ++ bound_where (λ name. is_taken (imported_names file) name || is_among (function_names file) name) (module_bindings file)

-- whether a function has the decorator of this name
abbrev pub has_mark : List ℕ → Func → Bool
has_mark name f = list_any (λ m. same_name m.1 name) f.marks

-- whether a function is `@functional`
abbrev pub is_functional : Func → Bool
is_functional f = has_mark (codes "functional") f

-- whether a routine that is there is `@functional`
abbrev pub is_functional_routine : Option Func → Bool
is_functional_routine None = false
is_functional_routine (Some f) = is_functional f

-- what a name stands for, as far as the rules ask: of a function, whether it is `@functional`
abbrev pub standing_of : File → Resolution → Standing
standing_of file resolution.Local = standing.Local
standing_of file (resolution.Constant v) = standing.Constant
standing_of file (resolution.Function k) = standing.Function (is_functional_routine (function file k))
standing_of file resolution.Imported = standing.Imported
standing_of file (resolution.Builtin b) = standing.Builtin b
standing_of file resolution.Variable = standing.Variable
standing_of file resolution.Unbound = standing.Unbound

-- a use in a routine: its line, its manner, what the name stands for, and whether the routine is `@functional`
abbrev pub sighting : File → ℕ → NameUse → Sighting
sighting file k u = record { line = u.line; manner = u.manner; standing = standing_of file (resolved file k u.name); functional = is_functional_routine (function file k) }

-- the uses in a routine
abbrev pub sightings_in : File → ℕ → List Sighting
sightings_in file k = map (sighting file k) (routine_uses file k)

-- the numbers of some functions, of which this many stand before
abbrev pub numbers_from : ℕ → List Func → List ℕ
numbers_from n [] = []
numbers_from n (f ∷ fs) = suc n ∷ numbers_from (suc n) fs

-- the uses in the module, and then those in each function
abbrev pub sightings : File → List Sighting
sightings file = sightings_in file 0 ++ flat_map (sightings_in file) (numbers_from 0 (functions file))

-- the lines of the uses that the test is true of
abbrev pub seen_where : (Sighting → Bool) → List Sighting → List ℕ
seen_where test ss = flat_map (λ s. line_if (test s) s.line) ss

-- whether a name is called
abbrev pub is_call : Manner → Bool
is_call manner.Read = false
is_call manner.Called = true
is_call manner.Iterated = true

-- whether a builtin is `range`
abbrev pub is_range : Builtin → Bool
is_range builtin.Print = false
is_range builtin.Len = false
is_range builtin.Abs = false
is_range builtin.Min = false
is_range builtin.Max = false
is_range builtin.Sum = false
is_range builtin.Str = false
is_range builtin.Repr = false
is_range builtin.Int = false
is_range builtin.Bool = false
is_range builtin.Range = true

-- whether a builtin is misused: it is read, or it is `range` and not called as the whole iterable of a `for`
abbrev pub misuses : Builtin → Manner → Bool
misuses b manner.Read = true
misuses b manner.Called = is_range b
misuses b manner.Iterated = false

-- whether a name is used so that stands for no value
abbrev pub is_no_value : Standing → Manner → Bool
is_no_value standing.Local m = false
is_no_value standing.Constant m = false
is_no_value (standing.Function functional) m = not (is_call m)
is_no_value standing.Imported m = true
is_no_value (standing.Builtin b) m = misuses b m
is_no_value standing.Variable m = false
is_no_value standing.Unbound m = false

-- rule 3: a `def` or a builtin is read, an imported name is read or called, or `range` is called but as the whole iterable of a `for`
abbrev pub function_value : File → List ℕ
function_value file = seen_where (λ s. is_no_value s.standing s.manner) (sightings file)

-- whether a name stands for a local, a constant or a module variable
abbrev pub is_variable : Standing → Bool
is_variable standing.Local = true
is_variable standing.Constant = true
is_variable (standing.Function functional) = false
is_variable standing.Imported = false
is_variable (standing.Builtin b) = false
is_variable standing.Variable = true
is_variable standing.Unbound = false

-- rule 4: a called name stands for a local, a constant or a module variable
abbrev pub call_of_variable : File → List ℕ
call_of_variable file = seen_where (λ s. is_call s.manner && is_variable s.standing) (sightings file)

-- whether a name stands for a module variable seen from a function
abbrev pub is_global : Standing → Bool
is_global standing.Local = false
is_global standing.Constant = false
is_global (standing.Function functional) = false
is_global standing.Imported = false
is_global (standing.Builtin b) = false
is_global standing.Variable = true
is_global standing.Unbound = false

-- rule 5: in a function, a name that is read stands for a module variable
abbrev pub global_read : File → List ℕ
global_read file = seen_where (λ s. not (is_call s.manner) && is_global s.standing) (sightings file)

-- whether a builtin is `print`
abbrev pub is_print : Builtin → Bool
is_print builtin.Print = true
is_print builtin.Len = false
is_print builtin.Abs = false
is_print builtin.Min = false
is_print builtin.Max = false
is_print builtin.Sum = false
is_print builtin.Str = false
is_print builtin.Repr = false
is_print builtin.Int = false
is_print builtin.Bool = false
is_print builtin.Range = false

-- whether a call may print: of `print`, or of a function that isn't `@functional`
abbrev pub may_print : Standing → Bool
may_print standing.Local = false
may_print standing.Constant = false
may_print (standing.Function functional) = not functional
may_print standing.Imported = false
may_print (standing.Builtin b) = is_print b
may_print standing.Variable = false
may_print standing.Unbound = false

-- rule 6: in a `@functional` body, a call of `print` or of a `def` that isn't `@functional`
abbrev pub impure : File → List ℕ
impure file = seen_where (λ s. s.functional && (is_call s.manner && may_print s.standing)) (sightings file)

-- the `return`s of an item that stand in the module
abbrev pub returns_outside : Item → List ℕ
returns_outside (item.Import line from names) = []
returns_outside (item.Def f) = []
returns_outside (item.Stmt s) = returns s

-- rule 7: `return` in the module
abbrev pub return_outside : File → List ℕ
return_outside file = flat_map returns_outside file.items

-- the `break`s and `continue`s of an item that stand in no loop
abbrev pub breaks_outside : Item → List ℕ
breaks_outside (item.Import line from names) = []
breaks_outside (item.Def f) = loose_breaks f.body
breaks_outside (item.Stmt s) = breaks_in s

-- rule 8: `break` or `continue` in no loop
abbrev pub break_outside : File → List ℕ
break_outside file = flat_map breaks_outside file.items

-- whether a statement is a plain assignment
abbrev pub is_plain : Stmt → Bool
is_plain s = is_some (plain_assignment s)

-- whether a `def` may follow: a string line, an import, a `def` or a plain assignment
abbrev pub defs_may_follow : Item → Bool
defs_may_follow (item.Import line from names) = true
defs_may_follow (item.Def f) = true
defs_may_follow (item.Stmt s) = is_string_line s || is_plain s

-- the line of a `def` or an import
abbrev pub head_line : Item → List ℕ
head_line (item.Import line from names) = line ∷ []
head_line (item.Def f) = f.line ∷ []
head_line (item.Stmt s) = []

-- the lines of the `def`s and imports that come late, where it is known whether each item before lets them follow
abbrev pub late_from : Bool → List Item → List ℕ
late_from early [] = []
late_from early (i ∷ is) = (if early then [] else head_line i) ++ late_from (early && defs_may_follow i) is

-- rule 9: a `def` or import has before it an item that isn't a string line, an import, a `def` or a plain assignment
abbrev pub late_def : File → List ℕ
late_def file = late_from true file.items

-- whether an item is a `def` or an import
abbrev pub is_head : Item → Bool
is_head (item.Import line from names) = true
is_head (item.Def f) = true
is_head (item.Stmt s) = false

-- whether an expression is a literal
abbrev pub is_literal : Expr → Bool
is_literal e = is_some (literal e)

-- whether an assignment that is plain is of what isn't a literal
abbrev pub assigns_computed : Option (List ℕ × Expr) → Bool
assigns_computed None = false
assigns_computed (Some a) = not (is_literal a.1)

-- whether a statement is a plain assignment of what isn't a literal
abbrev pub is_computed : Stmt → Bool
is_computed s = assigns_computed (plain_assignment s)

-- the line of such an assignment
abbrev pub computed_line : Item → List ℕ
computed_line (item.Import line from names) = []
computed_line (item.Def f) = []
computed_line (item.Stmt s) = line_if (is_computed s) s.line

-- the lines of such assignments that have a `def` or import below them
abbrev pub computed_above : List Item → List ℕ
computed_above [] = []
computed_above (i ∷ is) = (if list_any is_head is then computed_line i else []) ++ computed_above is

-- rule 10: a plain assignment of what isn't a literal has a `def` or import below it
abbrev pub not_constant : File → List ℕ
not_constant file = computed_above file.items

-- the names that `pydron` has
abbrev pub mark_names : List (List ℕ)
mark_names = codes "schedule" ∷ codes "functional" ∷ []

-- whether an import is of these names from `pydron`
abbrev pub is_good_import : List ℕ → List (List ℕ) → Bool
is_good_import from names = same_name from (codes "pydron") && list_all (is_among mark_names) names

-- the line of a decorator that is unknown, that no import above names, or that stands before on the same function
abbrev pub bad_mark : List (List ℕ) → List (List ℕ) → ℕ × List ℕ → List ℕ
bad_mark above before m = line_if (not (is_among mark_names m.1 && (is_among above m.1 && not (is_among before m.1)))) m.0

-- the lines of a function's decorators that break the rule
abbrev pub bad_marks : List (List ℕ) → List (List ℕ) → List (ℕ × List ℕ) → List ℕ
bad_marks above before [] = []
bad_marks above before (m ∷ ms) = bad_mark above before m ++ bad_marks above (before ++ m.1 ∷ []) ms

-- the lines of an item's decorators that break the rule, or its line as an import, from the names imported above
abbrev pub bad_in : List (List ℕ) → Item → List ℕ
bad_in above (item.Import line from names) = line_if (not (is_good_import from names)) line
bad_in above (item.Def f) = bad_marks above [] f.marks
bad_in above (item.Stmt s) = []

-- the lines of all such decorators and imports
abbrev pub bad_from : List (List ℕ) → List Item → List ℕ
bad_from above [] = []
bad_from above (i ∷ is) = bad_in above i ++ bad_from (above ++ imports_in i) is

-- rule 11: a decorator other than `schedule` and `functional`, the same twice on one `def`, or one that no import above names; an import from another module or of another name
abbrev pub decorator : File → List ℕ
decorator file = bad_from [] file.items

-- whether a name is repeated, where these names stand before
abbrev pub is_repeating : List (List ℕ) → List (List ℕ) → Bool
is_repeating before [] = false
is_repeating before (n ∷ ns) = is_among before n || is_repeating (before ++ n ∷ []) ns

-- the line of a `def` that has a parameter's name twice
abbrev pub twice_in : Item → List ℕ
twice_in (item.Import line from names) = []
twice_in (item.Def f) = line_if (is_repeating [] (map (λ p. p.1) f.params)) f.line
twice_in (item.Stmt s) = []

-- rule 12: a parameter's name occurs twice in one `def`
abbrev pub twice_parameter : File → List ℕ
twice_parameter file = flat_map twice_in file.items
