-- What a script binds: the names in text order, its module lines, and from these its constants, functions and locals.
use Rattle.std.specs.Prelude.{ℕ, zero, suc, ◌==◌, List, [], ◌∷◌, ◌++◌, map, count_by, nat_eq, codes, Bool, true, false, not, ◌&&◌, ◌||◌, if◌then◌else◌, Option, Some, None, is_some}
use Rattle.std.specs.List.{filter, filter_map, flat_map, list_any, slice_get}
use Rattle.std.specs.Cmp.Lexicographic.{pointwise}
use Rattle.pyd_value.specs.declared.value.Value.{Value, out-Value, Text}
use Rattle.pyd_value.specs.declared.value.Value.TheOpen.{Value-F}
use Rattle.pyd_tree.specs.declared.expression.Expr.{Expr, out-Expr}
use Rattle.pyd_tree.specs.declared.expression.Expr.TheOpen.{Expr-F}
use Rattle.pyd_tree.specs.declared.statement.Block.{Block, fold-Block}
use Rattle.pyd_tree.specs.declared.statement.Stmt.{Stmt, fold-Stmt}
use Rattle.pyd_tree.specs.declared.statement.Arm.{Arm, fold-Arm}
use Rattle.pyd_tree.specs.declared.statement.What.{What, out-What, fold-What}
use Rattle.pyd_tree.specs.declared.statement.What.TheOpen.{What-F, Arm-F, Block-F, Stmt-F}
use Rattle.pyd_tree.specs.declared.file.File.{File}
use Rattle.pyd_tree.specs.declared.file.Func.{Func}
use Rattle.pyd_tree.specs.declared.file.Item.{Item}
use Rattle.pyd_tree.specs.declared.file.Item.TheVariants as item
use Rattle.pyd_names.specs.declared.binding.Binding.{Binding}
use Rattle.pyd_names.specs.Literal.{literal}

-- whether two names are the same
abbrev pub same_name : List ℕ → List ℕ → Bool
same_name = pointwise nat_eq

-- whether a name is among others
abbrev pub is_among : List (List ℕ) → List ℕ → Bool
is_among names name = list_any (same_name name) names

-- the names in the order in which they come first, each once
abbrev pub distinct : List (List ℕ) → List (List ℕ)
distinct [] = []
distinct (n ∷ ns) = n ∷ filter (λ m. not (same_name n m)) (distinct ns)

-- the name, bound in the line
abbrev pub bound_in : ℕ → List ℕ → Binding
bound_in line name = record { line = line; name = name }

-- lists end to end
abbrev pub joined : {A : Type 0} → List (List A) → List A
joined lists = flat_map (λ list. list) lists

-- nothing where there is none
abbrev pub or_empty : {A : Type 0} → Option (List A) → List A
or_empty None = []
or_empty (Some list) = list

-- one level of what a statement does in its line: targets of assignments, augmented assignments and `for` bind
abbrev pub what_binds : What-F (ℕ → List Binding) (List Binding) (List Binding) (List Binding) → ℕ → List Binding
what_binds (What-F.Expr e) line = []
what_binds (What-F.Assign to e) line = map (bound_in line) to.names
what_binds (What-F.Aug name op e) line = bound_in line name ∷ []
what_binds (What-F.If arms otherwise) line = joined arms ++ or_empty otherwise
what_binds (What-F.While test body) line = body
what_binds (What-F.For to over body) line = map (bound_in line) to.names ++ body
what_binds (What-F.Return e) line = []
what_binds What-F.Break line = []
what_binds What-F.Continue line = []
what_binds What-F.Pass line = []
what_binds (What-F.Assert test message) line = []

-- one level of an arm
abbrev pub arm_binds : Arm-F (ℕ → List Binding) (List Binding) (List Binding) (List Binding) → List Binding
arm_binds a = a.body

-- one level of a block
abbrev pub block_binds : Block-F (ℕ → List Binding) (List Binding) (List Binding) (List Binding) → List Binding
block_binds b = joined b.stmts

-- one level of a statement
abbrev pub statement_binds : Stmt-F (ℕ → List Binding) (List Binding) (List Binding) (List Binding) → List Binding
statement_binds s = s.what s.line

-- what a block binds, in text order
abbrev pub bindings : Block → List Binding
bindings = fold-Block (ℕ → List Binding) (List Binding) (List Binding) (List Binding) what_binds arm_binds block_binds statement_binds

-- what a statement binds, in text order
abbrev pub statement_bindings : Stmt → List Binding
statement_bindings = fold-Stmt (ℕ → List Binding) (List Binding) (List Binding) (List Binding) what_binds arm_binds block_binds statement_binds

-- what an arm binds
abbrev pub arm_bindings : Arm → List Binding
arm_bindings = fold-Arm (ℕ → List Binding) (List Binding) (List Binding) (List Binding) what_binds arm_binds block_binds statement_binds

-- what a statement binds that does this in its line
abbrev pub what_bindings : What → ℕ → List Binding
what_bindings = fold-What (ℕ → List Binding) (List Binding) (List Binding) (List Binding) what_binds arm_binds block_binds statement_binds

-- what the suite of an `else` binds, if there is one
abbrev pub otherwise_bindings : Option Block → List Binding
otherwise_bindings None = []
otherwise_bindings (Some block) = bindings block

-- the names that are bound
abbrev pub names_of : List Binding → List (List ℕ)
names_of bs = map (λ b. b.name) bs

-- the one target of an assignment with no comma
abbrev pub one_target : Bool → List (List ℕ) → Option (List ℕ)
one_target false [] = None
one_target false (n ∷ []) = Some n
one_target false (n ∷ m ∷ ns) = None
one_target true ns = None

-- a name with a right side, if the name is there
abbrev pub with_right : Expr → Option (List ℕ) → Option (List ℕ × Expr)
with_right e None = None
with_right e (Some n) = Some (n, e)

-- the name and the right side of `NAME = e`
abbrev pub plain_in : {A B C D : Type 0} → What-F A B C D → Option (List ℕ × Expr)
plain_in (What-F.Expr e) = None
plain_in (What-F.Assign to e) = with_right e (one_target to.tuple to.names)
plain_in (What-F.Aug name op e) = None
plain_in (What-F.If arms otherwise) = None
plain_in (What-F.While test body) = None
plain_in (What-F.For to over body) = None
plain_in (What-F.Return e) = None
plain_in What-F.Break = None
plain_in What-F.Continue = None
plain_in What-F.Pass = None
plain_in (What-F.Assert test message) = None

-- the name and the right side of a plain assignment
abbrev pub plain_assignment : Stmt → Option (List ℕ × Expr)
plain_assignment s = plain_in (out-What s.what)

-- a name with a value, if the value is there
abbrev pub with_value : List ℕ → Option Value → Option (List ℕ × Value)
with_value n None = None
with_value n (Some v) = Some (n, v)

-- the name and the value, if the right side is a literal
abbrev pub with_literal : Option (List ℕ × Expr) → Option (List ℕ × Value)
with_literal None = None
with_literal (Some a) = with_value a.0 (literal a.1)

-- the name and the value of a plain assignment of a literal
abbrev pub literal_assignment : Stmt → Option (List ℕ × Value)
literal_assignment s = with_literal (plain_assignment s)

-- whether a value is a text
abbrev pub text_in : {A : Type 0} → Value-F A → Bool
text_in (Value-F.Int n) = false
text_in (Value-F.Bool b) = false
text_in (Value-F.Text s) = true
text_in (Value-F.Tuple members) = false
text_in Value-F.None = false

-- whether an expression is a string literal
abbrev pub string_in : {A B : Type 0} → Expr-F A B → Bool
string_in (Expr-F.Lit v) = text_in (out-Value v)
string_in (Expr-F.Name name) = false
string_in (Expr-F.Tuple members) = false
string_in (Expr-F.Unary op operand) = false
string_in (Expr-F.Chain first links) = false
string_in (Expr-F.Power base exponent) = false
string_in (Expr-F.And operands) = false
string_in (Expr-F.Or operands) = false
string_in (Expr-F.Compare first links) = false
string_in (Expr-F.If test left right) = false
string_in (Expr-F.Call name arguments) = false
string_in (Expr-F.Suffixed base suffixes) = false

-- whether a statement is an expression that is one string literal
abbrev pub string_line_in : {A B C D : Type 0} → What-F A B C D → Bool
string_line_in (What-F.Expr e) = string_in (out-Expr e)
string_line_in (What-F.Assign to e) = false
string_line_in (What-F.Aug name op e) = false
string_line_in (What-F.If arms otherwise) = false
string_line_in (What-F.While test body) = false
string_line_in (What-F.For to over body) = false
string_line_in (What-F.Return e) = false
string_line_in What-F.Break = false
string_line_in What-F.Continue = false
string_line_in What-F.Pass = false
string_line_in (What-F.Assert test message) = false

-- whether a statement is a string line
abbrev pub is_string_line : Stmt → Bool
is_string_line s = string_line_in (out-What s.what)

-- whether constants may follow: a string line, an import, a `def` or a plain assignment of a literal
abbrev pub constants_may_follow : Item → Bool
constants_may_follow (item.Import line from names) = true
constants_may_follow (item.Def f) = true
constants_may_follow (item.Stmt s) = is_string_line s || is_some (literal_assignment s)

-- what an item of the module binds, `def`s and imports apart
abbrev pub item_bindings : Item → List Binding
item_bindings (item.Import line from names) = []
item_bindings (item.Def f) = []
item_bindings (item.Stmt s) = statement_bindings s

-- the names that the module's statements bind, as often as they do
abbrev pub statement_names : File → List (List ℕ)
statement_names file = names_of (flat_map item_bindings file.items)

-- whether the names have this one once
abbrev pub is_once : List ℕ → List (List ℕ) → Bool
is_once name names = count_by (same_name name) names == 1

-- a module line: an import, a `def`, a constant with its line, name and value, or a module statement
pub data Line : Type 0 where
  Import : ℕ → List ℕ → List (List ℕ) → Line
  Function : Func → Line
  Constant : ℕ → List ℕ → Value → Line
  Statement : Stmt → Line

-- whether the name of a plain assignment of a literal is bound once
abbrev pub is_constant_literal : (List ℕ → Bool) → Option (List ℕ × Value) → Bool
is_constant_literal once None = false
is_constant_literal once (Some a) = once a.0

-- a plain assignment of a literal is a constant where constants may stand and its name is bound once
abbrev pub statement_line : (List ℕ → Bool) → Bool → Stmt → Option (List ℕ × Value) → Line
statement_line once early s None = Statement s
statement_line once early s (Some a) = if early && once a.0 then Constant s.line a.0 a.1 else Statement s

-- what an item is
abbrev pub line_of : (List ℕ → Bool) → Bool → Item → Line
line_of once early (item.Import line from names) = Import line from names
line_of once early (item.Def f) = Function f
line_of once early (item.Stmt s) = statement_line once early s (literal_assignment s)

-- what each item is; constants stand only as long as they may follow each item before
abbrev pub lines_from : (List ℕ → Bool) → Bool → List Item → List Line
lines_from once early [] = []
lines_from once early (i ∷ is) = line_of once early i ∷ lines_from once (early && constants_may_follow i) is

-- whether the module's statements bind a name once
abbrev pub binds_once : File → List ℕ → Bool
binds_once file name = is_once name (statement_names file)

-- the module lines, one for each item
abbrev pub lines : File → List Line
lines file = lines_from (binds_once file) true file.items

-- a constant's name and value
abbrev pub constant_in : Line → Option (List ℕ × Value)
constant_in (Import line from names) = None
constant_in (Function f) = None
constant_in (Constant line name value) = Some (name, value)
constant_in (Statement s) = None

-- whether a line is a constant
abbrev pub is_constant : Line → Bool
is_constant (Import line from names) = false
is_constant (Function f) = false
is_constant (Constant line name value) = true
is_constant (Statement s) = false

-- for each item of a file whether it is a constant
abbrev pub constant_marks : File → List Bool
constant_marks file = map is_constant (lines file)

-- `__name__`, which each script has
abbrev pub name_constant : List ℕ × Value
name_constant = (codes "__name__", Text (codes "__main__"))

-- the constants with their values: `__name__`, and then those of the file in text order
abbrev pub constants : File → List (List ℕ × Value)
constants file = name_constant ∷ filter_map constant_in (lines file)

-- a module statement
abbrev pub statement_in : Line → Option Stmt
statement_in (Import line from names) = None
statement_in (Function f) = None
statement_in (Constant line name value) = None
statement_in (Statement s) = Some s

-- the module statements in text order: what is no import, no `def` and no constant
abbrev pub module_statements : File → List Stmt
module_statements file = filter_map statement_in (lines file)

-- the names of an import
abbrev pub imports_in : Item → List (List ℕ)
imports_in (item.Import line from names) = names
imports_in (item.Def f) = []
imports_in (item.Stmt s) = []

-- the names that are imported, in text order
abbrev pub imported_names : File → List (List ℕ)
imported_names file = flat_map imports_in file.items

-- the function of a `def`
abbrev pub function_in : Item → Option Func
function_in (item.Import line from names) = None
function_in (item.Def f) = Some f
function_in (item.Stmt s) = None

-- the functions in text order
abbrev pub functions : File → List Func
functions file = filter_map function_in file.items

-- routine 0 is the module and no function, routine k the k-th function
abbrev pub function : File → ℕ → Option Func
function file zero = None
function file (suc k) = slice_get (functions file) k

-- what the module statements bind, in text order
abbrev pub module_bindings : File → List Binding
module_bindings file = flat_map statement_bindings (module_statements file)

-- the module variables, each once
abbrev pub module_variables : File → List (List ℕ)
module_variables file = distinct (names_of (module_bindings file))

-- a function's parameters, and then the other names that it binds, each once
abbrev pub function_locals : Func → List (List ℕ)
function_locals f = distinct (map (λ p. p.1) f.params ++ names_of (bindings f.body))

-- the locals of a function that is there
abbrev pub locals_in : Option Func → List (List ℕ)
locals_in None = []
locals_in (Some f) = function_locals f

-- the locals of a routine: in the module its variables
abbrev pub locals : File → ℕ → List (List ℕ)
locals file zero = module_variables file
locals file (suc k) = locals_in (function file (suc k))
