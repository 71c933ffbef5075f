-- The condition under which a file is checked.
use Rattle.std.specs.Prelude.{◌≡◌, ◌<◌, ℕ, ◌+◌, ◌^◌, List, [], ◌∷◌, map, length, nat_le, Bool, true, false, not, ◌&&◌, Option, Some, None}
use Rattle.std.specs.List.{list_all}
use Rattle.pyd_value.specs.declared.value.Value.{Value, out-Value}
use Rattle.pyd_value.specs.declared.value.Value.TheOpen.{Value-F}
use Rattle.pyd_value.specs.Size.{total, size_of}
use Rattle.pyd_value.specs.Limits.{largest_size}
use Rattle.pyd_tree.specs.declared.expression.Expr.{Expr, fold-Expr}
use Rattle.pyd_tree.specs.declared.expression.Expr.TheOpen.{Expr-F, Suffix-F}
use Rattle.pyd_tree.specs.declared.expression.Suffix.{Suffix, fold-Suffix}
use Rattle.pyd_tree.specs.declared.statement.Block.{Block, fold-Block}
use Rattle.pyd_tree.specs.declared.statement.Stmt.{Stmt, fold-Stmt}
use Rattle.pyd_tree.specs.declared.statement.Arm.{Arm, fold-Arm}
use Rattle.pyd_tree.specs.declared.statement.What.{What, fold-What}
use Rattle.pyd_tree.specs.declared.statement.What.TheOpen.{What-F, Arm-F, Block-F, Stmt-F}
use Rattle.pyd_tree.specs.declared.file.File.{File}
use Rattle.pyd_tree.specs.declared.file.Item.{Item}
use Rattle.pyd_tree.specs.declared.file.Item.TheVariants as item

-- 0 where there is none
abbrev pub or_zero : Option ℕ → ℕ
or_zero None = 0
or_zero (Some n) = n

-- the parts of an expression, itself among them, each part being given by its own
abbrev pub count_expression : Expr-F ℕ ℕ → ℕ
count_expression (Expr-F.Lit v) = 1
count_expression (Expr-F.Name name) = 1
count_expression (Expr-F.Tuple members) = 1 + total members
count_expression (Expr-F.Unary op operand) = 1 + operand
count_expression (Expr-F.Chain first links) = 1 + (first + total (map (λ l. l.1) links))
count_expression (Expr-F.Power base exponent) = 1 + (base + exponent)
count_expression (Expr-F.And operands) = 1 + total operands
count_expression (Expr-F.Or operands) = 1 + total operands
count_expression (Expr-F.Compare first links) = 1 + (first + total (map (λ l. l.1) links))
count_expression (Expr-F.If test left right) = 1 + (test + (left + right))
count_expression (Expr-F.Call name arguments) = 1 + total arguments
count_expression (Expr-F.Suffixed base suffixes) = 1 + (base + total suffixes)

-- the parts of a suffix, itself among them
abbrev pub count_suffix : Suffix-F ℕ ℕ → ℕ
count_suffix (Suffix-F.Index index) = 1 + index
count_suffix (Suffix-F.Slice lower upper) = 1 + (or_zero lower + or_zero upper)

-- expressions and suffixes in an expression
abbrev pub expression_parts : Expr → ℕ
expression_parts = fold-Expr ℕ ℕ count_expression count_suffix

-- expressions and suffixes in brackets, the brackets among them
abbrev pub suffix_parts : Suffix → ℕ
suffix_parts = fold-Suffix ℕ ℕ count_expression count_suffix

-- those of an expression that may be missing
abbrev pub maybe_parts : Option Expr → ℕ
maybe_parts None = 0
maybe_parts (Some e) = expression_parts e

-- the parts of what a statement does, each target being a name
abbrev pub count_what : What-F ℕ ℕ ℕ ℕ → ℕ
count_what (What-F.Expr e) = expression_parts e
count_what (What-F.Assign to e) = length to.names + expression_parts e
count_what (What-F.Aug name op e) = 1 + expression_parts e
count_what (What-F.If arms otherwise) = total arms + or_zero otherwise
count_what (What-F.While test body) = expression_parts test + body
count_what (What-F.For to over body) = length to.names + (expression_parts over + body)
count_what (What-F.Return e) = maybe_parts e
count_what What-F.Break = 0
count_what What-F.Continue = 0
count_what What-F.Pass = 0
count_what (What-F.Assert test message) = expression_parts test + maybe_parts message

-- an arm and its parts
abbrev pub count_arm : Arm-F ℕ ℕ ℕ ℕ → ℕ
count_arm a = 1 + (expression_parts a.test + a.body)

-- the parts of a block
abbrev pub count_block : Block-F ℕ ℕ ℕ ℕ → ℕ
count_block b = total b.stmts

-- a statement and its parts
abbrev pub count_statement : Stmt-F ℕ ℕ ℕ ℕ → ℕ
count_statement s = 1 + s.what

-- statements, arms, expressions, suffixes and targets in a block
abbrev pub block_parts : Block → ℕ
block_parts = fold-Block ℕ ℕ ℕ ℕ count_what count_arm count_block count_statement

-- the same in a statement
abbrev pub statement_parts : Stmt → ℕ
statement_parts = fold-Stmt ℕ ℕ ℕ ℕ count_what count_arm count_block count_statement

-- the same in an arm
abbrev pub arm_parts : Arm → ℕ
arm_parts = fold-Arm ℕ ℕ ℕ ℕ count_what count_arm count_block count_statement

-- the same in what a statement does
abbrev pub what_parts : What → ℕ
what_parts = fold-What ℕ ℕ ℕ ℕ count_what count_arm count_block count_statement

-- the same in the suite of an `else`, if there is one
abbrev pub otherwise_parts : Option Block → ℕ
otherwise_parts None = 0
otherwise_parts (Some block) = block_parts block

-- an item and its parts
abbrev pub item_parts : Item → ℕ
item_parts (item.Import line from names) = 1 + length names
item_parts (item.Def f) = 1 + (length f.marks + (length f.params + block_parts f.body))
item_parts (item.Stmt s) = 1 + statement_parts s

-- items, statements, arms, expressions, suffixes, names and parameters together
abbrev pub parts : File → ℕ
parts file = total (map item_parts file.items)

-- whether there is one at least
abbrev pub some_are : {A : Type 0} → List A → Bool
some_are [] = false
some_are (x ∷ xs) = true

-- whether there are two at least
abbrev pub two_are : {A : Type 0} → List A → Bool
two_are [] = false
two_are (x ∷ xs) = some_are xs

-- whether each test holds
abbrev pub all_hold : List Bool → Bool
all_hold bs = list_all (λ b. b) bs

-- what is missing is well formed
abbrev pub or_true : Option Bool → Bool
or_true None = true
or_true (Some b) = b

-- whether a value is no tuple
abbrev pub is_scalar : {A : Type 0} → Value-F A → Bool
is_scalar (Value-F.Int n) = true
is_scalar (Value-F.Bool b) = true
is_scalar (Value-F.Text s) = true
is_scalar (Value-F.Tuple members) = false
is_scalar Value-F.None = true

-- a literal of one token is no tuple and within the size limit
abbrev pub is_token_value : Value → Bool
is_token_value v = is_scalar (out-Value v) && nat_le (size_of v) largest_size

-- no list of operators or suffixes is empty, and `and` and `or` have two operands at least
abbrev pub form_expression : Expr-F Bool Bool → Bool
form_expression (Expr-F.Lit v) = is_token_value v
form_expression (Expr-F.Name name) = true
form_expression (Expr-F.Tuple members) = all_hold members
form_expression (Expr-F.Unary op operand) = operand
form_expression (Expr-F.Chain first links) = some_are links && (first && all_hold (map (λ l. l.1) links))
form_expression (Expr-F.Power base exponent) = base && exponent
form_expression (Expr-F.And operands) = two_are operands && all_hold operands
form_expression (Expr-F.Or operands) = two_are operands && all_hold operands
form_expression (Expr-F.Compare first links) = some_are links && (first && all_hold (map (λ l. l.1) links))
form_expression (Expr-F.If test left right) = test && (left && right)
form_expression (Expr-F.Call name arguments) = all_hold arguments
form_expression (Expr-F.Suffixed base suffixes) = some_are suffixes && (base && all_hold suffixes)

-- the parts in brackets
abbrev pub form_suffix : Suffix-F Bool Bool → Bool
form_suffix (Suffix-F.Index index) = index
form_suffix (Suffix-F.Slice lower upper) = or_true lower && or_true upper

-- whether an expression is well formed
abbrev pub is_formed_expression : Expr → Bool
is_formed_expression = fold-Expr Bool Bool form_expression form_suffix

-- whether what stands in brackets is well formed
abbrev pub is_formed_suffix : Suffix → Bool
is_formed_suffix = fold-Suffix Bool Bool form_expression form_suffix

-- whether an expression is well formed, if it is there
abbrev pub is_formed_maybe : Option Expr → Bool
is_formed_maybe None = true
is_formed_maybe (Some e) = is_formed_expression e

-- whether there is one name exactly
abbrev pub one_is : {A : Type 0} → List A → Bool
one_is [] = false
one_is (x ∷ xs) = not (some_are xs)

-- targets have a name, and one exactly where they are no tuple
abbrev pub formed_targets : Bool → List (List ℕ) → Bool
formed_targets true names = some_are names
formed_targets false names = one_is names

-- no list of arms is empty, and targets have their names
abbrev pub form_what : What-F Bool Bool Bool Bool → Bool
form_what (What-F.Expr e) = is_formed_expression e
form_what (What-F.Assign to e) = formed_targets to.tuple to.names && is_formed_expression e
form_what (What-F.Aug name op e) = is_formed_expression e
form_what (What-F.If arms otherwise) = some_are arms && (all_hold arms && or_true otherwise)
form_what (What-F.While test body) = is_formed_expression test && body
form_what (What-F.For to over body) = formed_targets to.tuple to.names && (is_formed_expression over && body)
form_what (What-F.Return e) = is_formed_maybe e
form_what What-F.Break = true
form_what What-F.Continue = true
form_what What-F.Pass = true
form_what (What-F.Assert test message) = is_formed_expression test && is_formed_maybe message

-- the parts of an arm
abbrev pub form_arm : Arm-F Bool Bool Bool Bool → Bool
form_arm a = is_formed_expression a.test && a.body

-- no block is empty
abbrev pub form_block : Block-F Bool Bool Bool Bool → Bool
form_block b = some_are b.stmts && all_hold b.stmts

-- the parts of a statement
abbrev pub form_statement : Stmt-F Bool Bool Bool Bool → Bool
form_statement s = s.what

-- whether a block is well formed
abbrev pub is_formed_block : Block → Bool
is_formed_block = fold-Block Bool Bool Bool Bool form_what form_arm form_block form_statement

-- whether a statement is well formed
abbrev pub is_formed_statement : Stmt → Bool
is_formed_statement = fold-Stmt Bool Bool Bool Bool form_what form_arm form_block form_statement

-- whether an arm is well formed
abbrev pub is_formed_arm : Arm → Bool
is_formed_arm = fold-Arm Bool Bool Bool Bool form_what form_arm form_block form_statement

-- whether what a statement does is well formed
abbrev pub is_formed_what : What → Bool
is_formed_what = fold-What Bool Bool Bool Bool form_what form_arm form_block form_statement

-- whether the suite of an `else` is well formed, if there is one
abbrev pub is_formed_otherwise : Option Block → Bool
is_formed_otherwise None = true
is_formed_otherwise (Some block) = is_formed_block block

-- whether an item is well formed
abbrev pub is_formed_item : Item → Bool
is_formed_item (item.Import line from names) = true
is_formed_item (item.Def f) = is_formed_block f.body
is_formed_item (item.Stmt s) = is_formed_statement s

-- a file with fewer than 2^32 parts, each well formed
pub record IsWellFormed (file : File) : Type 0 where
  pub few : parts file < 2 ^ 32
  pub formed : list_all is_formed_item file.items ≡ true
