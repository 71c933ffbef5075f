-- What each production makes of its parts.
use Rattle.std.specs.Prelude.{ℕ, List, [], ◌∷◌, true, false, Option, Some, None, option_map, option_and_then, unwrap_or}
use Rattle.pyd_lex.specs.declared.token.TokenKind.{TokenKind}
use Rattle.pyd_lex.specs.declared.token.TokenKind.TheVariants as kind
use Rattle.pyd_lex.specs.declared.word.Word.TheVariants as word
use Rattle.pyd_value.specs.declared.value.Value.{Value}
use Rattle.pyd_value.specs.declared.value.Value.TheVariants as value
use Rattle.pyd_value.specs.declared.operator.CmpOp.TheVariants as cmp
use Rattle.pyd_value.specs.declared.operator.UnOp.TheVariants as un
use Rattle.pyd_tree.specs.declared.expression.Expr.{Expr, out-Expr}
use Rattle.pyd_tree.specs.declared.expression.Expr.TheVariants as expr
use Rattle.pyd_tree.specs.declared.expression.Expr.TheOpen.{Expr-F}
use Rattle.pyd_tree.specs.declared.expression.Suffix.{Suffix}
use Rattle.pyd_tree.specs.declared.expression.Suffix.TheVariants as suffix
use Rattle.pyd_tree.specs.declared.statement.Targets.{Targets}
use Rattle.pyd_tree.specs.declared.statement.What.{What}
use Rattle.pyd_tree.specs.declared.statement.What.TheVariants as what
use Rattle.pyd_tree.specs.declared.statement.Arm.{Arm, roll-Arm}
use Rattle.pyd_tree.specs.declared.file.Item.TheVariants as item
use Rattle.pyd_tree.specs.declared.file.Func.{Func}
use Rattle.pyd_derivation.specs.declared.piece.Piece.{Piece}
use Rattle.pyd_derivation.specs.declared.piece.Piece.TheVariants as piece
use Rattle.pyd_derivation.specs.Operators.{operator, sign, comparison}
use Rattle.pyd_derivation.specs.Pieces.{text_in, token_of, kind_of, name_in, expr_of, exprs_of, tuple_of, optional_tuple, optional_expr, links_of, compares_of, suffix_of, suffixes_of, stmt_of, stmts_of, block, suite_of, optional_suite, arms_of, names_of, params_of, marks_of, func_of, item_of, items_of}

-- ## Parts of any kind

-- the part itself
abbrev pub same : Piece → Piece
same p = p

-- the part behind a token
abbrev pub second : Piece → Piece → Piece
second token p = p

-- ## Files

-- no items are left
abbrev pub as_end : Piece → Piece
as_end token = piece.Items []

-- an item, and those behind it
abbrev pub as_items : Piece → Piece → Piece
as_items first rest = piece.Items (item_of first ∷ items_of rest)

-- a statement as an item
abbrev pub as_statement_item : Piece → Piece
as_statement_item stmt = piece.Item (item.Stmt (stmt_of stmt))

-- a function with these decorators
abbrev pub marked : List (ℕ × List ℕ) → Func → Func
marked ms f = record { line = f.line; name = f.name; marks = ms; params = f.params; body = f.body }

-- a function with its decorators as an item
abbrev pub as_function_item : Piece → Piece
as_function_item p = piece.Item (item.Def (marked (marks_of p) (func_of p)))

-- an import: its line, its module and its names
abbrev pub as_import : List ℕ → ℕ → Piece → Piece → Piece → Piece → Piece → Piece → Piece
as_import bytes line word source word_too name rest newline =
    piece.Item (item.Import line (name_in bytes source) (name_in bytes name ∷ names_of rest))

-- a name behind a comma, and those behind it
abbrev pub as_names : List ℕ → ℕ → Piece → Piece → Piece → Piece
as_names bytes line comma name rest = piece.Names (name_in bytes name ∷ names_of rest)

-- ## Functions

-- a decorator above a function, in its own line
abbrev pub as_decorated : List ℕ → ℕ → Piece → Piece → Piece → Piece → Piece
as_decorated bytes line mark name newline p = piece.Def ((line, name_in bytes name) ∷ marks_of p) (func_of p)

-- a function, in the line of its word
abbrev pub as_def : List ℕ → ℕ → Piece → Piece → Piece → Piece → Piece → Piece → Piece
as_def bytes line word name left params right body =
    piece.Def [] (record { line = line; name = name_in bytes name; marks = []; params = params_of params; body = suite_of body })

-- a parameter, and those behind it
abbrev pub as_params : List ℕ → ℕ → Piece → Piece → Piece
as_params bytes line name rest = piece.Params ((line, name_in bytes name) ∷ params_of rest)

-- ## Suites

-- a statement, and those behind it
abbrev pub as_stmts : Piece → Piece → Piece
as_stmts first rest = piece.Stmts (stmt_of first ∷ stmts_of rest)

-- the statements of a suite
abbrev pub as_suite : Piece → Piece → Piece → Piece → Piece → Piece → Piece
as_suite colon newline indent first rest dedent = piece.Suite (block (stmt_of first ∷ stmts_of rest))

-- a test and its suite, in the line of their header
abbrev pub arm : ℕ → Piece → Piece → Arm
arm line test body = roll-Arm (record { line = line; test = expr_of test; body = suite_of body })

-- ## Statements

-- a statement in a line
abbrev pub statement : ℕ → What → Piece
statement line w = piece.Stmt (record { line = line; what = w })

-- the first arm, those of `elif`, and the suite of `else`
abbrev pub as_if : List ℕ → ℕ → Piece → Piece → Piece → Piece → Piece → Piece
as_if bytes line word test body rest other = statement line (what.If (arm line test body ∷ arms_of rest) (optional_suite other))

-- an arm of `elif`, and those behind it
abbrev pub as_elifs : List ℕ → ℕ → Piece → Piece → Piece → Piece → Piece
as_elifs bytes line word test body rest = piece.Arms (arm line test body ∷ arms_of rest)

-- a loop with its test
abbrev pub as_while : List ℕ → ℕ → Piece → Piece → Piece → Piece
as_while bytes line word test body = statement line (what.While (expr_of test) (suite_of body))

-- the targets of a `for`: behind a comma they are a tuple
abbrev pub loop_targets : List ℕ → Piece → Targets
loop_targets name (piece.Names ns) = record { names = name ∷ ns; tuple = true }
loop_targets name p = record { names = name ∷ []; tuple = false }

-- a loop over an iterable
abbrev pub as_for : List ℕ → ℕ → Piece → Piece → Piece → Piece → Piece → Piece → Piece
as_for bytes line word name rest word_too over body =
    statement line (what.For (loop_targets (name_in bytes name) rest) (tuple_of over) (suite_of body))

-- a target, and those behind it
abbrev pub as_targets : List ℕ → ℕ → Piece → Piece → Piece
as_targets bytes line name rest = piece.Names (name_in bytes name ∷ names_of rest)

-- the targets behind a comma
abbrev pub as_more_targets : Piece → Piece → Piece
as_more_targets comma rest = piece.Names (names_of rest)

-- the name that an expression is, by its first level
abbrev pub name_at : Expr-F Expr Suffix → Option (List ℕ)
name_at (Expr-F.Name n) = Some n
name_at x = None

-- the name that an expression is
abbrev pub name_of : Expr → Option (List ℕ)
name_of e = name_at (out-Expr e)

-- the names that these expressions are, where each is one
abbrev pub all_names : List Expr → Option (List (List ℕ))
all_names [] = Some []
all_names (e ∷ es) = option_and_then (λ n. option_map (λ ns. n ∷ ns) (all_names es)) (name_of e)

-- the names of a tuple, where it has some
abbrev pub tuple_names : List Expr → Option (List (List ℕ))
tuple_names [] = None
tuple_names (e ∷ es) = all_names (e ∷ es)

-- the targets that the left side of an assignment is, by its first level: a name, or a tuple of names that isn't empty
abbrev pub targets_at : Expr-F Expr Suffix → Option Targets
targets_at (Expr-F.Name n) = Some (record { names = n ∷ []; tuple = false })
targets_at (Expr-F.Tuple es) = option_map (λ ns. record { names = ns; tuple = true }) (tuple_names es)
targets_at x = None

-- the targets that the left side of an assignment is
abbrev pub targets_of : Expr → Option Targets
targets_of e = targets_at (out-Expr e)

-- targets where there are none
abbrev pub no_targets : Targets
no_targets = record { names = [] ∷ []; tuple = false }

-- an expression, an assignment or an augmented one
abbrev pub assigned : Expr → Piece → What
assigned left (piece.Assign right) = what.Assign (unwrap_or (targets_of left) no_targets) right
assigned left (piece.Augment op right) = what.Aug (unwrap_or (name_of left) []) op right
assigned left p = what.Expr left

-- expressions and what is assigned, as a statement
abbrev pub as_simple : List ℕ → ℕ → Piece → Piece → Piece → Piece
as_simple bytes line tests assignment newline = statement line (assigned (tuple_of tests) assignment)

-- the right side of an assignment
abbrev pub as_assign : Piece → Piece → Piece
as_assign mark tests = piece.Assign (tuple_of tests)

-- the operator and the right side of an augmented assignment
abbrev pub as_augment : Piece → Piece → Piece
as_augment mark tests = piece.Augment (operator (kind_of mark)) (tuple_of tests)

-- the statement that does nothing
abbrev pub as_pass : List ℕ → ℕ → Piece → Piece → Piece
as_pass bytes line word newline = statement line what.Pass

-- the statement that leaves its loop
abbrev pub as_break : List ℕ → ℕ → Piece → Piece → Piece
as_break bytes line word newline = statement line what.Break

-- the statement that goes on with its loop
abbrev pub as_continue : List ℕ → ℕ → Piece → Piece → Piece
as_continue bytes line word newline = statement line what.Continue

-- the statement that returns, with a value or none
abbrev pub as_return : List ℕ → ℕ → Piece → Piece → Piece → Piece
as_return bytes line word tests newline = statement line (what.Return (optional_tuple tests))

-- the statement that asserts, with a message or none
abbrev pub as_assert : List ℕ → ℕ → Piece → Piece → Piece → Piece → Piece
as_assert bytes line word test message newline = statement line (what.Assert (expr_of test) (optional_expr message))

-- ## Expressions

-- a test, and those behind its comma
abbrev pub as_tests : Piece → Piece → Piece
as_tests first (piece.Many rest) = piece.Many (expr_of first ∷ rest)
as_tests first p = piece.Expr (expr_of first)

-- the expressions behind a comma
abbrev pub as_comma : Piece → Piece → Piece
as_comma comma tests = piece.Many (exprs_of tests)

-- an expression, with its condition where it has one
abbrev pub as_test : Piece → Piece → Piece
as_test first (piece.Condition test other) = piece.Expr (expr.If test (expr_of first) other)
as_test first p = piece.Expr (expr_of first)

-- a condition and the other side
abbrev pub as_condition : Piece → Piece → Piece → Piece → Piece
as_condition word test word_too other = piece.Condition (expr_of test) (expr_of other)

-- one operand, or several joined by `or`
abbrev pub as_or : Piece → Piece → Piece
as_or first (piece.Many rest) = piece.Expr (expr.Or (expr_of first ∷ rest))
as_or first p = piece.Expr (expr_of first)

-- one operand, or several joined by `and`
abbrev pub as_and : Piece → Piece → Piece
as_and first (piece.Many rest) = piece.Expr (expr.And (expr_of first ∷ rest))
as_and first p = piece.Expr (expr_of first)

-- an operand behind its word, and those behind it
abbrev pub as_member : Piece → Piece → Piece → Piece
as_member word operand rest = piece.Many (expr_of operand ∷ exprs_of rest)

-- a negated operand
abbrev pub as_not : Piece → Piece → Piece
as_not word operand = piece.Expr (expr.Unary un.Not (expr_of operand))

-- one operand, or a comparison
abbrev pub as_compare : Piece → Piece → Piece
as_compare first (piece.Compares rest) = piece.Expr (expr.Compare (expr_of first) rest)
as_compare first p = piece.Expr (expr_of first)

-- a comparison operator with its operand, and those behind it
abbrev pub as_compared : Piece → Piece → Piece → Piece
as_compared mark operand rest = piece.Compares ((comparison (kind_of mark), expr_of operand) ∷ compares_of rest)

-- `not in` with its operand, and those behind it
abbrev pub as_not_in : Piece → Piece → Piece → Piece → Piece
as_not_in word word_too operand rest = piece.Compares ((cmp.NotIn, expr_of operand) ∷ compares_of rest)

-- an operand and the operators of one level behind it
abbrev pub as_chain : Piece → Piece → Piece
as_chain first (piece.Links rest) = piece.Expr (expr.Chain (expr_of first) rest)
as_chain first p = piece.Expr (expr_of first)

-- an operator with its operand, and those behind it
abbrev pub as_link : Piece → Piece → Piece → Piece
as_link mark operand rest = piece.Links ((operator (kind_of mark), expr_of operand) ∷ links_of rest)

-- an operand behind its sign
abbrev pub as_unary : Piece → Piece → Piece
as_unary mark operand = piece.Expr (expr.Unary (sign (kind_of mark)) (expr_of operand))

-- a base, with its exponent where it has one
abbrev pub as_power : Piece → Piece → Piece
as_power base (piece.Expr exponent) = piece.Expr (expr.Power (expr_of base) exponent)
as_power base p = piece.Expr (expr_of base)

-- an atom, with its suffixes where it has some
abbrev pub as_suffixed : Piece → Piece → Piece
as_suffixed base (piece.Suffixes ss) = piece.Expr (expr.Suffixed (expr_of base) ss)
as_suffixed base p = piece.Expr (expr_of base)

-- an index or a slice, and those behind it
abbrev pub as_suffix : Piece → Piece → Piece → Piece → Piece
as_suffix left sub right rest = piece.Suffixes (suffix_of sub ∷ suffixes_of rest)

-- an index, or a slice with a lower bound
abbrev pub as_sub : Piece → Piece → Piece
as_sub test (piece.Bound upper) = piece.Suffix (suffix.Slice (Some (expr_of test)) upper)
as_sub test p = piece.Suffix (suffix.Index (expr_of test))

-- a slice without a lower bound
abbrev pub as_upper : Piece → Piece → Piece
as_upper colon test = piece.Suffix (suffix.Slice None (optional_expr test))

-- the upper bound of a slice, or none
abbrev pub as_bound : Piece → Piece → Piece
as_bound colon test = piece.Bound (optional_expr test)

-- ## Atoms

-- a name, or a call where there are arguments
abbrev pub as_name : List ℕ → ℕ → Piece → Piece → Piece
as_name bytes line name (piece.Args args) = piece.Expr (expr.Call (name_in bytes name) args)
as_name bytes line name p = piece.Expr (expr.Name (name_in bytes name))

-- the arguments of a call
abbrev pub as_arguments : Piece → Piece → Piece → Piece
as_arguments left tests right = piece.Args (exprs_of tests)

-- what stands in parentheses
abbrev pub as_group : Piece → Piece → Piece → Piece
as_group left tests right = piece.Expr (tuple_of tests)

-- the value of an integer literal
abbrev pub number : TokenKind → Value
number (kind.Int n) = value.Int n
number k = value.None

-- an integer literal
abbrev pub as_int : Piece → Piece
as_int token = piece.Expr (expr.Lit (number (kind_of token)))

-- a string literal
abbrev pub as_text : List ℕ → ℕ → Piece → Piece
as_text bytes line token = piece.Expr (expr.Lit (value.Text (text_in bytes (token_of token))))

-- the value of a keyword
abbrev pub constant : TokenKind → Value
constant (kind.Word word.True) = value.Bool true
constant (kind.Word word.False) = value.Bool false
constant k = value.None

-- True, False or None
abbrev pub as_constant : Piece → Piece
as_constant token = piece.Expr (expr.Lit (constant (kind_of token)))
