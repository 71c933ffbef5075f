-- Where the statements and expressions stand of which the cells of a routine tell.
use Rattle.std.specs.Prelude.{ℕ, List, drop, slice_get, Option, Some, option_map, option_and_then}
use Rattle.pyd_tree.specs.declared.expression.Expr.{Expr}
use Rattle.pyd_tree.specs.declared.expression.Suffix.{Suffix}
use Rattle.pyd_tree.specs.declared.statement.Stmt.{Stmt}
use Rattle.pyd_scope.specs.declared.cells.Origin.{Origin}
use Rattle.pyd_scope.specs.declared.cells.Origin.TheVariants.{Header, Part, Low, High}
use Rattle.pyd_scope.specs.declared.cells.Suite.{Suite}
use Rattle.pyd_scope.specs.declared.cells.Suite.TheVariants.{Body, Arm, Otherwise, LoopBody}
use Rattle.pyd_scope.specs.declared.cells.StatementCell.{StatementCell}
use Rattle.pyd_scope.specs.Numbering.{Entry}
use Rattle.pyd_scope.specs.Parting.{suffixes_of, part_at, low, high, header_at, arm_suite, else_suite, loop_suite}
use Rattle.pyd_scope.specs.Blocks.{block_stmts}

-- the first of the statements of an entry
abbrev pub first_of : Entry → Option Stmt
first_of e = slice_get e.stmts 0

-- that of an entry that may be there
abbrev pub statement_in : Option Entry → Option Stmt
statement_in o = option_and_then first_of o

-- the brackets at a place behind expression `of`
abbrev pub suffix_at : List Expr → ℕ → ℕ → Option Suffix
suffix_at all of at = option_and_then (λ e. slice_get (suffixes_of e) at) (slice_get all of)

-- the expression that is a part of something, by the entries and the expressions of a routine
abbrev pub located : List Entry → List Expr → Origin → Option Expr
located entries all (Header stmt at) =
    option_and_then (λ s. header_at s at) (statement_in (slice_get entries stmt))
located entries all (Part of at) = option_and_then (λ e. part_at e at) (slice_get all of)
located entries all (Low of at) = option_and_then low (suffix_at all of at)
located entries all (High of at) = option_and_then high (suffix_at all of at)

-- the statements of a block, by the entries and the body of a routine
abbrev pub suite_stmts : List Entry → List Stmt → Suite → Option (List Stmt)
suite_stmts entries body Body = Some body
suite_stmts entries body (Arm stmt arm) =
    option_map block_stmts
    (option_and_then (λ s. arm_suite s arm) (statement_in (slice_get entries stmt)))
suite_stmts entries body (Otherwise stmt) =
    option_map block_stmts (option_and_then else_suite (statement_in (slice_get entries stmt)))
suite_stmts entries body (LoopBody stmt) =
    option_map block_stmts (option_and_then loop_suite (statement_in (slice_get entries stmt)))

-- the entry of which a cell tells
abbrev pub entry_in : List Entry → List Stmt → StatementCell → Option Entry
entry_in entries body c =
    option_map (λ ss. record { stmts = drop c.at ss; expression = c.expression })
    (suite_stmts entries body c.suite)
