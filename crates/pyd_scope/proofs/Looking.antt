-- What is found by the cells of a routine is what has the number.
use Rattle.std.proofs.Common.{◌≡◌, ℕ, zero, suc, ◌+◌, List, length, drop, Option, Some, None, refl, sym, ap, subst, ◌∙◌, arith}
use Rattle.std.specs.Prelude.{slice_get, option_map, option_and_then}
use Rattle.pyd_tree.specs.declared.expression.Expr.{Expr}
use Rattle.pyd_tree.specs.declared.expression.Suffix.{Suffix}
use Rattle.pyd_tree.specs.declared.statement.Stmt.{Stmt}
use Rattle.pyd_tree.specs.declared.file.File.{File}
use Rattle.pyd_tree.specs.declared.file.Func.{Func}
use Rattle.pyd_names.specs.Binding.{functions}
use Rattle.pyd_scope.specs.declared.cells.Origin.{Origin}
use Rattle.pyd_scope.specs.declared.cells.Origin.TheVariants.{Header, Part, Low, High}
use Rattle.pyd_scope.specs.declared.cells.ExpressionCell.{ExpressionCell}
use Rattle.pyd_scope.specs.declared.cells.StatementCell.{StatementCell}
use Rattle.pyd_scope.specs.Numbering.{Entry, contents, expressions, body, body_of, table, expression_table, point, past_first, start}
use Rattle.pyd_scope.specs.Parting.{part_at, low, high, header_at}
use Rattle.pyd_scope.specs.Locating.{statement_in, suffix_at, located, suite_stmts}
use Rattle.pyd_scope.specs.Cells.{Cells, body_cells}
use Rattle.pyd_scope.specs.Indexing.{function_cells, routine_cells, statement_cell, expression_cell}
use Rattle.pyd_scope.proofs.Items.{map_at, none_in_either}
use Rattle.pyd_scope.proofs.Froms.{from_at}
use Rattle.pyd_scope.proofs.Stands.{stands_whole}
use Rattle.pyd_scope.proofs.Contents.{of_contents}
use Rattle.pyd_scope.proofs.ContentsStand.{IsSized, sized}
use Rattle.pyd_scope.proofs.CellsStand.{IsEarlier, IsCell}
use Rattle.pyd_scope.proofs.StatementsStand.{IsLater, IsStatementCell, FitsAt, fits_body}

-- the statement cells of a function that may be there
of_function : (o : Option Func) (k : ℕ)
    → option_and_then (λ (c : Cells). slice_get c.statements k) (option_map function_cells o)
    ≡ slice_get (body_cells (body_of o)).statements k
of_function None k = refl
of_function (Some f) k = refl

-- its expression cells
expressions_of_function : (o : Option Func) (k : ℕ)
    → option_and_then (λ (c : Cells). slice_get c.expressions k) (option_map function_cells o)
    ≡ slice_get (body_cells (body_of o)).expressions k
expressions_of_function None k = refl
expressions_of_function (Some f) k = refl

-- the cells of a routine's statements are those of its body
pub statement_at : (file : File) (routine k : ℕ)
    → statement_cell (routine_cells file) routine k
    ≡ slice_get (body_cells (body file routine)).statements k
statement_at file zero k = refl
statement_at file (suc r) k =
    ap (option_and_then (λ (c : Cells). slice_get c.statements k))
    (map_at function_cells (functions file) r)
    ∙ of_function (slice_get (functions file) r) k

-- and those of its expressions
pub expression_at : (file : File) (routine k : ℕ)
    → expression_cell (routine_cells file) routine k
    ≡ slice_get (body_cells (body file routine)).expressions k
expression_at file zero k = refl
expression_at file (suc r) k =
    ap (option_and_then (λ (c : Cells). slice_get c.expressions k))
    (map_at function_cells (functions file) r)
    ∙ expressions_of_function (slice_get (functions file) r) k

-- the entry of statements whose first expression has this number
abbrev pub entry_from : ℕ → List Stmt → Entry
entry_from number ss = record { stmts = ss; expression = number }

module _ (file : File) (routine : ℕ) where
  -- the entries of the routine
  abbrev entries : List Entry
  entries = table file routine

  -- its expressions
  abbrev all : List Expr
  all = expression_table file routine

  -- its cells
  abbrev cells : Cells
  cells = body_cells (body file routine)

  -- they are right, and as many as its statements and expressions
  right : FitsAt entries all (body file routine) (contents (body file routine)) start cells
  right =
      fits_body entries all (body file routine)
      (stands_whole (table file routine), stands_whole (expression_table file routine))

  -- the cell of a statement is right
  pub statement_right : (k : ℕ) (c : StatementCell) → slice_get cells.statements k ≡ Some c
      → IsStatementCell entries all (body file routine) k c
  statement_right k c is =
      let number : 0 + k ≡ k = omega arith in
      subst (λ n. IsStatementCell entries all (body file routine) n c) number
      (from_at (IsStatementCell entries all (body file routine)) 0 cells.statements k c
      right.statements is)

  -- the cell of an expression is right
  pub expression_right : (k : ℕ) (c : ExpressionCell) → slice_get cells.expressions k ≡ Some c
      → IsCell entries all k c
  expression_right k c is =
      let number : 0 + k ≡ k = omega arith in
      subst (λ n. IsCell entries all n c) number
      (from_at (IsCell entries all) 0 cells.expressions k c right.expressions is)

  -- where no statement has a cell there is none
  pub no_statement : (k : ℕ) → slice_get cells.statements k ≡ None → slice_get entries k ≡ None
  no_statement k is =
      let count = ap (λ p. p.statement) right.behind in
      let size = of_contents IsSized sized (body file routine) 0 in
      let same : length cells.statements ≡ length entries = omega (arith, count, size) in
      none_in_either cells.statements entries k same is

  -- where no expression has a cell there is none
  pub no_expression : (k : ℕ) → slice_get cells.expressions k ≡ None → slice_get all k ≡ None
  no_expression k is =
      let count = ap (λ p. p.expression) right.behind in
      let same : length cells.expressions ≡ length all = omega (arith, count) in
      none_in_either cells.expressions all k same is

  -- an entry by the statements of its block that may be there
  of_block : (at number : ℕ) (o : Option (List Stmt)) (found : Option (List Stmt))
      → found ≡ option_map (drop at) o
      → option_map (entry_from number) found
      ≡ option_map (λ ss. entry_from number (drop at ss)) o
  of_block at number None found is =
      ap (option_map (entry_from number)) is
  of_block at number (Some ss) found is =
      ap (option_map (entry_from number)) is

  -- the statement of a cell, with those that follow it
  pub found_entry : (k : ℕ) (c : StatementCell) (found : Option (List Stmt))
      → slice_get cells.statements k ≡ Some c
      → found ≡ option_map (drop c.at) (suite_stmts entries (body file routine) c.suite)
      → option_map (entry_from c.expression) found
      ≡ slice_get entries k
  found_entry k c found is block =
      of_block c.at c.expression (suite_stmts entries (body file routine) c.suite) found block
      ∙ (statement_right k c is).entry

  -- the place behind it
  pub found_behind : (k : ℕ) (c : StatementCell) (ss : List Stmt)
      → slice_get cells.statements k ≡ Some c
      → Some ss ≡ option_map (drop c.at) (suite_stmts entries (body file routine) c.suite)
      → point c.behind_statement c.behind_expression ≡ past_first ss (point k c.expression)
  found_behind k c ss is block =
      (statement_right k c is).behind (entry_from c.expression ss)
      (sym (found_entry k c (Some ss) is block))

  -- the number of the statement whose suite it is in is lower
  pub found_later : (k : ℕ) (c : StatementCell) → slice_get cells.statements k ≡ Some c
      → IsLater c.suite k
  found_later k c is = (statement_right k c is).later

  -- the expression of which a cell tells
  pub found_origin : (k : ℕ) (c : ExpressionCell) (o : Origin)
      → slice_get cells.expressions k ≡ Some c → c.origin ≡ o
      → located entries all o ≡ slice_get all k
  found_origin k c o is origin =
      ap (located entries all) (sym origin) ∙ (expression_right k c is).origin

  -- what it is a part of has a lower number
  pub found_earlier : (k : ℕ) (c : ExpressionCell) (o : Origin)
      → slice_get cells.expressions k ≡ Some c → c.origin ≡ o → IsEarlier k o
  found_earlier k c o is origin = subst (IsEarlier k) origin (expression_right k c is).earlier

  -- one in a header
  pub found_header : (k : ℕ) (c : ExpressionCell) (stmt at : ℕ) (s : Option Stmt)
      → slice_get cells.expressions k ≡ Some c → c.origin ≡ Header stmt at
      → s ≡ statement_in (slice_get entries stmt)
      → option_and_then (λ z. header_at z at) s ≡ slice_get all k
  found_header k c stmt at s is origin statement =
      ap (option_and_then (λ z. header_at z at)) statement
      ∙ found_origin k c (Header stmt at) is origin

  -- a part outside brackets
  pub found_part : (k : ℕ) (c : ExpressionCell) (of at : ℕ) (e : Option Expr)
      → slice_get cells.expressions k ≡ Some c → c.origin ≡ Part of at
      → e ≡ slice_get all of
      → option_and_then (λ z. part_at z at) e ≡ slice_get all k
  found_part k c of at e is origin whole =
      ap (option_and_then (λ z. part_at z at)) whole ∙ found_origin k c (Part of at) is origin

  -- an index or a lower bound
  pub found_low : (k : ℕ) (c : ExpressionCell) (of at : ℕ) (s : Option Suffix)
      → slice_get cells.expressions k ≡ Some c → c.origin ≡ Low of at
      → s ≡ suffix_at all of at → option_and_then low s ≡ slice_get all k
  found_low k c of at s is origin suffix =
      ap (option_and_then low) suffix ∙ found_origin k c (Low of at) is origin

  -- an upper bound
  pub found_high : (k : ℕ) (c : ExpressionCell) (of at : ℕ) (s : Option Suffix)
      → slice_get cells.expressions k ≡ Some c → c.origin ≡ High of at
      → s ≡ suffix_at all of at → option_and_then high s ≡ slice_get all k
  found_high k c of at s is origin suffix =
      ap (option_and_then high) suffix ∙ found_origin k c (High of at) is origin

  -- the number behind an expression
  pub found_end : (k : ℕ) (c : ExpressionCell) → slice_get cells.expressions k ≡ Some c
      → option_map (λ e. k + length (expressions e)) (slice_get all k) ≡ Some c.behind
  found_end k c is = (expression_right k c is).behind

  -- the number behind none
  pub no_end : (k : ℕ) → slice_get cells.expressions k ≡ None
      → option_map (λ e. k + length (expressions e)) (slice_get all k) ≡ None
  no_end k is = ap (option_map (λ e. k + length (expressions e))) (no_expression k is)
