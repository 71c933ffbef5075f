-- The cells of a routine's statements and expressions: what each is a part of, and where what follows it begins.
use Rattle.std.specs.Prelude.{ℕ, suc, ◌+◌, List, [], ◌∷◌, ◌++◌, length, Option, Some, None}
use Rattle.pyd_tree.specs.declared.expression.Expr.{Expr, out-Expr, fold-Expr}
use Rattle.pyd_tree.specs.declared.expression.Expr.TheOpen.{Expr-F, Suffix-F}
use Rattle.pyd_tree.specs.declared.expression.Suffix.{Suffix, out-Suffix}
use Rattle.pyd_tree.specs.declared.statement.What.{What, out-What}
use Rattle.pyd_tree.specs.declared.statement.What.TheOpen.{What-F, Arm-F, Block-F, Stmt-F}
use Rattle.pyd_tree.specs.declared.statement.Arm.{Arm, fold-Arm}
use Rattle.pyd_tree.specs.declared.statement.Block.{Block, fold-Block}
use Rattle.pyd_tree.specs.declared.statement.Stmt.{Stmt, fold-Stmt}
use Rattle.pyd_scope.specs.declared.cells.Origin.{Origin}
use Rattle.pyd_scope.specs.declared.cells.Origin.TheVariants.{Header, Part, Low, High}
use Rattle.pyd_scope.specs.declared.cells.Suite.{Suite}
use Rattle.pyd_scope.specs.declared.cells.Suite.TheVariants as suite
use Rattle.pyd_scope.specs.declared.cells.ExpressionCell.{ExpressionCell}
use Rattle.pyd_scope.specs.declared.cells.StatementCell.{StatementCell}
use Rattle.pyd_scope.specs.declared.cells.Columns.{Columns}
use Rattle.pyd_scope.specs.Numbering.{Point, point, inside, start}
use Rattle.pyd_scope.specs.Parting.{direct, brackets, low_in, high_in}

-- the cells of an expression and its parts, by what it is a part of and by its number
abbrev pub Celled : Type 0
Celled = Origin → ℕ → List ExpressionCell

-- parts with what they are parts of, by their places from one on
abbrev pub placed_from : {A : Type 0} → (ℕ → Origin) → ℕ → List A → List (Origin × A)
placed_from origin at [] = []
placed_from origin at (x ∷ xs) = (origin at, x) ∷ placed_from origin (suc at) xs

-- a part that may be missing
abbrev pub placed : {A : Type 0} → Origin → Option A → List (Origin × A)
placed origin None = []
placed origin (Some x) = (origin, x) ∷ []

-- the parts in brackets, by the number of the expression and their place behind it
abbrev pub bounds : {A B : Type 0} → ℕ → ℕ → Suffix-F A B → List (Origin × A)
bounds of at s = placed (Low of at) (low_in s) ++ placed (High of at) (high_in s)

-- the parts in all brackets, from a place on
abbrev pub bounds_from : {A B : Type 0} → (ℕ → ℕ → B → List (Origin × A)) → ℕ → ℕ → List B
    → List (Origin × A)
bounds_from parts of at [] = []
bounds_from parts of at (b ∷ bs) = parts of at b ++ bounds_from parts of (suc at) bs

-- the parts of an expression of a number, those in brackets behind the others
abbrev pub parts : {A B : Type 0} → (ℕ → ℕ → B → List (Origin × A)) → ℕ → Expr-F A B
    → List (Origin × A)
parts inner of y = placed_from (Part of) 0 (direct y) ++ bounds_from inner of 0 (brackets y)

-- the cells of parts one behind the other, the first having this number
abbrev pub in_turn : {A : Type 0} → (A → Celled) → List (Origin × A) → ℕ → List ExpressionCell
in_turn cells [] n = []
in_turn cells (p ∷ ps) n =
    cells p.1 p.0 n ++ in_turn cells ps (n + length (cells p.1 p.0 n))

-- the cell of an expression, before those of its parts
abbrev pub headed_cells : Origin → ℕ → List ExpressionCell → List ExpressionCell
headed_cells origin n cells =
    record { origin = origin; behind = suc n + length cells } ∷ cells

-- the parts in brackets with their cells, by the number of the expression and the place behind it
abbrev pub Bounded : Type 0
Bounded = ℕ → ℕ → List (Origin × Celled)

-- one level of an expression
abbrev pub cells_step : Expr-F Celled Bounded → Celled
cells_step y origin n =
    headed_cells origin n (in_turn (λ c. c) (parts (λ of at b. b of at) n y) (suc n))

-- one level of brackets
abbrev pub bounds_step : Suffix-F Celled Bounded → Bounded
bounds_step s of at = bounds of at s

-- the cells of an expression and its parts
unfoldable pub expression_cells : Expr → Celled
expression_cells e = fold-Expr Celled Bounded cells_step bounds_step e

-- the parts in brackets
abbrev pub suffix_parts : ℕ → ℕ → Suffix → List (Origin × Expr)
suffix_parts of at s = bounds of at (out-Suffix s)

-- the parts of an expression of a number, with what they are parts of
abbrev pub expression_parts : ℕ → Expr → List (Origin × Expr)
expression_parts of e = parts suffix_parts of (out-Expr e)

-- the cells of some parts
abbrev pub part_cells : List (Origin × Expr) → ℕ → List ExpressionCell
part_cells ps n = in_turn expression_cells ps n

-- cells of statements and of expressions
pub record Cells : Type 0 where
  pub statements : List StatementCell
  pub expressions : List ExpressionCell

-- those of a routine
abbrev pub cells_of : Columns → Cells
cells_of c = record { statements = c.statements.items; expressions = c.expressions.items }

-- the cells of a part of a block, by the place where it begins
abbrev pub Making : Type 0
Making = Point → Cells

-- none
abbrev pub no_cells : Making
no_cells p = record { statements = []; expressions = [] }

-- the place behind some cells
abbrev pub past_cells : Cells → Point → Point
past_cells c p = point (p.statement + length c.statements) (p.expression + length c.expressions)

-- some cells, and others behind them
abbrev pub joined_cells : Cells → Cells → Cells
joined_cells a b = record {
  statements = a.statements ++ b.statements;
  expressions = a.expressions ++ b.expressions;
}

-- one part, and then another
abbrev pub then_cells : Making → Making → Making
then_cells a b p = joined_cells (a p) (b (past_cells (a p) p))

-- an expression in the lines of a statement, by the statement's number and its place there
abbrev pub header_cells : ℕ → ℕ → Expr → Making
header_cells stmt at e p =
    record { statements = []; expressions = expression_cells e (Header stmt at) p.expression }

-- one that may be missing
abbrev pub maybe_header : ℕ → ℕ → Option Expr → Making
maybe_header stmt at None = no_cells
maybe_header stmt at (Some e) = header_cells stmt at e

-- the cell of a statement, before those of what stands in it
abbrev pub headed_by : Suite → ℕ → Point → Cells → Cells
headed_by block at p inner =
    let behind = past_cells inner (inside p) in
    record {
      statements =
          record {
            suite = block;
            at = at;
            expression = p.expression;
            behind_statement = behind.statement;
            behind_expression = behind.expression;
          } ∷ inner.statements;
      expressions = inner.expressions;
    }

-- a statement, by its block, its place there and what stands in a statement of its number
abbrev pub stmt_made : Suite → ℕ → (ℕ → Making) → Making
stmt_made block at inner p = headed_by block at p (inner p.statement (inside p))

-- statements of a block, from a place in it on
abbrev pub stmts_from : {S : Type 0} → (S → Suite → ℕ → Making) → Suite → ℕ → List S → Making
stmts_from cells block at [] = no_cells
stmts_from cells block at (s ∷ ss) =
    then_cells (cells s block at) (stmts_from cells block (suc at) ss)

-- arms of a statement, from a place on
abbrev pub arms_from : {A : Type 0} → (A → ℕ → ℕ → Making) → ℕ → ℕ → List A → Making
arms_from cells stmt at [] = no_cells
arms_from cells stmt at (a ∷ arms) =
    then_cells (cells a stmt at) (arms_from cells stmt (suc at) arms)

-- the suite of an `else`
abbrev pub maybe_block : {B : Type 0} → (B → Suite → Making) → ℕ → Option B → Making
maybe_block cells stmt None = no_cells
maybe_block cells stmt (Some b) = cells b (suite.Otherwise stmt)

-- a test, and then an arm's suite
abbrev pub arm_made : {W A B S : Type 0} → (B → Suite → Making) → Arm-F W A B S → ℕ → ℕ → Making
arm_made cells a stmt at =
    then_cells (header_cells stmt at a.test) (cells a.body (suite.Arm stmt at))

-- what stands in a statement of a number
abbrev pub what_made : {W A B S : Type 0} → (A → ℕ → ℕ → Making) → (B → Suite → Making)
    → What-F W A B S → ℕ → Making
what_made arm block (What-F.Expr e) stmt = header_cells stmt 0 e
what_made arm block (What-F.Assign targets e) stmt = header_cells stmt 0 e
what_made arm block (What-F.Aug name op e) stmt = header_cells stmt 0 e
what_made arm block (What-F.If arms otherwise) stmt =
    then_cells (arms_from arm stmt 0 arms) (maybe_block block stmt otherwise)
what_made arm block (What-F.While test body) stmt =
    then_cells (header_cells stmt 0 test) (block body (suite.LoopBody stmt))
what_made arm block (What-F.For targets e body) stmt =
    then_cells (header_cells stmt 0 e) (block body (suite.LoopBody stmt))
what_made arm block (What-F.Return e) stmt = maybe_header stmt 0 e
what_made arm block What-F.Break stmt = no_cells
what_made arm block What-F.Continue stmt = no_cells
what_made arm block What-F.Pass stmt = no_cells
what_made arm block (What-F.Assert test message) stmt =
    then_cells (header_cells stmt 0 test) (maybe_header stmt 1 message)

-- one level of what a statement does
abbrev pub what_step : What-F (ℕ → Making) (ℕ → ℕ → Making) (Suite → Making) (Suite → ℕ → Making)
    → ℕ → Making
what_step = what_made (λ a. a) (λ b. b)

-- one level of an arm
abbrev pub arm_step : Arm-F (ℕ → Making) (ℕ → ℕ → Making) (Suite → Making) (Suite → ℕ → Making)
    → ℕ → ℕ → Making
arm_step = arm_made (λ b. b)

-- one level of a suite
abbrev pub block_step : Block-F (ℕ → Making) (ℕ → ℕ → Making) (Suite → Making) (Suite → ℕ → Making)
    → Suite → Making
block_step b block = stmts_from (λ s. s) block 0 b.stmts

-- one level of a statement
abbrev pub stmt_step : Stmt-F (ℕ → Making) (ℕ → ℕ → Making) (Suite → Making) (Suite → ℕ → Making)
    → Suite → ℕ → Making
stmt_step s block at = stmt_made block at s.what

-- the cells of a statement, by its block and its place there
unfoldable pub stmt_cells : Stmt → Suite → ℕ → Making
stmt_cells s =
    fold-Stmt (ℕ → Making) (ℕ → ℕ → Making) (Suite → Making) (Suite → ℕ → Making)
    what_step arm_step block_step stmt_step s

-- the cells of an arm
unfoldable pub arm_cells : Arm → ℕ → ℕ → Making
arm_cells a =
    fold-Arm (ℕ → Making) (ℕ → ℕ → Making) (Suite → Making) (Suite → ℕ → Making)
    what_step arm_step block_step stmt_step a

-- the cells of a suite
unfoldable pub block_cells : Block → Suite → Making
block_cells b =
    fold-Block (ℕ → Making) (ℕ → ℕ → Making) (Suite → Making) (Suite → ℕ → Making)
    what_step arm_step block_step stmt_step b

-- the cells of what stands in a statement of a number
abbrev pub inner_cells : What → ℕ → Making
inner_cells w stmt = what_made arm_cells block_cells (out-What w) stmt

-- the place behind the cells that a routine begins with
abbrev pub end_of : Cells → Point
end_of c = point (length c.statements) (length c.expressions)

-- what is put behind the cells that a routine begins with
abbrev pub added : Cells → Making → Cells
added before made = joined_cells before (made (end_of before))

-- the cells of a routine with these statements
abbrev pub body_cells : List Stmt → Cells
body_cells ss = stmts_from stmt_cells suite.Body 0 ss start
