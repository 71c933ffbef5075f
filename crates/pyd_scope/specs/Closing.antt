-- What it is to put a cell at its place again, with where what it has ends.
use Rattle.std.specs.Prelude.{◌≡◌, ℕ, List, ◌∷◌, ◌++◌, length}
use Rattle.pyd_scope.specs.declared.cells.Origin.{Origin}
use Rattle.pyd_scope.specs.declared.cells.Suite.{Suite}
use Rattle.pyd_scope.specs.declared.cells.ExpressionCell.{ExpressionCell}
use Rattle.pyd_scope.specs.declared.cells.StatementCell.{StatementCell}
use Rattle.pyd_scope.specs.Cells.{Cells}

-- the cell of an expression that ends where these cells do
abbrev pub ended : Origin → List ExpressionCell → ExpressionCell
ended origin all = record { origin = origin; behind = length all }

-- the cell at a place ends where these cells do, and all others are the same
abbrev pub IsClosed : ℕ → Origin → List ExpressionCell → List ExpressionCell → Type 0
IsClosed place origin old new =
    (front : List ExpressionCell) (c : ExpressionCell) (back : List ExpressionCell)
    → old ≡ front ++ c ∷ back → place ≡ length front
    → new ≡ front ++ ended origin old ∷ back

-- the cell of a statement that ends where these cells do
abbrev pub ended_stmt : Suite → ℕ → ℕ → Cells → StatementCell
ended_stmt b at expression all = record {
  suite = b;
  at = at;
  expression = expression;
  behind_statement = length all.statements;
  behind_expression = length all.expressions;
}

-- the same of a statement
pub record IsClosedStmt (place : ℕ) (b : Suite) (at expression : ℕ) (old new : Cells) : Type 0 where
  pub statements :
      (front : List StatementCell) (c : StatementCell) (back : List StatementCell)
      → old.statements ≡ front ++ c ∷ back → place ≡ length front
      → new.statements ≡ front ++ ended_stmt b at expression old ∷ back
  pub expressions : new.expressions ≡ old.expressions
