-- The statement of a number, by its parts where it is compound.
use Rattle.std.specs.Prelude.{ℕ, List, [], ◌∷◌, Option}
use Rattle.pyd_tree.specs.declared.expression.Expr.{Expr}
use Rattle.pyd_tree.specs.declared.statement.What.{What, out-What}
use Rattle.pyd_tree.specs.declared.statement.What.TheOpen.{What-F}
use Rattle.pyd_tree.specs.declared.statement.Arm.{Arm}
use Rattle.pyd_tree.specs.declared.statement.Block.{Block}
use Rattle.pyd_tree.specs.declared.statement.Stmt.{Stmt}
use Rattle.pyd_tree.specs.declared.statement.Targets.{Targets}
use Rattle.pyd_tree.specs.declared.file.File.{File}
use Rattle.pyd_scope.specs.Numbering.{Point, past_statement}
use Rattle.pyd_scope.specs.Passages.{Passage, passage_at}

-- an `if`, a loop, or a statement that isn't compound
pub data Compound : Type 0 where
  Choice : List Arm → Option Block → Compound
  WhileLoop : Expr → Block → Compound
  ForLoop : Targets → Expr → Block → Compound
  Simple : Compound

-- the parts of one level of a statement
abbrev pub compound_of : What-F What Arm Block Stmt → Compound
compound_of (What-F.If arms otherwise) = Choice arms otherwise
compound_of (What-F.While test body) = WhileLoop test body
compound_of (What-F.For targets e body) = ForLoop targets e body
compound_of (What-F.Expr e) = Simple
compound_of (What-F.Assign targets e) = Simple
compound_of (What-F.Aug name op e) = Simple
compound_of (What-F.Return e) = Simple
compound_of What-F.Break = Simple
compound_of What-F.Continue = Simple
compound_of What-F.Pass = Simple
compound_of (What-F.Assert test message) = Simple

-- the parts of the first of some statements
abbrev pub first_compound : List Stmt → Compound
first_compound [] = Simple
first_compound (s ∷ ss) = compound_of (out-What s.what)

-- the line of the first of some statements
abbrev pub first_line : List Stmt → ℕ
first_line [] = 0
first_line (s ∷ ss) = s.line

-- what follows the first of some statements
abbrev pub behind : List Stmt → List Stmt
behind [] = []
behind (s ∷ ss) = ss

-- the place behind the first of some statements that begin at a place
abbrev pub past_first : List Stmt → Point → Point
past_first [] p = p
past_first (s ∷ ss) p = past_statement s p

-- what follows the first statement of a passage
abbrev pub passage_behind : Passage → Passage
passage_behind here = record { stmts = behind here.stmts; point = past_first here.stmts here.point }

-- statement k of a routine by its parts
abbrev pub compound_at : File → ℕ → ℕ → Compound
compound_at file routine k = first_compound (passage_at file routine k).stmts

-- the line of statement k of a routine
abbrev pub line_at : File → ℕ → ℕ → ℕ
line_at file routine k = first_line (passage_at file routine k).stmts
