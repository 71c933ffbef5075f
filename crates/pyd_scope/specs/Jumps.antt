-- The `return`, `break` and `continue` of statements.
use Rattle.std.specs.Prelude.{ℕ, List, [], ◌∷◌, ◌++◌}
use Rattle.pyd_tree.specs.declared.statement.Stmt.{Stmt, fold-Stmt}
use Rattle.pyd_tree.specs.declared.statement.Block.{Block, fold-Block}
use Rattle.pyd_tree.specs.declared.statement.Arm.{Arm, fold-Arm}
use Rattle.pyd_names.specs.Binding.{joined, or_empty}
use Rattle.pyd_tree.specs.declared.statement.What.TheOpen.{What-F, Arm-F, Block-F, Stmt-F}

-- the statements of an arm
abbrev pub arm_step : Arm-F (ℕ → List ℕ) (List ℕ) (List ℕ) (List ℕ) → List ℕ
arm_step a = a.body

-- the statements of a suite
abbrev pub block_step : Block-F (ℕ → List ℕ) (List ℕ) (List ℕ) (List ℕ) → List ℕ
block_step b = joined b.stmts

-- a statement in its line
abbrev pub statement_step : Stmt-F (ℕ → List ℕ) (List ℕ) (List ℕ) (List ℕ) → List ℕ
statement_step s = s.what s.line

-- the line of a `return`, and those of the ones within a statement
abbrev pub return_step : What-F (ℕ → List ℕ) (List ℕ) (List ℕ) (List ℕ) → ℕ → List ℕ
return_step (What-F.Expr e) line = []
return_step (What-F.Assign targets e) line = []
return_step (What-F.Aug name op e) line = []
return_step (What-F.If arms otherwise) line = joined arms ++ or_empty otherwise
return_step (What-F.While test body) line = body
return_step (What-F.For targets e body) line = body
return_step (What-F.Return e) line = line ∷ []
return_step What-F.Break line = []
return_step What-F.Continue line = []
return_step What-F.Pass line = []
return_step (What-F.Assert test message) line = []

-- what a rule on statements says of a statement
abbrev pub in_statement : (What-F (ℕ → List ℕ) (List ℕ) (List ℕ) (List ℕ) → ℕ → List ℕ) → Stmt → List ℕ
in_statement step = fold-Stmt (ℕ → List ℕ) (List ℕ) (List ℕ) (List ℕ) step arm_step block_step statement_step

-- what it says of an arm
abbrev pub in_arm : (What-F (ℕ → List ℕ) (List ℕ) (List ℕ) (List ℕ) → ℕ → List ℕ) → Arm → List ℕ
in_arm step = fold-Arm (ℕ → List ℕ) (List ℕ) (List ℕ) (List ℕ) step arm_step block_step statement_step

-- what it says of a suite
abbrev pub in_block : (What-F (ℕ → List ℕ) (List ℕ) (List ℕ) (List ℕ) → ℕ → List ℕ) → Block → List ℕ
in_block step = fold-Block (ℕ → List ℕ) (List ℕ) (List ℕ) (List ℕ) step arm_step block_step statement_step

-- the line of a `break` or `continue`, and those of the ones within a statement that no loop in it holds
abbrev pub break_step : What-F (ℕ → List ℕ) (List ℕ) (List ℕ) (List ℕ) → ℕ → List ℕ
break_step (What-F.Expr e) line = []
break_step (What-F.Assign targets e) line = []
break_step (What-F.Aug name op e) line = []
break_step (What-F.If arms otherwise) line = joined arms ++ or_empty otherwise
break_step (What-F.While test body) line = []
break_step (What-F.For targets e body) line = []
break_step (What-F.Return e) line = []
break_step What-F.Break line = line ∷ []
break_step What-F.Continue line = line ∷ []
break_step What-F.Pass line = []
break_step (What-F.Assert test message) line = []

-- the lines of the `return`s in a statement
abbrev pub returns : Stmt → List ℕ
returns = in_statement return_step

-- the lines of the `break`s and `continue`s in a statement that no loop in it holds
abbrev pub breaks_in : Stmt → List ℕ
breaks_in = in_statement break_step

-- those in a suite
abbrev pub loose_breaks : Block → List ℕ
loose_breaks = in_block break_step
