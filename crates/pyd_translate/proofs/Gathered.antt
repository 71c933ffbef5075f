-- What is gathered from statements in text order, level by level: the names that they bind, their `return`s, and their `break`s.
use Rattle.std.proofs.Common.{◌≡◌, ℕ, List, map, Some, None, refl, ap, ◌∙◌}
use Rattle.std.specs.Prelude.{option_map}
use Rattle.pyd_tree.specs.declared.statement.What.{What, out-What}
use Rattle.pyd_tree.specs.declared.statement.What.TheOpen.{What-F, Arm-F, Block-F, Stmt-F}
use Rattle.pyd_tree.specs.declared.statement.What.TheFolds.{map-What, fold-What, fold-Arm, fold-Block, fold-Stmt, fold_out-What, fold_out-Arm, fold_out-Block, fold_out-Stmt}
use Rattle.pyd_tree.specs.declared.statement.Arm.{Arm, out-Arm}
use Rattle.pyd_tree.specs.declared.statement.Block.{Block, out-Block}
use Rattle.pyd_tree.specs.declared.statement.Stmt.{Stmt}
use Rattle.pyd_names.specs.Binding.{joined}

module _ (A : Type 0) (step : What-F (ℕ → List A) (List A) (List A) (List A) → ℕ → List A) where
  -- of an arm it is that of its suite
  abbrev arm_step : Arm-F (ℕ → List A) (List A) (List A) (List A) → List A
  arm_step a = a.body

  -- of a suite it is that of its statements
  abbrev block_step : Block-F (ℕ → List A) (List A) (List A) (List A) → List A
  block_step b = joined b.stmts

  -- of a statement it is that of what it does in its line
  abbrev statement_step : Stmt-F (ℕ → List A) (List A) (List A) (List A) → List A
  statement_step s = s.what s.line

  -- from what a statement does
  abbrev pub from_what : What → ℕ → List A
  from_what = fold-What (ℕ → List A) (List A) (List A) (List A) step arm_step block_step statement_step

  -- from an arm
  abbrev pub from_arm : Arm → List A
  from_arm = fold-Arm (ℕ → List A) (List A) (List A) (List A) step arm_step block_step statement_step

  -- from a suite
  abbrev pub from_block : Block → List A
  from_block =
      fold-Block (ℕ → List A) (List A) (List A) (List A) step arm_step block_step statement_step

  -- from a statement
  abbrev pub from_statement : Stmt → List A
  from_statement =
      fold-Stmt (ℕ → List A) (List A) (List A) (List A) step arm_step block_step statement_step

  -- one level of a statement, its parts replaced by what is gathered from them
  abbrev pub gathered : What-F What Arm Block Stmt → What-F (ℕ → List A) (List A) (List A) (List A)
  gathered (What-F.Expr e) = What-F.Expr e
  gathered (What-F.Assign targets e) = What-F.Assign targets e
  gathered (What-F.Aug name op e) = What-F.Aug name op e
  gathered (What-F.If arms last) = What-F.If (map from_arm arms) (option_map from_block last)
  gathered (What-F.While test body) = What-F.While test (from_block body)
  gathered (What-F.For targets e body) = What-F.For targets e (from_block body)
  gathered (What-F.Return e) = What-F.Return e
  gathered What-F.Break = What-F.Break
  gathered What-F.Continue = What-F.Continue
  gathered What-F.Pass = What-F.Pass
  gathered (What-F.Assert test message) = What-F.Assert test message

  mapped : (y : What-F What Arm Block Stmt)
      → map-What What Arm Block Stmt (ℕ → List A) (List A) (List A) (List A)
      from_what from_arm from_block from_statement y ≡ gathered y
  mapped (What-F.Expr e) = refl
  mapped (What-F.Assign targets e) = refl
  mapped (What-F.Aug name op e) = refl
  mapped (What-F.If arms None) = refl
  mapped (What-F.If arms (Some last)) = refl
  mapped (What-F.While test body) = refl
  mapped (What-F.For targets e body) = refl
  mapped (What-F.Return e) = refl
  mapped What-F.Break = refl
  mapped What-F.Continue = refl
  mapped What-F.Pass = refl
  mapped (What-F.Assert test message) = refl

  -- from a statement by its level
  pub statement_level : (s : Stmt) → from_statement s ≡ step (gathered (out-What s.what)) s.line
  statement_level s =
      fold_out-Stmt (ℕ → List A) (List A) (List A) (List A) step arm_step block_step statement_step s
      ∙ ap (λ (f : ℕ → List A). f s.line)
      (fold_out-What (ℕ → List A) (List A) (List A) (List A) step arm_step block_step statement_step
      s.what ∙ ap step (mapped (out-What s.what)))

  -- from a suite by its statements
  pub block_level : (b : Block)
      → from_block b ≡ joined (map from_statement (out-Block b).stmts)
  block_level b =
      fold_out-Block (ℕ → List A) (List A) (List A) (List A) step arm_step block_step statement_step b

  -- from an arm by its suite
  pub arm_level : (a : Arm) → from_arm a ≡ from_block (out-Arm a).body
  arm_level a =
      fold_out-Arm (ℕ → List A) (List A) (List A) (List A) step arm_step block_step statement_step a
