-- Statements that are well formed and have few parts, and what is made of them.
use Rattle.std.proofs.Common.{◌≡◌, ℕ, ◌+◌, ◌≤◌, List, [], ◌∷◌, length, map, Option, Some, None, true, refl, ◌∙◌, arith}
use Rattle.std.specs.Prelude.{option_map}
use Rattle.std.proofs.lemmas.Bool.{and_from}
use Rattle.pyd_value.specs.Size.{total}
use Rattle.pyd_value.specs.declared.operator.BinOp.{BinOp}
use Rattle.pyd_tree.specs.declared.expression.Expr.{Expr}
use Rattle.pyd_tree.specs.declared.statement.Targets.{Targets}
use Rattle.pyd_tree.specs.declared.statement.What.{What}
use Rattle.pyd_tree.specs.declared.statement.What.TheVariants as what
use Rattle.pyd_tree.specs.declared.statement.Block.{Block, roll-Block}
use Rattle.pyd_tree.specs.declared.statement.Stmt.{Stmt}
use Rattle.pyd_tree.specs.declared.statement.Arm.{Arm, roll-Arm}
use Rattle.pyd_names.specs.WellFormed.{or_zero, all_hold, or_true, block_parts, statement_parts, is_formed_block, is_formed_statement, formed_targets}
use Rattle.pyd_grammar.proofs.StatementParts.{what_parts, arm_parts, is_formed_what, is_formed_arm, stmt_parts, stmt_formed, block_is, block_formed, arm_is, arm_formed, if_parts, if_formed, while_parts, while_formed, for_parts, for_formed, expression_is, expression_formed, assign_parts, assign_formed, aug_parts, aug_formed, return_parts, return_formed, assert_parts, assert_formed, pass_parts, pass_formed, break_parts, break_formed, continue_parts, continue_formed}
use Rattle.pyd_grammar.proofs.FormedExpressions.{Formed, FormedMaybe}

-- what a statement does is well formed, and has six parts fewer than this
pub record FormedWhat (x : What) (w : ℕ) : Type 0 where
  pub formed : is_formed_what x ≡ true
  pub few : what_parts x + 6 ≤ w

-- the statement is well formed, and has four parts fewer than this
pub record FormedStmt (s : Stmt) (w : ℕ) : Type 0 where
  pub formed : is_formed_statement s ≡ true
  pub few : statement_parts s + 4 ≤ w

-- the same of all statements, with no more parts than this
pub record FormedStmts (ss : List Stmt) (w : ℕ) : Type 0 where
  pub formed : all_hold (map is_formed_statement ss) ≡ true
  pub few : total (map statement_parts ss) ≤ w

-- the same of a suite
pub record FormedBlock (b : Block) (w : ℕ) : Type 0 where
  pub formed : is_formed_block b ≡ true
  pub few : block_parts b ≤ w

-- the same of arms
pub record FormedArms (xs : List Arm) (w : ℕ) : Type 0 where
  pub formed : all_hold (map is_formed_arm xs) ≡ true
  pub few : total (map arm_parts xs) ≤ w

-- the same of a suite that may be missing
pub record FormedOther (b : Option Block) (w : ℕ) : Type 0 where
  pub formed : or_true (option_map is_formed_block b) ≡ true
  pub few : or_zero (option_map block_parts b) ≤ w

-- targets have their names, and no more of them than this
pub record FormedTargets (t : Targets) (w : ℕ) : Type 0 where
  pub formed : formed_targets t.tuple t.names ≡ true
  pub few : length t.names ≤ w

pub statement : (line : ℕ) (x : What) (m w : ℕ) → FormedWhat x m → m ≤ w + 1 → let s : Stmt = record { line = line; what = x } in FormedStmt s w
statement line x m w h l = let p = stmt_parts line x in record { formed = stmt_formed line x ∙ h.formed; few = omega arith }

pub block : (s : Stmt) (ss : List Stmt) (m n w : ℕ) → FormedStmt s m → FormedStmts ss n → m + n ≤ w → FormedBlock (roll-Block (record { stmts = s ∷ ss })) w
block s ss m n w h k l = let p = block_is (s ∷ ss) in
    record { formed = block_formed s ss ∙ and_from _ _ h.formed k.formed; few = omega arith }

pub stmts_none : (w : ℕ) → FormedStmts [] w
stmts_none w = record { formed = refl; few = omega arith }

pub stmts_cons : (s : Stmt) (ss : List Stmt) (m n w : ℕ) → FormedStmt s m → FormedStmts ss n → m + n ≤ w → FormedStmts (s ∷ ss) w
stmts_cons s ss m n w h k l = record { formed = and_from _ _ h.formed k.formed; few = omega arith }

pub arms_none : (w : ℕ) → FormedArms [] w
arms_none w = record { formed = refl; few = omega arith }

pub arms_cons : (line : ℕ) (e : Expr) (b : Block) (xs : List Arm) (k m n w : ℕ) → Formed e k → FormedBlock b m → FormedArms xs n → (k + m) + n ≤ w →
    FormedArms (roll-Arm (record { line = line; test = e; body = b }) ∷ xs) w
arms_cons line e b xs k m n w h i j l = let p = arm_is line e b in
    record { formed = and_from _ _ (arm_formed line e b ∙ and_from _ _ h.formed i.formed) j.formed; few = omega arith }

pub other_none : (w : ℕ) → FormedOther None w
other_none w = record { formed = refl; few = omega arith }

pub other_some : (b : Block) (m w : ℕ) → FormedBlock b m → m ≤ w → FormedOther (Some b) w
other_some b m w h l = record { formed = h.formed; few = omega arith }

pub conditional : (a : Arm) (xs : List Arm) (b : Option Block) (m n w : ℕ) → FormedArms (a ∷ xs) m → FormedOther b n → (m + n) + 6 ≤ w → FormedWhat (what.If (a ∷ xs) b) w
conditional a xs b m n w h k l = let p = if_parts (a ∷ xs) b in
    record { formed = if_formed a xs b ∙ and_from _ _ h.formed k.formed; few = omega arith }

pub loop : (e : Expr) (b : Block) (m n w : ℕ) → Formed e m → FormedBlock b n → m + n ≤ w → FormedWhat (what.While e b) w
loop e b m n w h k l = let p = while_parts e b in
    record { formed = while_formed e b ∙ and_from _ _ h.formed k.formed; few = omega arith }

pub iteration : (t : Targets) (e : Expr) (b : Block) (k m n w : ℕ) → FormedTargets t k → Formed e m → FormedBlock b n → (k + m) + n ≤ w → FormedWhat (what.For t e b) w
iteration t e b k m n w h i j l = let p = for_parts t e b in
    record { formed = for_formed t e b ∙ and_from _ _ h.formed (and_from _ _ i.formed j.formed); few = omega arith }

pub expression : (e : Expr) (m w : ℕ) → Formed e m → m ≤ w → FormedWhat (what.Expr e) w
expression e m w h l = let p = expression_is e in record { formed = expression_formed e ∙ h.formed; few = omega arith }

pub assign : (t : Targets) (e : Expr) (m n w : ℕ) → FormedTargets t m → Formed e n → m + n ≤ w → FormedWhat (what.Assign t e) w
assign t e m n w h k l = let p = assign_parts t e in
    record { formed = assign_formed t e ∙ and_from _ _ h.formed k.formed; few = omega arith }

pub augment : (n : List ℕ) (op : BinOp) (e : Expr) (m w : ℕ) → Formed e m → m ≤ w → FormedWhat (what.Aug n op e) w
augment n op e m w h l = let p = aug_parts n op e in record { formed = aug_formed n op e ∙ h.formed; few = omega arith }

pub answer : (e : Option Expr) (m w : ℕ) → FormedMaybe e m → m + 6 ≤ w → FormedWhat (what.Return e) w
answer e m w h l = let p = return_parts e in record { formed = return_formed e ∙ h.formed; few = omega arith }

pub assertion : (e : Expr) (x : Option Expr) (m n w : ℕ) → Formed e m → FormedMaybe x n → m + n ≤ w → FormedWhat (what.Assert e x) w
assertion e x m n w h k l = let p = assert_parts e x in
    record { formed = assert_formed e x ∙ and_from _ _ h.formed k.formed; few = omega arith }

pub pass : (w : ℕ) → 6 ≤ w → FormedWhat what.Pass w
pass w l = let p = pass_parts in record { formed = pass_formed; few = omega arith }

pub leave : (w : ℕ) → 6 ≤ w → FormedWhat what.Break w
leave w l = let p = break_parts in record { formed = break_formed; few = omega arith }

pub again : (w : ℕ) → 6 ≤ w → FormedWhat what.Continue w
again w l = let p = continue_parts in record { formed = continue_formed; few = omega arith }
