-- The cells of statements, by their first level.
use Rattle.std.proofs.Common.{◌≡◌, ℕ, suc, List, [], ◌∷◌, map, Some, None, refl, ap, ◌∙◌}
use Rattle.pyd_tree.specs.declared.statement.What.{What, out-What, fold-What}
use Rattle.pyd_tree.specs.declared.statement.What.TheOpen.{What-F}
use Rattle.pyd_tree.specs.declared.statement.What.TheFolds.{map-What, fold_out-What, fold_out-Arm, fold_out-Block, fold_out-Stmt}
use Rattle.pyd_tree.specs.declared.statement.Arm.{Arm, out-Arm, fold-Arm}
use Rattle.pyd_tree.specs.declared.statement.Block.{Block, out-Block, fold-Block}
use Rattle.pyd_tree.specs.declared.statement.Stmt.{Stmt, fold-Stmt}
use Rattle.pyd_scope.specs.declared.cells.Suite.{Suite}
use Rattle.pyd_scope.specs.declared.cells.Suite.TheVariants as suite
use Rattle.pyd_scope.specs.Cells.{Making, no_cells, then_cells, header_cells, stmt_made, stmts_from, arms_from, what_made, what_step, arm_step, block_step, stmt_step, stmt_cells, arm_cells, block_cells, inner_cells}

-- a statement's cells
abbrev stmt : Stmt → Suite → ℕ → Making
stmt =
    fold-Stmt (ℕ → Making) (ℕ → ℕ → Making) (Suite → Making) (Suite → ℕ → Making)
    what_step arm_step block_step stmt_step

-- those of what stands in it
abbrev what : What → ℕ → Making
what =
    fold-What (ℕ → Making) (ℕ → ℕ → Making) (Suite → Making) (Suite → ℕ → Making)
    what_step arm_step block_step stmt_step

-- an arm's
abbrev arm : Arm → ℕ → ℕ → Making
arm =
    fold-Arm (ℕ → Making) (ℕ → ℕ → Making) (Suite → Making) (Suite → ℕ → Making)
    what_step arm_step block_step stmt_step

-- a suite's
abbrev block : Block → Suite → Making
block =
    fold-Block (ℕ → Making) (ℕ → ℕ → Making) (Suite → Making) (Suite → ℕ → Making)
    what_step arm_step block_step stmt_step

-- one level of what a statement does
abbrev level : What-F What Arm Block Stmt
    → What-F (ℕ → Making) (ℕ → ℕ → Making) (Suite → Making) (Suite → ℕ → Making)
level y =
    map-What What Arm Block Stmt (ℕ → Making) (ℕ → ℕ → Making) (Suite → Making)
    (Suite → ℕ → Making) what arm block stmt y

-- statements that are made first
stmts_made : (b : Suite) (at : ℕ) (ss : List Stmt)
    → stmts_from (λ (s : Suite → ℕ → Making). s) b at (map stmt ss) ≡ stmts_from stmt b at ss
stmts_made b at [] = refl
stmts_made b at (s ∷ ss) = ap (then_cells (stmt s b at)) (stmts_made b (suc at) ss)

-- arms
arms_made : (n at : ℕ) (arms : List Arm)
    → arms_from (λ (a : ℕ → ℕ → Making). a) n at (map arm arms) ≡ arms_from arm n at arms
arms_made n at [] = refl
arms_made n at (a ∷ arms) = ap (then_cells (arm a n at)) (arms_made n (suc at) arms)

-- one level
level_made : (n : ℕ) (y : What-F What Arm Block Stmt)
    → what_step (level y) n ≡ what_made arm block y n
level_made n (What-F.Expr e) = refl
level_made n (What-F.Assign targets e) = refl
level_made n (What-F.Aug name op e) = refl
level_made n (What-F.If arms None) = λ i. then_cells (arms_made n 0 arms i) no_cells
level_made n (What-F.If arms (Some b)) =
    λ i. then_cells (arms_made n 0 arms i) (block b (suite.Otherwise n))
level_made n (What-F.While test body) = refl
level_made n (What-F.For targets e body) = refl
level_made n (What-F.Return e) = refl
level_made n What-F.Break = refl
level_made n What-F.Continue = refl
level_made n What-F.Pass = refl
level_made n (What-F.Assert test message) = refl

-- what stands in a statement
what_out : (w : What) → what w ≡ (λ n. what_made arm block (out-What w) n)
what_out w =
    fold_out-What (ℕ → Making) (ℕ → ℕ → Making) (Suite → Making) (Suite → ℕ → Making)
    what_step arm_step block_step stmt_step w
    ∙ (λ i n. level_made n (out-What w) i)

-- a suite's cells are those of its statements
pub block_out : (b : Block) (s : Suite)
    → block_cells b s ≡ stmts_from stmt_cells s 0 (out-Block b).stmts
unfolding block_cells stmt_cells
block_out b s =
    ap (λ (f : Suite → Making). f s)
    (fold_out-Block (ℕ → Making) (ℕ → ℕ → Making) (Suite → Making) (Suite → ℕ → Making)
    what_step arm_step block_step stmt_step b)
    ∙ stmts_made s 0 (out-Block b).stmts

-- an arm's are those of its test, and then of its suite
pub arm_out : (a : Arm) (n at : ℕ)
    → arm_cells a n at
    ≡ then_cells (header_cells n at (out-Arm a).test) (block_cells (out-Arm a).body (suite.Arm n at))
unfolding arm_cells block_cells
arm_out a n at =
    ap (λ (f : ℕ → ℕ → Making). f n at)
    (fold_out-Arm (ℕ → Making) (ℕ → ℕ → Making) (Suite → Making) (Suite → ℕ → Making)
    what_step arm_step block_step stmt_step a)

-- a statement's are its own, and then those of what stands in it
pub stmt_out : (s : Stmt) (b : Suite) (at : ℕ)
    → stmt_cells s b at ≡ stmt_made b at (inner_cells s.what)
unfolding stmt_cells arm_cells block_cells
stmt_out s b at =
    ap (λ (f : Suite → ℕ → Making). f b at)
    (fold_out-Stmt (ℕ → Making) (ℕ → ℕ → Making) (Suite → Making) (Suite → ℕ → Making)
    what_step arm_step block_step stmt_step s)
    ∙ ap (stmt_made b at) (what_out s.what)
