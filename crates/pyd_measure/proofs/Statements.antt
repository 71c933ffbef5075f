-- The nesting of each kind of statement.
use Rattle.std.proofs.Common.{◌≡◌, ℕ, suc, max, List, [], ◌∷◌, map, Option, refl, ap, rules}
use Rattle.std.specs.Prelude.{option_map}
use Rattle.pyd_value.specs.Size.{greatest}
use Rattle.pyd_value.specs.declared.operator.BinOp.{BinOp}
use Rattle.pyd_tree.specs.declared.expression.Expr.{Expr}
use Rattle.pyd_tree.specs.declared.statement.Targets.{Targets}
use Rattle.pyd_tree.specs.declared.statement.Arm.{Arm, roll-Arm, fold-Arm}
use Rattle.pyd_tree.specs.declared.statement.Block.{Block, roll-Block}
use Rattle.pyd_tree.specs.declared.statement.Stmt.{Stmt, the_lemmas}
use Rattle.pyd_tree.specs.declared.statement.What.{What}
use Rattle.pyd_tree.specs.declared.statement.What.TheVariants as what
use Rattle.pyd_tree.specs.Nesting.{nesting, or_zero}
use Rattle.pyd_measure.specs.Depth.{what_step, arm_step, block_step, stmt_step, stmt_nesting, block_nesting}

-- the nesting of an arm
abbrev pub arm_nesting : Arm → ℕ
arm_nesting = fold-Arm ℕ ℕ ℕ ℕ what_step arm_step block_step stmt_step

fused : {X Y : Type 0} → (g : X → Y) (f : Y → ℕ) (xs : List X) → map f (map g xs) ≡ map (λ x. f (g x)) xs
fused g f [] = refl
fused g f (x ∷ xs) = ap (λ (z : List ℕ). f (g x) ∷ z) (fused g f xs)

-- a statement in a line
abbrev pub stmt : ℕ → What → Stmt
stmt l w = record { line = l; what = w }

pub in_expr : (l : ℕ) (e : Expr) → stmt_nesting (stmt l (what.Expr e)) ≡ nesting e
in_expr l e = search (rules, the_lemmas)

pub in_assign : (l : ℕ) (t : Targets) (e : Expr) → stmt_nesting (stmt l (what.Assign t e)) ≡ nesting e
in_assign l t e = search (rules, the_lemmas)

pub in_aug : (l : ℕ) (n : List ℕ) (op : BinOp) (e : Expr) → stmt_nesting (stmt l (what.Aug n op e)) ≡ nesting e
in_aug l n op e = search (rules, the_lemmas)

pub in_if : (l : ℕ) (xs : List Arm) (o : Option Block) → stmt_nesting (stmt l (what.If xs o)) ≡ max (greatest (map arm_nesting xs)) (or_zero (option_map block_nesting o))
in_if l xs o = search (rules, the_lemmas, fused)

pub in_while : (l : ℕ) (e : Expr) (b : Block) → stmt_nesting (stmt l (what.While e b)) ≡ max (nesting e) (block_nesting b)
in_while l e b = search (rules, the_lemmas)

pub in_for : (l : ℕ) (t : Targets) (e : Expr) (b : Block) → stmt_nesting (stmt l (what.For t e b)) ≡ max (nesting e) (block_nesting b)
in_for l t e b = search (rules, the_lemmas)

pub in_return : (l : ℕ) (e : Option Expr) → stmt_nesting (stmt l (what.Return e)) ≡ or_zero (option_map nesting e)
in_return l e = search (rules, the_lemmas)

pub in_pass : (l : ℕ) → stmt_nesting (stmt l what.Pass) ≡ 0
in_pass l = search (rules, the_lemmas)

pub in_break : (l : ℕ) → stmt_nesting (stmt l what.Break) ≡ 0
in_break l = search (rules, the_lemmas)

pub in_continue : (l : ℕ) → stmt_nesting (stmt l what.Continue) ≡ 0
in_continue l = search (rules, the_lemmas)

pub in_assert : (l : ℕ) (e : Expr) (m : Option Expr) → stmt_nesting (stmt l (what.Assert e m)) ≡ max (nesting e) (or_zero (option_map nesting m))
in_assert l e m = search (rules, the_lemmas)

pub in_the_arm : (l : ℕ) (e : Expr) (b : Block) → arm_nesting (roll-Arm (record { line = l; test = e; body = b })) ≡ max (nesting e) (block_nesting b)
in_the_arm l e b = search (rules, the_lemmas)

pub in_the_block : (ss : List Stmt) → block_nesting (roll-Block (record { stmts = ss })) ≡ greatest (map (λ s. suc (stmt_nesting s)) ss)
in_the_block ss = search (rules, the_lemmas, fused)
