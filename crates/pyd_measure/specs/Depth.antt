-- How deep a file nests, suites and expressions together.
use Rattle.std.specs.Prelude.{ℕ, suc, max, map, option_map}
use Rattle.pyd_value.specs.Size.{greatest}
use Rattle.pyd_tree.specs.declared.statement.Stmt.{Stmt, fold-Stmt}
use Rattle.pyd_tree.specs.declared.statement.Block.{Block, fold-Block}
use Rattle.pyd_tree.specs.declared.statement.What.TheOpen.{What-F, Arm-F, Block-F, Stmt-F}
use Rattle.pyd_tree.specs.declared.file.File.{File}
use Rattle.pyd_tree.specs.declared.file.Item.{Item}
use Rattle.pyd_tree.specs.declared.file.Item.TheVariants as item
use Rattle.pyd_tree.specs.Nesting.{nesting, or_zero}

-- one level of a statement, each suite and arm being given by its nesting; targets are names, and nest nothing
abbrev pub what_step : What-F ℕ ℕ ℕ ℕ → ℕ
what_step (What-F.Expr e) = nesting e
what_step (What-F.Assign targets e) = nesting e
what_step (What-F.Aug name op e) = nesting e
what_step (What-F.If arms other) = max (greatest arms) (or_zero other)
what_step (What-F.While test body) = max (nesting test) body
what_step (What-F.For targets over body) = max (nesting over) body
what_step (What-F.Return e) = or_zero (option_map nesting e)
what_step What-F.Break = 0
what_step What-F.Continue = 0
what_step What-F.Pass = 0
what_step (What-F.Assert test message) = max (nesting test) (or_zero (option_map nesting message))

-- one level of an arm
abbrev pub arm_step : Arm-F ℕ ℕ ℕ ℕ → ℕ
arm_step a = max (nesting a.test) a.body

-- one level of a suite: one more than each of its statements
abbrev pub block_step : Block-F ℕ ℕ ℕ ℕ → ℕ
block_step b = greatest (map suc b.stmts)

-- one level of a statement in its line
abbrev pub stmt_step : Stmt-F ℕ ℕ ℕ ℕ → ℕ
stmt_step s = s.what

-- the nesting of a statement
abbrev pub stmt_nesting : Stmt → ℕ
stmt_nesting = fold-Stmt ℕ ℕ ℕ ℕ what_step arm_step block_step stmt_step

-- the nesting of a suite with what stands in it
abbrev pub block_nesting : Block → ℕ
block_nesting = fold-Block ℕ ℕ ℕ ℕ what_step arm_step block_step stmt_step

-- the nesting of an item; the suite of a function is one
abbrev pub item_nesting : Item → ℕ
item_nesting (item.Import line source names) = 0
item_nesting (item.Def f) = block_nesting f.body
item_nesting (item.Stmt s) = stmt_nesting s

-- the greatest nesting of the items of a file
abbrev pub file_nesting : File → ℕ
file_nesting f = greatest (map item_nesting f.items)
