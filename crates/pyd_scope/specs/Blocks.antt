-- The statements of suites, and those of a module by their places among its items.
use Rattle.std.specs.Prelude.{ℕ, List, slice_get, Option, Some, None, option_and_then}
use Rattle.std.specs.List.{filter_map}
use Rattle.pyd_tree.specs.declared.statement.Block.{Block, out-Block}
use Rattle.pyd_tree.specs.declared.statement.Stmt.{Stmt}
use Rattle.pyd_tree.specs.declared.file.Item.{Item}
use Rattle.pyd_tree.specs.declared.file.Item.TheVariants as item

-- the statements of a suite
abbrev pub block_stmts : Block → List Stmt
block_stmts b = (out-Block b).stmts

-- the statement that an item is
abbrev pub item_stmt : Item → Option Stmt
item_stmt (item.Import line from names) = None
item_stmt (item.Def f) = None
item_stmt (item.Stmt s) = Some s

-- the statement at a place among items
abbrev pub stmt_at : List Item → ℕ → Option Stmt
stmt_at items place = option_and_then item_stmt (slice_get items place)

-- the statements at these places among items
abbrev pub placed_stmts : List Item → List ℕ → List Stmt
placed_stmts items places = filter_map (stmt_at items) places
