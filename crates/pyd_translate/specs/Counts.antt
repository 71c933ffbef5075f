-- How many nodes are made at most, by how much text they are made from.
use Rattle.std.specs.Prelude.{◌≡◌, ℕ, ◌+◌, ◌*◌, ◌≤◌, List, [], ◌∷◌, map, length, Option, Some, None}
use Rattle.std.specs.List.{slice_get}
use Rattle.pyd_value.specs.Size.{total}
use Rattle.pyd_tree.specs.declared.expression.Expr.{Expr}
use Rattle.pyd_tree.specs.declared.statement.What.TheOpen.{What-F, Arm-F, Block-F, Stmt-F}
use Rattle.pyd_tree.specs.declared.statement.Stmt.{Stmt, fold-Stmt}
use Rattle.pyd_tree.specs.declared.statement.Block.{out-Block}
use Rattle.pyd_tree.specs.declared.file.File.{File}
use Rattle.pyd_tree.specs.declared.file.Item.{Item}
use Rattle.pyd_tree.specs.declared.file.Item.TheVariants as item
use Rattle.pyd_names.specs.WellFormed.{or_zero, expression_parts, maybe_parts}
use Rattle.pyd_ir.specs.declared.arg.Arg.{Arg}
use Rattle.pyd_ir.specs.declared.work.Frame.{Frame}
use Rattle.pyd_ir.specs.declared.work.Frame.TheVariants.{After, Again}
use Rattle.pyd_ir.specs.declared.work.Side.{Side}
use Rattle.pyd_ir.specs.declared.work.Side.TheVariants as side
use Rattle.pyd_scope.specs.Numbering.{expression_table, body}
use Rattle.pyd_scope.specs.Passages.{Passage, passage_at}
use Rattle.pyd_translate.specs.Compounds.{Compound, Choice, WhileLoop, ForLoop, Simple, compound_at, passage_behind}
use Rattle.pyd_translate.specs.Sides.{side_unfolds}
use Rattle.pyd_translate.specs.Statements.{context}
use Rattle.pyd_translate.specs.Rests.{block_unfolds}

-- one level of what a statement does: the statements, arms, expressions and suffixes in it, each part being given by its own
abbrev pub what_items : What-F ℕ ℕ ℕ ℕ → ℕ
what_items (What-F.Expr e) = expression_parts e
what_items (What-F.Assign targets e) = expression_parts e
what_items (What-F.Aug name op e) = expression_parts e
what_items (What-F.If arms otherwise) = total arms + or_zero otherwise
what_items (What-F.While test body) = expression_parts test + body
what_items (What-F.For targets e body) = expression_parts e + body
what_items (What-F.Return e) = maybe_parts e
what_items What-F.Break = 0
what_items What-F.Continue = 0
what_items What-F.Pass = 0
what_items (What-F.Assert test message) = expression_parts test + maybe_parts message

-- one level of an arm, itself among them
abbrev pub arm_items : Arm-F ℕ ℕ ℕ ℕ → ℕ
arm_items a = 1 + (expression_parts a.test + a.body)

-- one level of a block
abbrev pub block_items : Block-F ℕ ℕ ℕ ℕ → ℕ
block_items b = total b.stmts

-- one level of a statement, itself among them
abbrev pub stmt_items : Stmt-F ℕ ℕ ℕ ℕ → ℕ
stmt_items s = 1 + s.what

-- statements, arms, expressions and suffixes in a statement, itself among them
unfoldable pub items : Stmt → ℕ
items s = fold-Stmt ℕ ℕ ℕ ℕ what_items arm_items block_items stmt_items s

-- the same in statements
abbrev pub all_items : List Stmt → ℕ
all_items ss = total (map items ss)

-- those of an item of a file; an import has none
abbrev pub item_items : Item → ℕ
item_items (item.Import line from names) = 0
item_items (item.Def f) = all_items (out-Block f.body).stmts
item_items (item.Stmt s) = items s

-- statements, arms, expressions and suffixes of a file
abbrev pub file_items : File → ℕ
file_items file = total (map item_items file.items)

-- the items from which a loop is made that is gone on with
abbrev pub again_items : Compound → ℕ
again_items (WhileLoop test body) = 1 + expression_parts test
again_items (ForLoop targets e body) = 1
again_items (Choice arms otherwise) = 0
again_items Simple = 0

-- the items of an expression that a number may name; a Stop stands for one that is missing
abbrev pub numbered_items : Option Expr → ℕ
numbered_items None = 1
numbered_items (Some e) = expression_parts e

module _ (file : File) (routine : ℕ) where
  -- the items from which what goes on behind a body is made
  abbrev pub rest_items : List Frame → ℕ
  rest_items [] = 0
  rest_items (After k ∷ rest) =
      all_items (passage_behind (passage_at file routine k)).stmts + rest_items rest
  rest_items (Again k turns over ∷ rest) =
      again_items (compound_at file routine k) + rest_items rest

  -- the items from which a side is made
  abbrev pub side_items : Side → ℕ
  side_items (side.Arg a) = 0
  side_items (side.Expr k) = numbered_items (slice_get (expression_table file routine) k)
  side_items (side.Tail k m a) = numbered_items (slice_get (expression_table file routine) k)

-- statements and what goes on behind them have 3 nodes for each item at most
abbrev pub BlockCount : Type 0
BlockCount = (file : File) (routine depth : ℕ) (here : Passage) (rest : List Frame)
    (ids : ℕ) (env : List Arg)
    → length (block_unfolds file routine depth here rest env ids).nodes
    ≤ 3 * (all_items here.stmts + rest_items file routine rest)

-- so has a side
abbrev pub SideCount : Type 0
SideCount = (file : File) (routine depth line : ℕ) (s : Side) (ids : ℕ) (env : List Arg)
    → length (side_unfolds file s (context routine depth line env) ids).nodes
    ≤ 3 * side_items file routine s

-- an expression that a number names has no more parts than its routine has items
abbrev pub NumberedItems : Type 0
NumberedItems = (file : File) (routine k : ℕ) (e : Expr)
    → slice_get (expression_table file routine) k ≡ Some e
    → expression_parts e ≤ all_items (body file routine)

-- a routine has no more items than its file
abbrev pub FileItems : Type 0
FileItems = (file : File) (routine : ℕ) → all_items (body file routine) ≤ file_items file
