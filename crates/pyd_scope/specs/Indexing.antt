-- What the index of a file keeps.
use Rattle.std.specs.Prelude.{ℕ, suc, List, [], ◌∷◌, ◌++◌, map, slice_get, Bool, false, not, if◌then◌else◌, Option, Some, None, is_some, option_and_then}
use Rattle.pyd_tree.specs.declared.file.File.{File}
use Rattle.pyd_tree.specs.declared.file.Func.{Func}
use Rattle.pyd_tree.specs.declared.file.Item.{Item}
use Rattle.pyd_tree.specs.declared.file.Item.TheVariants as item
use Rattle.pyd_names.specs.Binding.{lines, statement_in, function_in, module_statements, functions}
use Rattle.pyd_scope.specs.declared.cells.ExpressionCell.{ExpressionCell}
use Rattle.pyd_scope.specs.declared.cells.StatementCell.{StatementCell}
use Rattle.pyd_scope.specs.Blocks.{block_stmts}
use Rattle.pyd_scope.specs.Cells.{Cells, body_cells}

-- places of items of a file, and the cells of its routines by their numbers
pub record Indexed : Type 0 where
  pub statements : List ℕ
  pub functions : List ℕ
  pub routines : List Cells

-- the record of these
abbrev pub indexed : List ℕ → List ℕ → List Cells → Indexed
indexed statements functions routines = record {
  statements = statements;
  functions = functions;
  routines = routines;
}

-- the places of the items for which a test holds, from a place on
abbrev pub places_from : {A : Type 0} → (A → Bool) → ℕ → List A → List ℕ
places_from test at [] = []
places_from test at (x ∷ xs) = (if test x then at ∷ [] else []) ++ places_from test (suc at) xs

-- the places of the module's statements among the items
abbrev pub statement_places : File → List ℕ
statement_places file = places_from (λ line. is_some (statement_in line)) 0 (lines file)

-- the places of the functions among the items
abbrev pub function_places : File → List ℕ
function_places file = places_from (λ i. is_some (function_in i)) 0 file.items

-- whether an item is a statement with a mark that is false
abbrev pub is_unmarked : Item → Option Bool → Bool
is_unmarked (item.Import line from names) mark = false
is_unmarked (item.Def f) mark = false
is_unmarked (item.Stmt s) None = false
is_unmarked (item.Stmt s) (Some marked) = not marked

-- the places of such items, from a place on, by the marks of all
abbrev pub unmarked_from : List Bool → ℕ → List Item → List ℕ
unmarked_from marks at [] = []
unmarked_from marks at (i ∷ is) =
    (if is_unmarked i (slice_get marks at) then at ∷ [] else []) ++ unmarked_from marks (suc at) is

-- the cells of a function
abbrev pub function_cells : Func → Cells
function_cells f = body_cells (block_stmts f.body)

-- the cells of the module, and then of the functions
abbrev pub routine_cells : File → List Cells
routine_cells file = body_cells (module_statements file) ∷ map function_cells (functions file)

-- the index of a file
abbrev pub index_of : File → Indexed
index_of file = indexed (statement_places file) (function_places file) (routine_cells file)

-- the cell of a statement of a routine
abbrev pub statement_cell : List Cells → ℕ → ℕ → Option StatementCell
statement_cell routines routine k =
    option_and_then (λ c. slice_get c.statements k) (slice_get routines routine)

-- the cell of an expression
abbrev pub expression_cell : List Cells → ℕ → ℕ → Option ExpressionCell
expression_cell routines routine k =
    option_and_then (λ c. slice_get c.expressions k) (slice_get routines routine)
