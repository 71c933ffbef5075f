-- The items of a routine are among those of its file.
use Rattle.std.proofs.Common.{◌≡◌, ◌≤◌, ℕ, zero, suc, ◌+◌, List, [], ◌∷◌, map, Bool, true, false, ◌&&◌, if◌then◌else◌, Option, Some, None, refl, arith}
use Rattle.std.specs.List.{filter_map, slice_get}
use Rattle.pyd_value.specs.Size.{total}
use Rattle.pyd_value.specs.declared.value.Value.{Value}
use Rattle.pyd_tree.specs.declared.statement.Stmt.{Stmt}
use Rattle.pyd_tree.specs.declared.file.Item.{Item}
use Rattle.pyd_tree.specs.declared.file.Item.TheVariants as item
use Rattle.pyd_names.specs.Binding.{Line, Import, Function, Constant, Statement, constants_may_follow, literal_assignment, statement_line, line_of, lines_from, binds_once, statement_in, function_in}
use Rattle.pyd_scope.specs.Numbering.{body_of}
use Rattle.pyd_translate.specs.Counts.{items, all_items, item_items, FileItems}

-- the items of a module line that is a statement
abbrev line_items : Line → ℕ
line_items (Import line from names) = 0
line_items (Function f) = 0
line_items (Constant line name value) = 0
line_items (Statement s) = items s

-- those of the statements among some lines
statements_in : (l : Line) (ls : List Line)
    → all_items (filter_map statement_in (l ∷ ls))
    ≡ line_items l + all_items (filter_map statement_in ls)
statements_in (Import line from names) ls = omega arith
statements_in (Function f) ls = omega arith
statements_in (Constant line name value) ls = omega arith
statements_in (Statement s) ls = refl

-- a statement, or a constant in its place
either_line : (which : Bool) (line : ℕ) (name : List ℕ) (value : Value) (s : Stmt)
    → line_items (if which then Constant line name value else Statement s) ≤ items s
either_line true line name value s = omega arith
either_line false line name value s = omega arith

-- a statement as a line
statement_kept : (once : List ℕ → Bool) (early : Bool) (s : Stmt) (a : Option (List ℕ × Value))
    → line_items (statement_line once early s a) ≤ items s
statement_kept once early s None = omega arith
statement_kept once early s (Some a) = either_line (early && once a.0) s.line a.0 a.1 s

-- an item as a line
line_kept : (once : List ℕ → Bool) (early : Bool) (i : Item)
    → line_items (line_of once early i) ≤ item_items i
line_kept once early (item.Import line from names) = omega arith
line_kept once early (item.Def f) = omega arith
line_kept once early (item.Stmt s) = statement_kept once early s (literal_assignment s)

-- the module's statements
module_kept : (once : List ℕ → Bool) (early : Bool) (is : List Item)
    → all_items (filter_map statement_in (lines_from once early is)) ≤ total (map item_items is)
module_kept once early [] = omega arith
module_kept once early (i ∷ is) =
    let more : all_items (filter_map statement_in (lines_from once (early && constants_may_follow i) is))
    ≤ total (map item_items is) =
    module_kept once (early && constants_may_follow i) is in
    let one : line_items (line_of once early i) ≤ item_items i = line_kept once early i in
    let both : all_items (filter_map statement_in (line_of once early i
    ∷ lines_from once (early && constants_may_follow i) is))
    ≡ line_items (line_of once early i)
    + all_items (filter_map statement_in (lines_from once (early && constants_may_follow i) is)) =
    statements_in (line_of once early i) (lines_from once (early && constants_may_follow i) is) in
    omega (arith, more, one, both)

-- the statements of a function
function_kept : (is : List Item) (k : ℕ)
    → all_items (body_of (slice_get (filter_map function_in is) k)) ≤ total (map item_items is)
function_kept [] k = omega arith
function_kept (item.Import line from names ∷ is) k =
    let less = function_kept is k in omega (arith, less)
function_kept (item.Def f ∷ is) zero = omega arith
function_kept (item.Def f ∷ is) (suc k) = let less = function_kept is k in omega (arith, less)
function_kept (item.Stmt s ∷ is) k = let less = function_kept is k in omega (arith, less)

-- the items of a routine are among those of its file
pub body_kept : FileItems
body_kept file zero = module_kept (binds_once file) true file.items
body_kept file (suc k) = function_kept file.items k
