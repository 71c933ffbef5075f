-- The nesting of what a piece has of statements, and of what is taken from it.
use Rattle.std.proofs.Common.{◌≡◌, ℕ, ◌≤◌, suc, max, [], ◌∷◌, map, Bool, true, false, refl, ap, ◌∙◌, arith}
use Rattle.std.specs.Prelude.{option_map}
use Rattle.pyd_value.specs.Size.{greatest}
use Rattle.pyd_tree.specs.declared.expression.Expr.TheVariants as expr
use Rattle.pyd_tree.specs.Nesting.{nesting, or_zero}
use Rattle.pyd_tree.proofs.Levels as level
use Rattle.pyd_value.specs.declared.value.Value.TheVariants as value
use Rattle.pyd_derivation.specs.declared.piece.Piece.{Piece}
use Rattle.pyd_derivation.specs.declared.piece.Piece.TheVariants as piece
use Rattle.pyd_derivation.specs.Pieces.{no_stmt, block, expr_of, tuple_of, optional_tuple, optional_expr, stmt_of, stmts_of, suite_of, optional_suite, arms_of, func_of, item_of, items_of}
use Rattle.pyd_measure.specs.Marks.{part_nesting}
use Rattle.pyd_measure.specs.Depth.{stmt_nesting, block_nesting, item_nesting}
use Rattle.pyd_measure.proofs.Statements.{arm_nesting, in_pass, in_the_block}

-- the nesting of what a piece has of statements
abbrev pub depth : Piece → ℕ
depth (piece.Stmt s) = stmt_nesting s
depth (piece.Stmts ss) = greatest (map stmt_nesting ss)
depth (piece.Suite b) = block_nesting b
depth (piece.Arms xs) = greatest (map arm_nesting xs)
depth (piece.Def ms f) = block_nesting f.body
depth (piece.Item i) = item_nesting i
depth (piece.Items is) = greatest (map item_nesting is)
depth p = 0

pub from_zero : (n m : ℕ) → n ≡ 0 → n ≤ m
from_zero n m e = omega arith

pub at_most : (n : ℕ) → n ≤ n
at_most n = omega arith

pub stmt_part : (p : Piece) → stmt_nesting (stmt_of p) ≤ depth p
stmt_part (piece.Stmt s) = at_most (stmt_nesting s)
stmt_part p = from_zero (stmt_nesting no_stmt) _ (in_pass 0)

pub stmts_part : (p : Piece) → greatest (map stmt_nesting (stmts_of p)) ≤ depth p
stmts_part (piece.Stmts ss) = at_most _
stmts_part p = from_zero 0 _ refl

pub item_part : (p : Piece) → item_nesting (item_of p) ≤ depth p
item_part (piece.Item i) = at_most (item_nesting i)
item_part p = from_zero (stmt_nesting no_stmt) _ (in_pass 0)

pub items_part : (p : Piece) → greatest (map item_nesting (items_of p)) ≤ depth p
items_part (piece.Items is) = at_most _
items_part p = from_zero 0 _ refl

pub arms_part : (p : Piece) → greatest (map arm_nesting (arms_of p)) ≤ depth p
arms_part (piece.Arms xs) = at_most _
arms_part p = from_zero 0 _ refl

pub optional_suite_part : (p : Piece) → or_zero (option_map block_nesting (optional_suite p)) ≤ depth p
optional_suite_part (piece.Suite b) = at_most _
optional_suite_part p = from_zero 0 _ refl

-- a suite where there is none
pub one_suite : block_nesting (block (no_stmt ∷ [])) ≡ 1
one_suite = in_the_block (no_stmt ∷ []) ∙ ap (λ (n : ℕ). max (suc n) 0) (in_pass 0)

pub least : (n r : ℕ) → n ≡ 1 → 1 ≤ r → n ≤ r
least n r e l = omega arith

pub suite_part : (p : Piece) (r : ℕ) → 1 ≤ r → depth p ≤ r → block_nesting (suite_of p) ≤ r
suite_part (piece.Suite b) r l d = d
suite_part p r l d = least (block_nesting (block (no_stmt ∷ []))) r one_suite l

pub func_part : (p : Piece) (r : ℕ) → 1 ≤ r → depth p ≤ r → block_nesting (func_of p).body ≤ r
func_part (piece.Def ms f) r l d = d
func_part p r l d = least (block_nesting (block (no_stmt ∷ []))) r one_suite l

pub none_nests : nesting (expr.Lit value.None) ≡ 0
none_nests = level.literal value.None

pub expr_part : (p : Piece) → nesting (expr_of p) ≤ part_nesting p
expr_part (piece.Expr e) = at_most (nesting e)
expr_part p = from_zero (nesting (expr.Lit value.None)) _ none_nests

-- whether a part is there
abbrev pub is_there : Piece → Bool
is_there piece.Nothing = false
is_there p = true

pub tuple_part : (p : Piece) → is_there p ≡ true → nesting (tuple_of p) ≤ part_nesting p
tuple_part (piece.Expr e) h = at_most (nesting e)
tuple_part (piece.Many es) h = at_most (nesting (expr.Tuple es))
tuple_part piece.Nothing h = cc
tuple_part p h = from_zero (nesting (expr.Lit value.None)) _ none_nests

pub optional_tuple_part : (p : Piece) → or_zero (option_map nesting (optional_tuple p)) ≤ part_nesting p
optional_tuple_part (piece.Assign e) = from_zero 0 _ refl
optional_tuple_part (piece.Augment op e) = from_zero 0 _ refl
optional_tuple_part p = at_most _

pub optional_expr_part : (p : Piece) → or_zero (option_map nesting (optional_expr p)) ≤ part_nesting p
optional_expr_part (piece.Expr e) = at_most (nesting e)
optional_expr_part p = from_zero 0 _ refl
