-- The nesting of what each action makes.
use Rattle.std.proofs.Common.{◌≡◌, ℕ, ◌-◌, ◌≤◌, suc, List, [], ◌∷◌, map, true, refl, arith}
use Rattle.pyd_value.specs.Size.{greatest}
use Rattle.pyd_tree.specs.declared.statement.Stmt.{Stmt}
use Rattle.pyd_tree.specs.Nesting.{nesting}
use Rattle.pyd_derivation.specs.declared.piece.Piece.{Piece}
use Rattle.pyd_derivation.specs.declared.piece.Piece.TheVariants as piece
use Rattle.pyd_derivation.specs.Pieces.{expr_of, tuple_of, optional_tuple, optional_expr, stmt_of, stmts_of, suite_of, optional_suite, arms_of, name_in}
use Rattle.pyd_derivation.specs.Actions as action
use Rattle.pyd_measure.specs.Marks.{part_nesting}
use Rattle.pyd_measure.specs.Depth.{stmt_nesting}
use Rattle.pyd_measure.proofs.Statements.{arm_nesting, in_expr, in_assign, in_aug, in_if, in_while, in_for, in_return, in_assert, in_the_arm, in_the_block}
use Rattle.pyd_measure.proofs.Depths.{depth, stmt_part, stmts_part, item_part, items_part, arms_part, optional_suite_part, suite_part, expr_part, is_there, tuple_part, optional_tuple_part, optional_expr_part}

pub tests_depth : (p q : Piece) → depth (action.as_tests p q) ≡ 0
tests_depth p (piece.Many es) = refl
tests_depth p q = refl

pub test_depth : (p q : Piece) → depth (action.as_test p q) ≡ 0
test_depth p (piece.Condition c n) = refl
test_depth p q = refl

pub or_depth : (p q : Piece) → depth (action.as_or p q) ≡ 0
or_depth p (piece.Many es) = refl
or_depth p q = refl

pub and_depth : (p q : Piece) → depth (action.as_and p q) ≡ 0
and_depth p (piece.Many es) = refl
and_depth p q = refl

pub compare_depth : (p q : Piece) → depth (action.as_compare p q) ≡ 0
compare_depth p (piece.Compares ls) = refl
compare_depth p q = refl

pub chain_depth : (p q : Piece) → depth (action.as_chain p q) ≡ 0
chain_depth p (piece.Links ls) = refl
chain_depth p q = refl

pub power_depth : (p q : Piece) → depth (action.as_power p q) ≡ 0
power_depth p (piece.Expr e) = refl
power_depth p q = refl

pub suffixed_depth : (p q : Piece) → depth (action.as_suffixed p q) ≡ 0
suffixed_depth p (piece.Suffixes ss) = refl
suffixed_depth p q = refl

pub sub_depth : (p q : Piece) → depth (action.as_sub p q) ≡ 0
sub_depth p (piece.Bound u) = refl
sub_depth p q = refl

pub name_depth : (bytes : List ℕ) (line : ℕ) (p q : Piece) → depth (action.as_name bytes line p q) ≡ 0
name_depth bytes line p (piece.Args es) = refl
name_depth bytes line p q = refl

pub sucs : (ss : List Stmt) → greatest (map (λ s. suc (stmt_nesting s)) ss) ≤ suc (greatest (map stmt_nesting ss))
sucs [] = omega arith
sucs (s ∷ ss) = let h = sucs ss in omega arith

pub suite_depth : (a b c p q e : Piece) (r : ℕ) → 1 ≤ r → depth p ≤ r - 1 → depth q ≤ r - 1 → depth (action.as_suite a b c p q e) ≤ r
suite_depth a b c p q e r l h k =
    let x = in_the_block (stmt_of p ∷ stmts_of q) in
    let y = stmt_part p in
    let z = stmts_part q in
    let w = sucs (stmts_of q) in omega arith

pub arm_depth : (line : ℕ) (p q : Piece) (r : ℕ) → part_nesting p ≤ r → 1 ≤ r → depth q ≤ r → arm_nesting (action.arm line p q) ≤ r
arm_depth line p q r h l k =
    let x = in_the_arm line (expr_of p) (suite_of q) in
    let y = expr_part p in
    let z = suite_part q r l k in omega arith

pub elifs_depth : (bytes : List ℕ) (line : ℕ) (a p q s : Piece) (r : ℕ) → part_nesting p ≤ r → 1 ≤ r → depth q ≤ r → depth s ≤ r → depth (action.as_elifs bytes line a p q s) ≤ r
elifs_depth bytes line a p q s r h l k m =
    let x = arm_depth line p q r h l k in
    let y = arms_part s in omega arith

pub if_depth : (bytes : List ℕ) (line : ℕ) (a p q s o : Piece) (r : ℕ) → part_nesting p ≤ r → 1 ≤ r → depth q ≤ r → depth s ≤ r → depth o ≤ r → depth (action.as_if bytes line a p q s o) ≤ r
if_depth bytes line a p q s o r h l k m n =
    let e = in_if line (action.arm line p q ∷ arms_of s) (optional_suite o) in
    let x = arm_depth line p q r h l k in
    let y = arms_part s in
    let z = optional_suite_part o in omega arith

pub while_depth : (bytes : List ℕ) (line : ℕ) (a p q : Piece) (r : ℕ) → part_nesting p ≤ r → 1 ≤ r → depth q ≤ r → depth (action.as_while bytes line a p q) ≤ r
while_depth bytes line a p q r h l k =
    let e = in_while line (expr_of p) (suite_of q) in
    let y = expr_part p in
    let z = suite_part q r l k in omega arith

pub for_depth : (bytes : List ℕ) (line : ℕ) (a n m b p q : Piece) (r : ℕ) → part_nesting p ≤ r → is_there p ≡ true → 1 ≤ r → depth q ≤ r → depth (action.as_for bytes line a n m b p q) ≤ r
for_depth bytes line a n m b p q r h t l k =
    let e = in_for line (action.loop_targets (name_in bytes n) m) (tuple_of p) (suite_of q) in
    let y = tuple_part p t in
    let z = suite_part q r l k in omega arith

pub by_equation : (n m r : ℕ) → n ≡ m → m ≤ r → n ≤ r
by_equation n m r e l = omega arith

pub left_only : (n m r : ℕ) → n ≤ m → m ≤ r → n ≤ r
left_only n m r a b = omega arith

pub simple_depth : (bytes : List ℕ) (line : ℕ) (p q e : Piece) (r : ℕ) → part_nesting p ≤ r → part_nesting q ≤ r → is_there p ≡ true → depth (action.as_simple bytes line p q e) ≤ r
simple_depth bytes line p (piece.Assign right) e r h k t = by_equation _ (nesting right) r (in_assign line _ right) k
simple_depth bytes line p (piece.Augment op right) e r h k t = by_equation _ (nesting right) r (in_aug line _ op right) k
simple_depth bytes line p q e r h k t = by_equation _ (nesting (tuple_of p)) r (in_expr line (tuple_of p)) (left_only _ (part_nesting p) r (tuple_part p t) h)

pub return_depth : (bytes : List ℕ) (line : ℕ) (a p e : Piece) (r : ℕ) → part_nesting p ≤ r → depth (action.as_return bytes line a p e) ≤ r
return_depth bytes line a p e r h = let x = in_return line (optional_tuple p) in let y = optional_tuple_part p in omega arith

pub assert_depth : (bytes : List ℕ) (line : ℕ) (a p q e : Piece) (r : ℕ) → part_nesting p ≤ r → part_nesting q ≤ r → depth (action.as_assert bytes line a p q e) ≤ r
assert_depth bytes line a p q e r h k =
    let x = in_assert line (expr_of p) (optional_expr q) in
    let y = expr_part p in
    let z = optional_expr_part q in omega arith

pub stmts_depth : (p q : Piece) (r : ℕ) → depth p ≤ r → depth q ≤ r → depth (action.as_stmts p q) ≤ r
stmts_depth p q r h k = let y = stmt_part p in let z = stmts_part q in omega arith

pub items_depth : (p q : Piece) (r : ℕ) → depth p ≤ r → depth q ≤ r → depth (action.as_items p q) ≤ r
items_depth p q r h k = let y = item_part p in let z = items_part q in omega arith

pub item_depth : (p : Piece) (r : ℕ) → depth p ≤ r → depth (action.as_statement_item p) ≤ r
item_depth p r h = let y = stmt_part p in omega arith
