-- What the productions of statements, functions and files make is well formed and has few parts.
use Rattle.std.proofs.Common.{ℕ, ◌+◌, ◌≤◌, List, [], ◌∷◌, Some, None, refl, arith}
use Rattle.std.specs.Prelude.{unwrap_or}
use Rattle.std.proofs.lemmas.Bool.{and_from}
use Rattle.pyd_tree.specs.declared.expression.Expr.{Expr}
use Rattle.pyd_tree.specs.declared.statement.What.TheVariants as what
use Rattle.pyd_derivation.specs.declared.piece.Piece.{Piece}
use Rattle.pyd_derivation.specs.declared.piece.Piece.TheVariants as piece
use Rattle.pyd_derivation.specs.Pieces.{name_in, tuple_of, optional_tuple, optional_suite, stmts_of, arms_of}
use Rattle.pyd_derivation.specs.Actions.{as_assert, as_assign, as_augment, as_break, as_continue, as_decorated, as_def, as_elifs, as_end, as_for, as_function_item, as_if, as_import, as_items, as_more_targets, as_names, as_params, as_pass, as_return, as_simple, as_statement_item, as_stmts, as_suite, as_targets, as_while, second, assigned, arm, loop_targets, targets_of, no_targets, name_of}
use Rattle.pyd_names.specs.WellFormed.{expression_parts}
use Rattle.pyd_grammar.proofs.FormedExpressions.{Formed, FormedMaybe, formed_more, maybe_some, tuple}
use Rattle.pyd_grammar.proofs.FormedStatements.{FormedWhat, FormedStmts, FormedArms, FormedOther, FormedTargets, statement, block, stmts_none, stmts_cons, arms_none, arms_cons, other_none, other_some, conditional, loop, iteration, expression, assign, augment, answer, assertion, pass, leave, again}
use Rattle.pyd_grammar.proofs.FormedTargets.{targets_fit}
use Rattle.pyd_grammar.proofs.ExpressionLaws.{tupled}
use Rattle.pyd_grammar.proofs.Shapes.{Meets, Files, Items, Names, Def, Params, Suite, Stmts, Stmt, Arms, Other, Assigned, Options, Tests, Test, Maybe}

-- ---- files

pub items_made : (a : Piece) (m : ℕ) → Meets Items a m → (b : Piece) (n : ℕ) → Meets Files b n → (line : ℕ) → Meets Files (as_items a b) (0 + m + n)
items_made (piece.Item i) m h (piece.Items is) n k line = record { formed = and_from _ _ h.formed k.formed; few = omega arith }
items_made (piece.Item i) m h b n k line = absurd k
items_made a m h b n k line = absurd h

pub end_made : (a : Piece) (line : ℕ) → Meets Files (as_end a) 0
end_made a line = record { formed = refl; few = omega arith }

pub function_made : (a : Piece) (m : ℕ) → Meets Def a m → (line : ℕ) → Meets Items (as_function_item a) (0 + m)
function_made (piece.Def ms f) m h line = record { formed = h.formed; few = omega arith }
function_made a m h line = absurd h

pub statement_made : (a : Piece) (m : ℕ) → Meets Stmt a m → (line : ℕ) → Meets Items (as_statement_item a) (0 + m)
statement_made (piece.Stmt s) m h line = record { formed = h.formed; few = omega arith }
statement_made a m h line = absurd h

pub import_made : (bytes : List ℕ) (a b c d e : Piece) (m : ℕ) → Meets Names e m → (f : Piece) (line : ℕ) → Meets Items (as_import bytes line a b c d e f) (128 + m + 0)
import_made bytes a b c d piece.Nothing m h f line = record { formed = refl; few = omega arith }
import_made bytes a b c d (piece.Names ns) m h f line = record { formed = refl; few = omega arith }
import_made bytes a b c d e m h f line = absurd h

pub names_made : (bytes : List ℕ) (a b c : Piece) (m : ℕ) → Meets Names c m → (line : ℕ) → Meets Names (as_names bytes line a b c) (64 + m)
names_made bytes a b piece.Nothing m h line = omega arith
names_made bytes a b (piece.Names ns) m h line = omega arith
names_made bytes a b c m h line = absurd h

-- ---- functions

pub decorated_made : (bytes : List ℕ) (a b c d : Piece) (m : ℕ) → Meets Def d m → (line : ℕ) → Meets Def (as_decorated bytes line a b c d) (64 + m)
decorated_made bytes a b c (piece.Def ms f) m h line = record { formed = h.formed; few = omega arith }
decorated_made bytes a b c d m h line = absurd h

pub def_made : (bytes : List ℕ) (a b c d : Piece) (m : ℕ) → Meets Params d m → (e f : Piece) (n : ℕ) → Meets Suite f n → (line : ℕ) →
    Meets Def (as_def bytes line a b c d e f) (96 + m + 32 + n)
def_made bytes a b c piece.Nothing m h e (piece.Suite s) n k line = record { formed = k.formed; few = omega arith }
def_made bytes a b c (piece.Params ps) m h e (piece.Suite s) n k line = record { formed = k.formed; few = omega arith }
def_made bytes a b c piece.Nothing m h e f n k line = absurd k
def_made bytes a b c (piece.Params ps) m h e f n k line = absurd k
def_made bytes a b c d m h e f n k line = absurd h

pub params_made : (bytes : List ℕ) (a b : Piece) (m : ℕ) → Meets Params b m → (line : ℕ) → Meets Params (as_params bytes line a b) (32 + m)
params_made bytes a piece.Nothing m h line = omega arith
params_made bytes a (piece.Params ps) m h line = omega arith
params_made bytes a b m h line = absurd h

pub more_params_made : (a b : Piece) (m : ℕ) → Meets Params b m → (line : ℕ) → Meets Params (second a b) (32 + m)
more_params_made a piece.Nothing m h line = tt
more_params_made a (piece.Params ps) m h line = omega arith
more_params_made a b m h line = absurd h

-- ---- suites

stmts_fit : (a : Piece) (m : ℕ) → Meets Stmts a m → FormedStmts (stmts_of a) m
stmts_fit piece.Nothing m h = stmts_none m
stmts_fit (piece.Stmts ss) m h = h
stmts_fit a m h = absurd h

pub suite_made : (a b c d : Piece) (m : ℕ) → Meets Stmt d m → (e : Piece) (n : ℕ) → Meets Stmts e n → (f : Piece) (line : ℕ) → Meets Suite (as_suite a b c d e f) (32 + m + n + 0)
suite_made a b c (piece.Stmt s) m h e n k f line = block s (stmts_of e) m n (32 + m + n + 0) h (stmts_fit e n k) (omega arith)
suite_made a b c d m h e n k f line = absurd h

pub stmts_made : (a : Piece) (m : ℕ) → Meets Stmt a m → (b : Piece) (n : ℕ) → Meets Stmts b n → (line : ℕ) → Meets Stmts (as_stmts a b) (0 + m + n)
stmts_made (piece.Stmt s) m h b n k line = stmts_cons s (stmts_of b) m n (0 + m + n) h (stmts_fit b n k) (omega arith)
stmts_made a m h b n k line = absurd h

arms_fit : (a : Piece) (m : ℕ) → Meets Arms a m → FormedArms (arms_of a) m
arms_fit piece.Nothing m h = arms_none m
arms_fit (piece.Arms xs) m h = h
arms_fit a m h = absurd h

other_fits : (a : Piece) (m : ℕ) → Meets Other a m → FormedOther (optional_suite a) m
other_fits piece.Nothing m h = other_none m
other_fits (piece.Suite b) m h = other_some b m m h (omega arith)
other_fits a m h = absurd h

arms_from : (line : ℕ) (a : Piece) (k : ℕ) → Meets Test a k → (b : Piece) (m : ℕ) → Meets Suite b m → (c : Piece) (n : ℕ) → Meets Arms c n → (w : ℕ) → (k + m) + n ≤ w →
    FormedArms (arm line a b ∷ arms_of c) w
arms_from line (piece.Expr e) k h (piece.Suite s) m i c n j w l = arms_cons line e s (arms_of c) k m n w h i (arms_fit c n j) l
arms_from line (piece.Expr e) k h b m i c n j w l = absurd i
arms_from line a k h b m i c n j w l = absurd h

pub if_made : (bytes : List ℕ) (a b : Piece) (k : ℕ) → Meets Test b k → (c : Piece) (m : ℕ) → Meets Suite c m → (d : Piece) (n : ℕ) → Meets Arms d n →
    (e : Piece) (p : ℕ) → Meets Other e p → (line : ℕ) → Meets Stmt (as_if bytes line a b c d e) (32 + k + m + n + p)
if_made bytes a b k h c m i d n j e p o line =
    statement line (what.If (arm line b c ∷ arms_of d) (optional_suite e)) (32 + k + m + n + p) (32 + k + m + n + p)
    (conditional (arm line b c) (arms_of d) (optional_suite e) (k + m + n) p (32 + k + m + n + p) (arms_from line b k h c m i d n j (k + m + n) (omega arith)) (other_fits e p o) (omega arith))
    (omega arith)

pub elifs_made : (bytes : List ℕ) (a b : Piece) (k : ℕ) → Meets Test b k → (c : Piece) (m : ℕ) → Meets Suite c m → (d : Piece) (n : ℕ) → Meets Arms d n →
    (line : ℕ) → Meets Arms (as_elifs bytes line a b c d) (32 + k + m + n)
elifs_made bytes a b k h c m i d n j line = arms_from line b k h c m i d n j (32 + k + m + n) (omega arith)

pub else_made : (a b : Piece) (m : ℕ) → Meets Suite b m → (line : ℕ) → Meets Other (second a b) (32 + m)
else_made a (piece.Suite b) m h line = record { formed = h.formed; few = omega arith }
else_made a b m h line = absurd h

pub while_made : (bytes : List ℕ) (a b : Piece) (m : ℕ) → Meets Test b m → (c : Piece) (n : ℕ) → Meets Suite c n → (line : ℕ) → Meets Stmt (as_while bytes line a b c) (32 + m + n)
while_made bytes a (piece.Expr e) m h (piece.Suite s) n k line =
    statement line (what.While e s) (m + n) (32 + m + n) (loop e s m n (m + n) h k (omega arith)) (omega arith)
while_made bytes a (piece.Expr e) m h c n k line = absurd k
while_made bytes a b m h c n k line = absurd h

targets_behind : (n : List ℕ) (a : Piece) (m : ℕ) → Meets Names a m → FormedTargets (loop_targets n a) (1 + m)
targets_behind n piece.Nothing m h = record { formed = refl; few = omega arith }
targets_behind n (piece.Names ns) m h = record { formed = refl; few = omega arith }
targets_behind n a m h = absurd h

pub for_made : (bytes : List ℕ) (a b c : Piece) (k : ℕ) → Meets Names c k → (d e : Piece) (m : ℕ) → Meets Tests e m → (f : Piece) (n : ℕ) → Meets Suite f n → (line : ℕ) →
    Meets Stmt (as_for bytes line a b c d e f) (64 + k + 32 + m + n)
for_made bytes a b c k h d e m i (piece.Suite s) n j line =
    let t = loop_targets (name_in bytes b) c in
    statement line (what.For t (tuple_of e) s) (64 + k + 32 + m + n) (64 + k + 32 + m + n)
    (iteration t (tuple_of e) s (1 + k) (m + 1) n (64 + k + 32 + m + n) (targets_behind (name_in bytes b) c k h) (tupled e m i) j (omega arith)) (omega arith)
for_made bytes a b c k h d e m i f n j line = absurd j

pub targets_made : (bytes : List ℕ) (a b : Piece) (m : ℕ) → Meets Names b m → (line : ℕ) → Meets Names (as_targets bytes line a b) (32 + m)
targets_made bytes a piece.Nothing m h line = omega arith
targets_made bytes a (piece.Names ns) m h line = omega arith
targets_made bytes a b m h line = absurd h

pub more_targets_made : (a b : Piece) (m : ℕ) → Meets Names b m → (line : ℕ) → Meets Names (as_more_targets a b) (32 + m)
more_targets_made a piece.Nothing m h line = omega arith
more_targets_made a (piece.Names ns) m h line = omega arith
more_targets_made a b m h line = absurd h

-- ---- simple statements

assigned_fits : (e : Expr) (m : ℕ) → Formed e (m + 1) → (b : Piece) (n : ℕ) → Meets Assigned b n → FormedWhat (assigned e b) (m + n + 1)
assigned_fits e m h piece.Nothing n k = expression e (m + 1) (m + n + 1) h (omega arith)
assigned_fits e m h (piece.Assign r) n k =
    assign (unwrap_or (targets_of e) no_targets) r (expression_parts e) n (m + n + 1) (targets_fit e) k (omega arith)
assigned_fits e m h (piece.Augment op r) n k = augment (unwrap_or (name_of e) []) op r n (m + n + 1) k (omega arith)
assigned_fits e m h b n k = absurd k

pub simple_made : (bytes : List ℕ) (a : Piece) (m : ℕ) → Meets Tests a m → (b : Piece) (n : ℕ) → Meets Assigned b n → (c : Piece) (line : ℕ) →
    Meets Stmt (as_simple bytes line a b c) (0 + m + n + 0)
simple_made bytes a m h b n k c line =
    statement line (assigned (tuple_of a) b) (m + n + 1) (0 + m + n + 0) (assigned_fits (tuple_of a) m (tupled a m h) b n k) (omega arith)

pub pass_made : (bytes : List ℕ) (a b : Piece) (line : ℕ) → Meets Stmt (as_pass bytes line a b) 32
pass_made bytes a b line = statement line what.Pass 32 32 (pass 32 (omega arith)) (omega arith)

pub break_made : (bytes : List ℕ) (a b : Piece) (line : ℕ) → Meets Stmt (as_break bytes line a b) 32
break_made bytes a b line = statement line what.Break 32 32 (leave 32 (omega arith)) (omega arith)

pub continue_made : (bytes : List ℕ) (a b : Piece) (line : ℕ) → Meets Stmt (as_continue bytes line a b) 32
continue_made bytes a b line = statement line what.Continue 32 32 (again 32 (omega arith)) (omega arith)

tuple_maybe : (a : Piece) (m : ℕ) → Meets Options a m → FormedMaybe (optional_tuple a) (m + 1)
tuple_maybe piece.Nothing m h = record { formed = refl; few = omega arith }
tuple_maybe (piece.Expr e) m h = maybe_some e m (m + 1) h (omega arith)
tuple_maybe (piece.Many es) m h = maybe_some _ (m + 1) (m + 1) (tuple es m (m + 1) h (omega arith)) (omega arith)
tuple_maybe a m h = absurd h

pub return_made : (bytes : List ℕ) (a b : Piece) (m : ℕ) → Meets Options b m → (c : Piece) (line : ℕ) → Meets Stmt (as_return bytes line a b c) (32 + m + 0)
return_made bytes a b m h c line =
    statement line (what.Return (optional_tuple b)) (32 + m + 0) (32 + m + 0) (answer (optional_tuple b) (m + 1) (32 + m + 0) (tuple_maybe b m h) (omega arith)) (omega arith)

pub assert_made : (bytes : List ℕ) (a b : Piece) (m : ℕ) → Meets Test b m → (c : Piece) (n : ℕ) → Meets Maybe c n → (d : Piece) (line : ℕ) →
    Meets Stmt (as_assert bytes line a b c d) (32 + m + n + 0)
assert_made bytes a (piece.Expr e) m h piece.Nothing n k d line =
    statement line (what.Assert e None) m (32 + m + n + 0) (assertion e None m 0 m h (record { formed = refl; few = omega arith }) (omega arith)) (omega arith)
assert_made bytes a (piece.Expr e) m h (piece.Expr x) n k d line =
    statement line (what.Assert e (Some x)) (m + n) (32 + m + n + 0) (assertion e (Some x) m n (m + n) h (maybe_some x n n k (omega arith)) (omega arith)) (omega arith)
assert_made bytes a (piece.Expr e) m h c n k d line = absurd k
assert_made bytes a b m h c n k d line = absurd h

pub assign_made : (a b : Piece) (m : ℕ) → Meets Tests b m → (line : ℕ) → Meets Assigned (as_assign a b) (32 + m)
assign_made a b m h line = formed_more (tuple_of b) (m + 1) (32 + m) (tupled b m h) (omega arith)

pub augment_made : (a b : Piece) (m : ℕ) → Meets Tests b m → (line : ℕ) → Meets Assigned (as_augment a b) (32 + m)
augment_made a b m h line = formed_more (tuple_of b) (m + 1) (32 + m) (tupled b m h) (omega arith)
