-- The suites of a statement stand between its number and its end.
use Rattle.std.proofs.Common.{◌≡◌, ◌≤◌, ℕ, zero, suc, ◌+◌, List, [], ◌∷◌, take, Option, Some, None, sym, ap, subst, arith}
use Rattle.std.specs.List.{slice_get}
use Rattle.pyd_tree.specs.declared.statement.What.{What, out-What}
use Rattle.pyd_tree.specs.declared.statement.What.TheOpen.{What-F}
use Rattle.pyd_tree.specs.declared.statement.Arm.{Arm, out-Arm}
use Rattle.pyd_tree.specs.declared.statement.Block.{Block, out-Block}
use Rattle.pyd_tree.specs.declared.statement.Stmt.{Stmt}
use Rattle.pyd_scope.specs.Numbering.{Contents, contents, inner, arm_contents, arms_contents, table, Point, past, past_expression, inside}
use Rattle.pyd_scope.specs.Passages.{passage_at}
use Rattle.pyd_translate.specs.declared.at.Start.TheVariants as at
use Rattle.pyd_translate.specs.Compounds.{past_first, compound_of, first_compound}
use Rattle.pyd_translate.specs.Starts.{maybe_suite, arm_suite, suite_of_arm, suite_of_else, suite_of_loop, passage}
use Rattle.pyd_translate.specs.Nested.{AreWithin, IsWithin, end_of, StartWithin}
use Rattle.pyd_translate.proofs.Contents.{maybe_block, what_inner, arm_out, inner_out}
use Rattle.pyd_translate.proofs.Placing.{past_both}
use Rattle.pyd_translate.proofs.NestedRests.{entry_begins}

-- statements that begin and end between two numbers
within_of : (ss : List Stmt) (number first last : ℕ) → first ≤ number
    → number + (contents ss).statements ≤ last → AreWithin first last ss number
within_of [] number first last p q = tt
within_of (s ∷ ss) number first last p q = (p, q)

-- the suite of each of some arms
arm_within : (arms : List Arm) (arm : ℕ) (p : Point) (first last : ℕ) → first ≤ p.statement
    → p.statement + (arms_contents arms).statements ≤ last
    → IsWithin first last (arm_suite (slice_get arms arm) (past (arms_contents (take arm arms)) p))
arm_within [] arm p first last low high = tt
arm_within (a ∷ arms) zero p first last low high =
    let is = ap (λ (c : Contents). c.statements) (arm_out a) in
    within_of (out-Block (out-Arm a).body).stmts (p.statement + 0 + 0) first last (omega (arith, low))
    (omega (arith, high, is))
arm_within (a ∷ arms) (suc arm) p first last low high =
    subst (λ q. IsWithin first last (arm_suite (slice_get arms arm) q))
    (sym (past_both (arm_contents a) (arms_contents (take arm arms)) p))
    (arm_within arms arm (past (arm_contents a) p) first last (omega (arith, low))
    (omega (arith, high)))

-- the suite of an `else`
else_within : (b : Option Block) (p : Point) (first last : ℕ) → first ≤ p.statement
    → p.statement + (maybe_block b).statements ≤ last → IsWithin first last (maybe_suite b p)
else_within None p first last low high = tt
else_within (Some b) p first last low high =
    within_of (out-Block b).stmts p.statement first last low high

-- the suite of an arm, by the first level of its statement
arm_level : (y : What-F What Arm Block Stmt) (arm : ℕ) (p : Point)
    → IsWithin (suc p.statement) (suc p.statement + (what_inner y).statements)
    (suite_of_arm (compound_of y) arm p)
arm_level (What-F.Expr e) arm p = tt
arm_level (What-F.Assign targets e) arm p = tt
arm_level (What-F.Aug name op e) arm p = tt
arm_level (What-F.If arms otherwise) arm p =
    arm_within arms arm (inside p) (suc p.statement)
    (suc p.statement + (what_inner (What-F.If arms otherwise)).statements) (omega arith)
    (omega arith)
arm_level (What-F.While test body) arm p = tt
arm_level (What-F.For targets e body) arm p = tt
arm_level (What-F.Return e) arm p = tt
arm_level What-F.Break arm p = tt
arm_level What-F.Continue arm p = tt
arm_level What-F.Pass arm p = tt
arm_level (What-F.Assert test message) arm p = tt

-- the suite of its `else`
else_level : (y : What-F What Arm Block Stmt) (p : Point)
    → IsWithin (suc p.statement) (suc p.statement + (what_inner y).statements)
    (suite_of_else (compound_of y) p)
else_level (What-F.Expr e) p = tt
else_level (What-F.Assign targets e) p = tt
else_level (What-F.Aug name op e) p = tt
else_level (What-F.If arms otherwise) p =
    else_within otherwise (past (arms_contents arms) (inside p)) (suc p.statement)
    (suc p.statement + (what_inner (What-F.If arms otherwise)).statements) (omega arith)
    (omega arith)
else_level (What-F.While test body) p = tt
else_level (What-F.For targets e body) p = tt
else_level (What-F.Return e) p = tt
else_level What-F.Break p = tt
else_level What-F.Continue p = tt
else_level What-F.Pass p = tt
else_level (What-F.Assert test message) p = tt

-- the suite of a loop
loop_level : (y : What-F What Arm Block Stmt) (p : Point)
    → IsWithin (suc p.statement) (suc p.statement + (what_inner y).statements)
    (suite_of_loop (compound_of y) p)
loop_level (What-F.Expr e) p = tt
loop_level (What-F.Assign targets e) p = tt
loop_level (What-F.Aug name op e) p = tt
loop_level (What-F.If arms otherwise) p = tt
loop_level (What-F.While test body) p =
    within_of (out-Block body).stmts (past_expression test (inside p)).statement (suc p.statement)
    (suc p.statement + (what_inner (What-F.While test body)).statements) (omega arith) (omega arith)
loop_level (What-F.For targets e body) p =
    within_of (out-Block body).stmts (past_expression e (inside p)).statement (suc p.statement)
    (suc p.statement + (what_inner (What-F.For targets e body)).statements) (omega arith)
    (omega arith)
loop_level (What-F.Return e) p = tt
loop_level What-F.Break p = tt
loop_level What-F.Continue p = tt
loop_level What-F.Pass p = tt
loop_level (What-F.Assert test message) p = tt

-- the end of a statement, by its first level
ends : (s : Stmt) (n : ℕ) → n + (what_inner (out-What s.what)).statements ≡ n + (inner s).statements
ends s n = ap (λ (c : Contents). n + c.statements) (sym (inner_out s))

-- the suite of an arm of the first statement
arm_first : (arm : ℕ) (ss : List Stmt) (p : Point)
    → IsWithin (suc p.statement) (past_first ss p).statement (suite_of_arm (first_compound ss) arm p)
arm_first arm [] p = tt
arm_first arm (s ∷ ss) p =
    subst (λ n. IsWithin (suc p.statement) n (suite_of_arm (first_compound (s ∷ ss)) arm p))
    (ends s (suc p.statement)) (arm_level (out-What s.what) arm p)

-- of its `else`
else_first : (ss : List Stmt) (p : Point)
    → IsWithin (suc p.statement) (past_first ss p).statement (suite_of_else (first_compound ss) p)
else_first [] p = tt
else_first (s ∷ ss) p =
    subst (λ n. IsWithin (suc p.statement) n (suite_of_else (first_compound (s ∷ ss)) p))
    (ends s (suc p.statement)) (else_level (out-What s.what) p)

-- of the loop
loop_first : (ss : List Stmt) (p : Point)
    → IsWithin (suc p.statement) (past_first ss p).statement (suite_of_loop (first_compound ss) p)
loop_first [] p = tt
loop_first (s ∷ ss) p =
    subst (λ n. IsWithin (suc p.statement) n (suite_of_loop (first_compound (s ∷ ss)) p))
    (ends s (suc p.statement)) (loop_level (out-What s.what) p)

-- the suites of statement k stand between its number and its end
pub start_within : StartWithin
start_within file routine at.Body = tt
start_within file routine (at.Arm k arm) =
    subst (λ n. IsWithin (suc n) (end_of file routine k) (passage file routine (at.Arm k arm)))
    (entry_begins (slice_get (table file routine) k) k)
    (arm_first arm (passage_at file routine k).stmts (passage_at file routine k).point)
start_within file routine (at.Otherwise k) =
    subst (λ n. IsWithin (suc n) (end_of file routine k) (passage file routine (at.Otherwise k)))
    (entry_begins (slice_get (table file routine) k) k)
    (else_first (passage_at file routine k).stmts (passage_at file routine k).point)
start_within file routine (at.LoopBody k) =
    subst (λ n. IsWithin (suc n) (end_of file routine k) (passage file routine (at.LoopBody k)))
    (entry_begins (slice_get (table file routine) k) k)
    (loop_first (passage_at file routine k).stmts (passage_at file routine k).point)
start_within file routine at.Rest = tt
