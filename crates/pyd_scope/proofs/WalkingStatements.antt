-- Cells of statements that are put one behind the other are those of the whole.
use Rattle.std.proofs.Common.{◌≡◌, ◌<◌, ◌≤◌, ℕ, suc, ◌+◌, List, [], ◌∷◌, ◌++◌, length, drop, get_or, sym, ap, ◌∙◌, append_assoc, append-nil, arith}
use Rattle.std.proofs.lemmas.List.{length-append}
use Rattle.pyd_tree.specs.declared.expression.Expr.{Expr}
use Rattle.pyd_tree.specs.declared.statement.Arm.{Arm}
use Rattle.pyd_tree.specs.declared.statement.Stmt.{Stmt}
use Rattle.pyd_scope.specs.declared.cells.Origin.TheVariants.{Header}
use Rattle.pyd_scope.specs.declared.cells.Suite.{Suite}
use Rattle.pyd_scope.specs.declared.cells.ExpressionCell.{ExpressionCell}
use Rattle.pyd_scope.specs.declared.cells.StatementCell.{StatementCell}
use Rattle.pyd_scope.specs.Numbering.{point, inside}
use Rattle.pyd_scope.specs.Cells.{Cells, Making, no_cells, past_cells, joined_cells, then_cells, header_cells, stmts_from, arms_from, stmt_cells, arm_cells, inner_cells, expression_cells, end_of, added}
use Rattle.pyd_scope.specs.Closing.{IsClosedStmt}
use Rattle.pyd_scope.proofs.StatementLevels.{stmt_out}
use Rattle.pyd_scope.proofs.Leasts.{drop_at}
use Rattle.pyd_scope.proofs.Walking.{next_is, drop_past}

-- cells of statements and of expressions
abbrev pub cells : List StatementCell → List ExpressionCell → Cells
cells statements expressions = record { statements = statements; expressions = expressions }

-- where some cells and then others end
end-joined : (c x : Cells) → end_of (joined_cells c x) ≡ past_cells x (end_of c)
end-joined c x =
    λ i. point (length-append c.statements x.statements i)
    (length-append c.expressions x.expressions i)

-- one part and then another are put as both
pub added_then : (c : Cells) (a b : Making) → added (added c a) b ≡ added c (then_cells a b)
added_then c a b =
    let x = a (end_of c) in
    let y = b (past_cells x (end_of c)) in
    ap (λ p. joined_cells (joined_cells c (a (end_of c))) (b p)) (end-joined c (a (end_of c)))
    ∙ (λ i. cells (append_assoc c.statements x.statements y.statements i)
    (append_assoc c.expressions x.expressions y.expressions i))

-- nothing is put
pub added_none : (c : Cells) → added c no_cells ≡ c
added_none c = λ i. cells (append-nil c.statements i) (append-nil c.expressions i)

-- one part is put, and the rest is left
more : (old new whole : Cells) (a rest : Making) → new ≡ added old a
    → added old (then_cells a rest) ≡ whole → added new rest ≡ whole
more old new whole a rest put so_far =
    ap (λ z. added z rest) put ∙ added_then old a rest ∙ so_far

-- one more statement of a block
pub stmts_more : {S : Type 0} (f : S → Suite → ℕ → Making) (b : Suite) (at number : ℕ)
    (block : List S) (s : S) (old new whole : Cells)
    → s ≡ get_or block at s → at < length block → number ≡ at
    → added old (stmts_from f b at (drop at block)) ≡ whole
    → new ≡ added old (f s b number)
    → added new (stmts_from f b (at + 1) (drop (at + 1) block)) ≡ whole
stmts_more f b at number block s old new whole is within same so_far put =
    ap (λ n. added new (stmts_from f b n (drop (at + 1) block))) (next_is at)
    ∙ more old new whole (f s b at) (stmts_from f b (suc at) (drop (at + 1) block))
    (put ∙ ap (λ n. added old (f s b n)) same)
    (sym (ap (λ z. added old (stmts_from f b at z)) (drop_at block at s is within)) ∙ so_far)

-- no more statements
pub stmts_done : {S : Type 0} (f : S → Suite → ℕ → Making) (b : Suite) (at : ℕ) (block : List S)
    (old whole : Cells) → length block ≤ at
    → added old (stmts_from f b at (drop at block)) ≡ whole → old ≡ whole
stmts_done f b at block old whole past so_far =
    sym (added_none old)
    ∙ sym (ap (λ z. added old (stmts_from f b at z)) (drop_past block at past))
    ∙ so_far

-- one more arm
pub arms_more : (n at number : ℕ) (arms : List Arm) (a : Arm) (old new whole : Cells)
    → a ≡ get_or arms at a → at < length arms → number ≡ at
    → added old (arms_from arm_cells n at (drop at arms)) ≡ whole
    → new ≡ added old (arm_cells a n number)
    → added new (arms_from arm_cells n (at + 1) (drop (at + 1) arms)) ≡ whole
arms_more n at number arms a old new whole is within same so_far put =
    ap (λ m. added new (arms_from arm_cells n m (drop (at + 1) arms))) (next_is at)
    ∙ more old new whole (arm_cells a n at) (arms_from arm_cells n (suc at) (drop (at + 1) arms))
    (put ∙ ap (λ m. added old (arm_cells a n m)) same)
    (sym (ap (λ z. added old (arms_from arm_cells n at z)) (drop_at arms at a is within)) ∙ so_far)

-- no more arms
pub arms_done : (n at : ℕ) (arms : List Arm) (old whole : Cells) → length arms ≤ at
    → added old (arms_from arm_cells n at (drop at arms)) ≡ whole → old ≡ whole
arms_done n at arms old whole past so_far =
    sym (added_none old)
    ∙ sym (ap (λ z. added old (arms_from arm_cells n at z)) (drop_past arms at past))
    ∙ so_far

-- an expression in the lines of a statement
pub header_put : (statements : List StatementCell) (old new : List ExpressionCell) (stmt at : ℕ)
    (e : Expr) → new ≡ old ++ expression_cells e (Header stmt at) (length old)
    → cells statements new ≡ added (cells statements old) (header_cells stmt at e)
header_put statements old new stmt at e put =
    λ i. cells (sym (append-nil statements) i) (put i)

-- the cells of a statement whose own is closed behind those of what stands in it
pub stmt_closed : (s : Stmt) (b : Suite) (at : ℕ) (old one two new : Cells)
    (place expression number : ℕ) → place ≡ length old.statements
    → expression ≡ length old.expressions → number ≡ place
    → one.statements ≡ old.statements ++ record {
      suite = b;
      at = at;
      expression = expression;
      behind_statement = 0;
      behind_expression = 0;
    } ∷ []
    → one.expressions ≡ old.expressions
    → two ≡ added one (inner_cells s.what number)
    → IsClosedStmt place b at expression two new
    → new ≡ added old (stmt_cells s b at)
stmt_closed s b at old one two new place expression number is first same pushed kept put closed =
    let n = length old.statements in
    let cell : StatementCell = record {
      suite = b;
      at = at;
      expression = length old.expressions;
      behind_statement = 0;
      behind_expression = 0;
    } in
    let one_is : one ≡ cells (old.statements ++ cell ∷ []) old.expressions =
    (λ i. cells (pushed i) (kept i))
    ∙ ap (λ m. cells (old.statements ++ record {
      suite = b;
      at = at;
      expression = m;
      behind_statement = 0;
      behind_expression = 0;
    } ∷ []) old.expressions) first in
    let x = inner_cells s.what (length old.statements) (inside (end_of old)) in
    let next : length (old.statements ++ cell ∷ []) ≡ suc (length old.statements) =
    let count = length-append old.statements (cell ∷ []) in omega (arith, count) in
    let two_is : two ≡ joined_cells (cells (old.statements ++ cell ∷ []) old.expressions) x =
    put
    ∙ (λ i. added (one_is i) (inner_cells s.what ((same ∙ is) i)))
    ∙ ap (λ m. joined_cells (cells (old.statements ++ cell ∷ []) old.expressions)
    (inner_cells s.what (length old.statements) (point m (length old.expressions)))) next in
    let statements : two.statements ≡ old.statements ++ cell ∷ x.statements =
    ap (λ c. c.statements) two_is
    ∙ append_assoc old.statements (cell ∷ []) x.statements in
    let expressions : two.expressions ≡ old.expressions ++ x.expressions =
    ap (λ c. c.expressions) two_is in
    let many = ap length statements ∙ length-append old.statements (cell ∷ x.statements) in
    let behind : length two.statements ≡ suc (length old.statements) + length x.statements =
    omega (arith, many) in
    let behind_expressions : length two.expressions
    ≡ length old.expressions + length x.expressions =
    ap length expressions ∙ length-append old.expressions x.expressions in
    (λ i. cells
    ((closed.statements old.statements cell x.statements statements is
    ∙ (λ j. old.statements ++ record {
      suite = b;
      at = at;
      expression = first j;
      behind_statement = behind j;
      behind_expression = behind_expressions j;
    } ∷ x.statements)) i)
    ((closed.expressions ∙ expressions) i))
    ∙ ap (added old) (sym (stmt_out s b at))
