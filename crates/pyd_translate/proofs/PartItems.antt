-- An expression that a number names has no more parts than its routine has items.
use Rattle.std.proofs.Common.{◌≡◌, ◌≤◌, ℕ, zero, suc, ◌+◌, List, [], ◌∷◌, ◌++◌, map, Some, None, sym, subst, arith}
use Rattle.std.specs.List.{slice_get}
use Rattle.pyd_value.specs.Size.{total}
use Rattle.pyd_tree.specs.declared.expression.Expr.{Expr, out-Expr}
use Rattle.pyd_tree.specs.declared.expression.Expr.TheOpen.{Expr-F, Suffix-F}
use Rattle.pyd_tree.specs.declared.expression.Expr.TheFolds.{fold_out-Expr, fold_out-Suffix}
use Rattle.pyd_tree.specs.declared.expression.Suffix.{Suffix, out-Suffix}
use Rattle.pyd_tree.specs.declared.statement.What.{What, out-What}
use Rattle.pyd_tree.specs.declared.statement.What.TheOpen.{What-F}
use Rattle.pyd_tree.specs.declared.statement.What.TheFolds.{fold_out-Arm, fold_out-Block}
use Rattle.pyd_tree.specs.declared.statement.Arm.{Arm, out-Arm, fold-Arm}
use Rattle.pyd_tree.specs.declared.statement.Block.{Block, out-Block, fold-Block}
use Rattle.pyd_tree.specs.declared.statement.Stmt.{Stmt}
use Rattle.pyd_names.specs.WellFormed.{count_expression, count_suffix, expression_parts}
use Rattle.pyd_scope.specs.Numbering.{Contents, expressions, expression_table, inner, contents, arm_contents, arms_contents, body}
use Rattle.pyd_translate.specs.Counts.{what_items, arm_items, block_items, stmt_items, items, all_items, NumberedItems}
use Rattle.pyd_translate.proofs.Induction.{Each, InBrackets, InParts, InSuite, InSuites, by_parts, by_suites}
use Rattle.pyd_translate.proofs.Within.{bracketed_expressions, suffix_expressions, member_expressions, operand_expressions, all_bracketed, part_expressions, expressions_out}
use Rattle.pyd_translate.proofs.Contents.{block_contents, what_inner, arm_out, inner_out}
use Rattle.pyd_translate.proofs.FewInParts.{member_parts, operand_parts, all_suffix_parts, parts_level, brackets_level}
use Rattle.pyd_translate.proofs.FewInStatements.{items_level, items_out}

-- P of each of two lists
each_both : {A : Type 0} (P : A → Type 0) (xs ys : List A) → Each P xs → Each P ys
    → Each P (xs ++ ys)
each_both P [] ys p q = q
each_both P (x ∷ xs) ys p q = (p.0, each_both P xs ys p.1 q)

-- P of an item that is looked up
each_at : {A : Type 0} (P : A → Type 0) (xs : List A) (k : ℕ) (x : A) → Each P xs
    → slice_get xs k ≡ Some x → P x
each_at P [] k x p q = absurd (cc q)
each_at P (y ∷ xs) zero x p q = let same : y ≡ x = cc q in subst P same p.0
each_at P (y ∷ xs) (suc k) x p q = each_at P xs k x p.1 q

-- each expression has so many parts at most
abbrev HavePartsUpTo : ℕ → List Expr → Type 0
HavePartsUpTo n es = Each (λ e. expression_parts e ≤ n) es

-- or more
up_to_more : (m n : ℕ) (es : List Expr) → m ≤ n → HavePartsUpTo m es → HavePartsUpTo n es
up_to_more m n [] le p = tt
up_to_more m n (e ∷ es) le p = (omega (arith, le, p.0), up_to_more m n es le p.1)

-- of two lists
up_to_both : (n : ℕ) (xs ys : List Expr) → HavePartsUpTo n xs → HavePartsUpTo n ys
    → HavePartsUpTo n (xs ++ ys)
up_to_both n xs ys p q = each_both (λ e. expression_parts e ≤ n) xs ys p q

-- the expressions in one have no more parts than it has
abbrev IsGreatest : Expr → Type 0
IsGreatest e = HavePartsUpTo (expression_parts e) (expressions e)

-- those of one of the parts
part_up_to : (n : ℕ) (e : Expr) → IsGreatest e → expression_parts e ≤ n
    → HavePartsUpTo n (expressions e)
part_up_to n e p le = up_to_more (expression_parts e) n (expressions e) le p

-- of several
members_up_to : (n : ℕ) (es : List Expr) → Each IsGreatest es → member_parts es ≤ n
    → HavePartsUpTo n (member_expressions es)
members_up_to n [] p le = tt
members_up_to n (e ∷ es) p le =
    up_to_both n (expressions e) (member_expressions es)
    (part_up_to n e p.0 (omega (arith, le))) (members_up_to n es p.1 (omega (arith, le)))

-- of right operands
operands_up_to : {A : Type 0} (n : ℕ) (links : List (A × Expr)) → Each (λ l. IsGreatest l.1) links
    → operand_parts links ≤ n → HavePartsUpTo n (operand_expressions links)
operands_up_to n [] p le = tt
operands_up_to n (l ∷ links) p le =
    up_to_both n (expressions l.1) (operand_expressions links)
    (part_up_to n l.1 p.0 (omega (arith, le))) (operands_up_to n links p.1 (omega (arith, le)))

-- of one level of brackets
brackets_up_to : (n : ℕ) (y : Suffix-F Expr Suffix) → InBrackets IsGreatest y
    → count_suffix (brackets_level y) ≤ n → HavePartsUpTo n (bracketed_expressions y)
brackets_up_to n (Suffix-F.Index index) p le = part_up_to n index p (omega (arith, le))
brackets_up_to n (Suffix-F.Slice None None) p le = tt
brackets_up_to n (Suffix-F.Slice None (Some high)) p le =
    part_up_to n high p.1 (omega (arith, le))
brackets_up_to n (Suffix-F.Slice (Some low) None) p le =
    up_to_both n (expressions low) [] (part_up_to n low p.0 (omega (arith, le))) tt
brackets_up_to n (Suffix-F.Slice (Some low) (Some high)) p le =
    up_to_both n (expressions low) (expressions high) (part_up_to n low p.0 (omega (arith, le)))
    (part_up_to n high p.1 (omega (arith, le)))

-- of all brackets
suffixes_up_to : (n : ℕ) (ss : List Suffix) → Each (λ s. InBrackets IsGreatest (out-Suffix s)) ss
    → all_suffix_parts ss ≤ n → HavePartsUpTo n (all_bracketed ss)
suffixes_up_to n [] p le = tt
suffixes_up_to n (s ∷ ss) p le =
    let is = fold_out-Suffix ℕ ℕ count_expression count_suffix s in
    up_to_both n (suffix_expressions s) (all_bracketed ss)
    (brackets_up_to n (out-Suffix s) p.0 (omega (arith, le, is)))
    (suffixes_up_to n ss p.1 (omega (arith, le)))

-- of one level
parts_up_to : (n : ℕ) (y : Expr-F Expr Suffix) → InParts IsGreatest y
    → count_expression (parts_level y) ≤ n → HavePartsUpTo n (part_expressions y)
parts_up_to n (Expr-F.Lit v) p le = tt
parts_up_to n (Expr-F.Name name) p le = tt
parts_up_to n (Expr-F.Tuple members) p le = members_up_to n members p (omega (arith, le))
parts_up_to n (Expr-F.Unary op e) p le = part_up_to n e p (omega (arith, le))
parts_up_to n (Expr-F.Chain first links) p le =
    up_to_both n (expressions first) (operand_expressions links)
    (part_up_to n first p.0 (omega (arith, le))) (operands_up_to n links p.1 (omega (arith, le)))
parts_up_to n (Expr-F.Power base exponent) p le =
    up_to_both n (expressions base) (expressions exponent)
    (part_up_to n base p.0 (omega (arith, le))) (part_up_to n exponent p.1 (omega (arith, le)))
parts_up_to n (Expr-F.And members) p le = members_up_to n members p (omega (arith, le))
parts_up_to n (Expr-F.Or members) p le = members_up_to n members p (omega (arith, le))
parts_up_to n (Expr-F.Compare first links) p le =
    up_to_both n (expressions first) (operand_expressions links)
    (part_up_to n first p.0 (omega (arith, le))) (operands_up_to n links p.1 (omega (arith, le)))
parts_up_to n (Expr-F.If test first second) p le =
    up_to_both n (expressions first) (expressions test ++ expressions second)
    (part_up_to n first p.1.0 (omega (arith, le)))
    (up_to_both n (expressions test) (expressions second)
    (part_up_to n test p.0 (omega (arith, le))) (part_up_to n second p.1.1 (omega (arith, le))))
parts_up_to n (Expr-F.Call name args) p le = members_up_to n args p (omega (arith, le))
parts_up_to n (Expr-F.Suffixed base suffixes) p le =
    up_to_both n (expressions base) (all_bracketed suffixes)
    (part_up_to n base p.0 (omega (arith, le))) (suffixes_up_to n suffixes p.1 (omega (arith, le)))

-- the expressions in each have no more parts than it has
greatest : (e : Expr) → IsGreatest e
greatest =
    by_parts IsGreatest (λ e p.
    let is = fold_out-Expr ℕ ℕ count_expression count_suffix e in
    subst (HavePartsUpTo (expression_parts e)) (sym (expressions_out e))
    (omega arith, parts_up_to (expression_parts e) (out-Expr e) p (omega (arith, is))))

-- those of an expression
one_up_to : (n : ℕ) (e : Expr) → expression_parts e ≤ n → HavePartsUpTo n (expressions e)
one_up_to n e le = part_up_to n e (greatest e) le

-- the expressions in a statement have no more parts than it has items
abbrev OfStatement : Stmt → Type 0
OfStatement s = HavePartsUpTo (items s) (inner s).expressions

-- those in statements
each_up_to : (n : ℕ) (ss : List Stmt) → Each OfStatement ss → all_items ss ≤ n
    → HavePartsUpTo n (contents ss).expressions
each_up_to n [] p le = tt
each_up_to n (s ∷ ss) p le =
    up_to_both n (inner s).expressions (contents ss).expressions
    (up_to_more (items s) n (inner s).expressions (omega (arith, le)) p.0)
    (each_up_to n ss p.1 (omega (arith, le)))

-- in a block
block_up_to : (n : ℕ) (b : Block) → InSuite OfStatement b
    → fold-Block ℕ ℕ ℕ ℕ what_items arm_items block_items stmt_items b ≤ n
    → HavePartsUpTo n (block_contents b).expressions
unfolding items
block_up_to n b p le =
    each_up_to n (out-Block b).stmts p
    (subst (λ m. m ≤ n) (fold_out-Block ℕ ℕ ℕ ℕ what_items arm_items block_items stmt_items b) le)

-- in arms
arms_up_to : (n : ℕ) (arms : List Arm) → Each (λ a. InSuite OfStatement (out-Arm a).body) arms
    → total (map (fold-Arm ℕ ℕ ℕ ℕ what_items arm_items block_items stmt_items) arms) ≤ n
    → HavePartsUpTo n (arms_contents arms).expressions
arms_up_to n [] p le = tt
arms_up_to n (a ∷ arms) p le =
    let is = fold_out-Arm ℕ ℕ ℕ ℕ what_items arm_items block_items stmt_items a in
    up_to_both n (arm_contents a).expressions (arms_contents arms).expressions
    (subst (λ (c : Contents). HavePartsUpTo n c.expressions) (sym (arm_out a))
    (up_to_both n (expressions (out-Arm a).test) (block_contents (out-Arm a).body).expressions
    (one_up_to n (out-Arm a).test (omega (arith, le, is)))
    (block_up_to n (out-Arm a).body p.0 (omega (arith, le, is)))))
    (arms_up_to n arms p.1 (omega (arith, le)))

-- in one level
level_up_to : (n : ℕ) (y : What-F What Arm Block Stmt) → InSuites OfStatement y
    → 1 + what_items (items_level y) ≤ n → HavePartsUpTo n (what_inner y).expressions
level_up_to n (What-F.Expr e) p le = one_up_to n e (omega (arith, le))
level_up_to n (What-F.Assign targets e) p le = one_up_to n e (omega (arith, le))
level_up_to n (What-F.Aug name op e) p le = one_up_to n e (omega (arith, le))
level_up_to n (What-F.If arms None) p le =
    up_to_both n (arms_contents arms).expressions []
    (arms_up_to n arms p.0 (omega (arith, le))) tt
level_up_to n (What-F.If arms (Some b)) p le =
    up_to_both n (arms_contents arms).expressions (block_contents b).expressions
    (arms_up_to n arms p.0 (omega (arith, le))) (block_up_to n b p.1 (omega (arith, le)))
level_up_to n (What-F.While test body) p le =
    up_to_both n (expressions test) (block_contents body).expressions
    (one_up_to n test (omega (arith, le))) (block_up_to n body p (omega (arith, le)))
level_up_to n (What-F.For targets e body) p le =
    up_to_both n (expressions e) (block_contents body).expressions
    (one_up_to n e (omega (arith, le))) (block_up_to n body p (omega (arith, le)))
level_up_to n (What-F.Return None) p le = tt
level_up_to n (What-F.Return (Some e)) p le = one_up_to n e (omega (arith, le))
level_up_to n What-F.Break p le = tt
level_up_to n What-F.Continue p le = tt
level_up_to n What-F.Pass p le = tt
level_up_to n (What-F.Assert test None) p le =
    up_to_both n (expressions test) [] (one_up_to n test (omega (arith, le))) tt
level_up_to n (What-F.Assert test (Some message)) p le =
    up_to_both n (expressions test) (expressions message) (one_up_to n test (omega (arith, le)))
    (one_up_to n message (omega (arith, le)))

-- in each statement
statement_up_to : (s : Stmt) → OfStatement s
statement_up_to =
    by_suites OfStatement (λ s p.
    let is = items_out s in
    subst (λ (c : Contents). HavePartsUpTo (items s) c.expressions) (sym (inner_out s))
    (level_up_to (items s) (out-What s.what) p (omega (arith, is))))

-- in all
all_up_to : (ss : List Stmt) → Each OfStatement ss
all_up_to [] = tt
all_up_to (s ∷ ss) = (statement_up_to s, all_up_to ss)

-- an expression that a number names has no more parts than its routine has items
pub numbered_few : NumberedItems
numbered_few file routine k e found =
    each_at (λ x. expression_parts x ≤ all_items (body file routine)) (expression_table file routine)
    k e
    (each_up_to (all_items (body file routine)) (body file routine)
    (all_up_to (body file routine)) (omega arith)) found
