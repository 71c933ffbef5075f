-- A suite binds no more names than it has parts.
use Rattle.std.proofs.Common.{◌≡◌, ◌≤◌, ℕ, ◌+◌, List, [], ◌∷◌, ◌++◌, map, length, Some, None, ap, subst, arith}
use Rattle.std.proofs.lemmas.List.{length-map, length-append}
use Rattle.pyd_value.specs.Size.{total}
use Rattle.pyd_tree.specs.declared.statement.Block.{Block}
use Rattle.pyd_tree.specs.declared.statement.Arm.{Arm}
use Rattle.pyd_tree.specs.declared.statement.Stmt.{Stmt}
use Rattle.pyd_tree.specs.declared.statement.What.{What}
use Rattle.pyd_tree.specs.declared.statement.What.TheOpen.{What-F, Arm-F, Block-F, Stmt-F}
use Rattle.pyd_tree.specs.declared.statement.What.TheViews.{roll-What, roll-Arm, roll-Block, roll-Stmt}
use Rattle.pyd_tree.specs.declared.statement.What.TheFolds.{map-What, map-Arm, map-Block, map-Stmt, fold-roll-What, fold-roll-Arm, fold-roll-Block, fold-roll-Stmt, ind-Block, ind-Stmt}
use Rattle.pyd_names.specs.declared.binding.Binding.{Binding}
use Rattle.pyd_names.specs.Binding.{bound_in, joined, what_binds, arm_binds, block_binds, statement_binds, bindings, what_bindings, arm_bindings, statement_bindings}
use Rattle.pyd_names.specs.WellFormed.{expression_parts, count_what, count_arm, count_block, count_statement, what_parts, arm_parts, block_parts, statement_parts}

-- what a statement does binds no more names than it has parts
FewInWhat : What → Type 0
FewInWhat w = (line : ℕ) → length (what_bindings w line) ≤ what_parts w

-- so does an arm
FewInArm : Arm → Type 0
FewInArm a = length (arm_bindings a) ≤ arm_parts a

-- so does a suite
FewInBlock : Block → Type 0
FewInBlock b = length (bindings b) ≤ block_parts b

-- so does a statement
FewInStmt : Stmt → Type 0
FewInStmt s = length (statement_bindings s) ≤ statement_parts s

-- what a statement does, its parts being such
abbrev Layer : Type 0
Layer = What-F ((w : What) × FewInWhat w) ((a : Arm) × FewInArm a) ((b : Block) × FewInBlock b) ((s : Stmt) × FewInStmt s)

-- the bindings of some parts
few_in_all : {X : Type 0} (f : X → List Binding) (n : X → ℕ) (es : List ((x : X) × (length (f x) ≤ n x)))
    → length (joined (map f (map (λ e. e.0) es))) ≤ total (map n (map (λ e. e.0) es))
few_in_all f n [] = omega arith
few_in_all f n (e ∷ es) =
    let rest : length (joined (map f (map (λ e. e.0) es))) ≤ total (map n (map (λ e. e.0) es)) = few_in_all f n es in
    let both : length (f e.0 ++ joined (map f (map (λ e. e.0) es))) ≡ length (f e.0) + length (joined (map f (map (λ e. e.0) es))) =
    length-append (f e.0) (joined (map f (map (λ e. e.0) es))) in
    let one : length (f e.0) ≤ n e.0 = e.1 in
    omega arith

-- how many names a suite binds, and how many parts it has
block_bindings : (x : Block-F What Arm Block Stmt) → length (bindings (roll-Block x)) ≡ length (joined (map statement_bindings x.stmts))
block_bindings x =
    ap (λ (bs : List Binding). length bs) (fold-roll-Block (ℕ → List Binding) (List Binding) (List Binding) (List Binding) what_binds arm_binds block_binds statement_binds x)

block_counts : (x : Block-F What Arm Block Stmt) → block_parts (roll-Block x) ≡ total (map statement_parts x.stmts)
block_counts x = fold-roll-Block ℕ ℕ ℕ ℕ count_what count_arm count_block count_statement x

statement_bindings_are : (x : Stmt-F What Arm Block Stmt) → length (statement_bindings (roll-Stmt x)) ≡ length (what_bindings x.what x.line)
statement_bindings_are x =
    ap (λ (bs : List Binding). length bs) (fold-roll-Stmt (ℕ → List Binding) (List Binding) (List Binding) (List Binding) what_binds arm_binds block_binds statement_binds x)

statement_counts : (x : Stmt-F What Arm Block Stmt) → statement_parts (roll-Stmt x) ≡ 1 + what_parts x.what
statement_counts x = fold-roll-Stmt ℕ ℕ ℕ ℕ count_what count_arm count_block count_statement x

arm_bindings_are : (x : Arm-F What Arm Block Stmt) → length (arm_bindings (roll-Arm x)) ≡ length (bindings x.body)
arm_bindings_are x =
    ap (λ (bs : List Binding). length bs) (fold-roll-Arm (ℕ → List Binding) (List Binding) (List Binding) (List Binding) what_binds arm_binds block_binds statement_binds x)

arm_counts : (x : Arm-F What Arm Block Stmt) → arm_parts (roll-Arm x) ≡ 1 + (expression_parts x.test + block_parts x.body)
arm_counts x = fold-roll-Arm ℕ ℕ ℕ ℕ count_what count_arm count_block count_statement x

what_bindings_are : (x : What-F What Arm Block Stmt) (line : ℕ)
    → length (what_bindings (roll-What x) line) ≡ length (what_binds (map-What What Arm Block Stmt _ _ _ _ what_bindings arm_bindings bindings statement_bindings x) line)
what_bindings_are x line =
    ap (λ (f : ℕ → List Binding). length (f line)) (fold-roll-What (ℕ → List Binding) (List Binding) (List Binding) (List Binding) what_binds arm_binds block_binds statement_binds x)

what_counts : (x : What-F What Arm Block Stmt) → what_parts (roll-What x) ≡ count_what (map-What What Arm Block Stmt _ _ _ _ what_parts arm_parts block_parts statement_parts x)
what_counts x = fold-roll-What ℕ ℕ ℕ ℕ count_what count_arm count_block count_statement x

-- the steps of the induction
step_block : (x : Block-F What Arm Block Stmt) (y : Block-F ((w : What) × FewInWhat w) ((a : Arm) × FewInArm a) ((b : Block) × FewInBlock b) ((s : Stmt) × FewInStmt s))
    → map-Block _ _ _ _ What Arm Block Stmt (λ e. e.0) (λ e. e.0) (λ e. e.0) (λ e. e.0) y ≡ x → FewInBlock (roll-Block x)
unfolding FewInWhat FewInArm FewInBlock FewInStmt
step_block x y is =
    let stmts : map (λ e. e.0) y.stmts ≡ x.stmts = ap (λ z. z.stmts) is in
    let few : length (joined (map statement_bindings x.stmts)) ≤ total (map statement_parts x.stmts) =
    subst (λ ss. length (joined (map statement_bindings ss)) ≤ total (map statement_parts ss)) stmts (few_in_all statement_bindings statement_parts y.stmts) in
    let b = block_bindings x in
    let p = block_counts x in
    omega arith

step_stmt : (x : Stmt-F What Arm Block Stmt) (y : Stmt-F ((w : What) × FewInWhat w) ((a : Arm) × FewInArm a) ((b : Block) × FewInBlock b) ((s : Stmt) × FewInStmt s))
    → map-Stmt _ _ _ _ What Arm Block Stmt (λ e. e.0) (λ e. e.0) (λ e. e.0) (λ e. e.0) y ≡ x → FewInStmt (roll-Stmt x)
unfolding FewInWhat FewInArm FewInBlock FewInStmt
step_stmt x y is =
    let what : y.what.0 ≡ x.what = ap (λ z. z.what) is in
    let few : length (what_bindings x.what x.line) ≤ what_parts x.what = subst FewInWhat what y.what.1 x.line in
    let b = statement_bindings_are x in
    let p = statement_counts x in
    omega arith

step_arm : (x : Arm-F What Arm Block Stmt) (y : Arm-F ((w : What) × FewInWhat w) ((a : Arm) × FewInArm a) ((b : Block) × FewInBlock b) ((s : Stmt) × FewInStmt s))
    → map-Arm _ _ _ _ What Arm Block Stmt (λ e. e.0) (λ e. e.0) (λ e. e.0) (λ e. e.0) y ≡ x → FewInArm (roll-Arm x)
unfolding FewInWhat FewInArm FewInBlock FewInStmt
step_arm x y is =
    let body : y.body.0 ≡ x.body = ap (λ z. z.body) is in
    let few : length (bindings x.body) ≤ block_parts x.body = subst FewInBlock body y.body.1 in
    let b = arm_bindings_are x in
    let p = arm_counts x in
    omega arith

-- the layer itself
abbrev opened : Layer → What-F What Arm Block Stmt
opened y = map-What _ _ _ _ What Arm Block Stmt (λ e. e.0) (λ e. e.0) (λ e. e.0) (λ e. e.0) y

layer : (y : Layer) (line : ℕ)
    → length (what_bindings (roll-What (opened y)) line) ≤ what_parts (roll-What (opened y))
unfolding FewInWhat FewInArm FewInBlock FewInStmt
layer (What-F.Expr e) line = let b = what_bindings_are (What-F.Expr e) line in let p = what_counts (What-F.Expr e) in omega arith
layer (What-F.Assign to e) line =
    let b = what_bindings_are (What-F.Assign to e) line in
    let p = what_counts (What-F.Assign to e) in
    let n : length (map (bound_in line) to.names) ≡ length to.names = length-map to.names (bound_in line) in
    omega arith
layer (What-F.Aug name op e) line = let b = what_bindings_are (What-F.Aug name op e) line in let p = what_counts (What-F.Aug name op e) in omega arith
layer (What-F.If arms None) line =
    let b : length (what_bindings (roll-What (opened (What-F.If arms None))) line) ≡ length (joined (map arm_bindings (map (λ e. e.0) arms)) ++ []) =
    what_bindings_are (opened (What-F.If arms None)) line in
    let p : what_parts (roll-What (opened (What-F.If arms None))) ≡ total (map arm_parts (map (λ e. e.0) arms)) + 0 = what_counts (opened (What-F.If arms None)) in
    let both = length-append (joined (map arm_bindings (map (λ e. e.0) arms))) [] in
    let each = few_in_all arm_bindings arm_parts arms in
    omega arith
layer (What-F.If arms (Some last)) line =
    let b : length (what_bindings (roll-What (opened (What-F.If arms (Some last)))) line) ≡ length (joined (map arm_bindings (map (λ e. e.0) arms)) ++ bindings last.0) =
    what_bindings_are (opened (What-F.If arms (Some last))) line in
    let p : what_parts (roll-What (opened (What-F.If arms (Some last)))) ≡ total (map arm_parts (map (λ e. e.0) arms)) + block_parts last.0 =
    what_counts (opened (What-F.If arms (Some last))) in
    let both = length-append (joined (map arm_bindings (map (λ e. e.0) arms))) (bindings last.0) in
    let each = few_in_all arm_bindings arm_parts arms in
    let few : length (bindings last.0) ≤ block_parts last.0 = last.1 in
    omega arith
layer (What-F.While test body) line =
    let b = what_bindings_are (What-F.While test body.0) line in let p = what_counts (What-F.While test body.0) in
    let few : length (bindings body.0) ≤ block_parts body.0 = body.1 in omega arith
layer (What-F.For to over body) line =
    let b = what_bindings_are (What-F.For to over body.0) line in
    let p = what_counts (What-F.For to over body.0) in
    let n : length (map (bound_in line) to.names) ≡ length to.names = length-map to.names (bound_in line) in
    let both : length (map (bound_in line) to.names ++ bindings body.0) ≡ length (map (bound_in line) to.names) + length (bindings body.0) =
    length-append (map (bound_in line) to.names) (bindings body.0) in
    let few : length (bindings body.0) ≤ block_parts body.0 = body.1 in
    omega arith
layer (What-F.Return e) line = let b = what_bindings_are (What-F.Return e) line in omega arith
layer What-F.Break line = let b = what_bindings_are What-F.Break line in omega arith
layer What-F.Continue line = let b = what_bindings_are What-F.Continue line in omega arith
layer What-F.Pass line = let b = what_bindings_are What-F.Pass line in omega arith
layer (What-F.Assert test message) line = let b = what_bindings_are (What-F.Assert test message) line in omega arith

step_what : (x : What-F What Arm Block Stmt) (y : Layer) → opened y ≡ x → FewInWhat (roll-What x)
unfolding FewInWhat FewInArm FewInBlock FewInStmt
step_what x y is = subst (λ z. FewInWhat (roll-What z)) is (layer y)

-- a suite binds no more names than it has parts
pub block_within : (b : Block) → length (bindings b) ≤ block_parts b
unfolding FewInWhat FewInArm FewInBlock FewInStmt
block_within = ind-Block FewInWhat FewInArm FewInBlock FewInStmt step_what step_arm step_block step_stmt

-- nor does a statement
pub statement_within : (s : Stmt) → length (statement_bindings s) ≤ statement_parts s
unfolding FewInWhat FewInArm FewInBlock FewInStmt
statement_within = ind-Stmt FewInWhat FewInArm FewInBlock FewInStmt step_what step_arm step_block step_stmt
