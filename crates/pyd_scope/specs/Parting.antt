-- The parts of expressions and of statements, by their places.
use Rattle.std.specs.Prelude.{ℕ, List, [], ◌∷◌, map, slice_get, Option, Some, None, option_map, option_to_list}
use Rattle.pyd_tree.specs.declared.expression.Expr.{Expr, out-Expr}
use Rattle.pyd_tree.specs.declared.expression.Expr.TheOpen.{Expr-F, Suffix-F}
use Rattle.pyd_tree.specs.declared.expression.Suffix.{Suffix, out-Suffix}
use Rattle.pyd_tree.specs.declared.statement.What.{What, out-What}
use Rattle.pyd_tree.specs.declared.statement.What.TheOpen.{What-F}
use Rattle.pyd_tree.specs.declared.statement.Arm.{Arm, out-Arm}
use Rattle.pyd_tree.specs.declared.statement.Block.{Block}
use Rattle.pyd_tree.specs.declared.statement.Stmt.{Stmt}

-- the parts of an expression outside brackets, in text order
abbrev pub direct : {A B : Type 0} → Expr-F A B → List A
direct (Expr-F.Lit v) = []
direct (Expr-F.Name name) = []
direct (Expr-F.Tuple members) = members
direct (Expr-F.Unary op operand) = operand ∷ []
direct (Expr-F.Chain first links) = first ∷ map (λ l. l.1) links
direct (Expr-F.Power base exponent) = base ∷ exponent ∷ []
direct (Expr-F.And members) = members
direct (Expr-F.Or members) = members
direct (Expr-F.Compare first links) = first ∷ map (λ l. l.1) links
direct (Expr-F.If test first second) = first ∷ test ∷ second ∷ []
direct (Expr-F.Call name args) = args
direct (Expr-F.Suffixed base suffixes) = base ∷ []

-- the brackets behind an expression
abbrev pub brackets : {A B : Type 0} → Expr-F A B → List B
brackets (Expr-F.Lit v) = []
brackets (Expr-F.Name name) = []
brackets (Expr-F.Tuple members) = []
brackets (Expr-F.Unary op operand) = []
brackets (Expr-F.Chain first links) = []
brackets (Expr-F.Power base exponent) = []
brackets (Expr-F.And members) = []
brackets (Expr-F.Or members) = []
brackets (Expr-F.Compare first links) = []
brackets (Expr-F.If test first second) = []
brackets (Expr-F.Call name args) = []
brackets (Expr-F.Suffixed base suffixes) = suffixes

-- the index or the lower bound in brackets
abbrev pub low_in : {A B : Type 0} → Suffix-F A B → Option A
low_in (Suffix-F.Index index) = Some index
low_in (Suffix-F.Slice low high) = low

-- the upper bound in brackets
abbrev pub high_in : {A B : Type 0} → Suffix-F A B → Option A
high_in (Suffix-F.Index index) = None
high_in (Suffix-F.Slice low high) = high

-- the parts of an expression outside brackets
abbrev pub direct_of : Expr → List Expr
direct_of e = direct (out-Expr e)

-- such a part, by its place
abbrev pub part_at : Expr → ℕ → Option Expr
part_at e at = slice_get (direct_of e) at

-- the brackets behind an expression
abbrev pub suffixes_of : Expr → List Suffix
suffixes_of e = brackets (out-Expr e)

-- the index or the lower bound
abbrev pub low : Suffix → Option Expr
low s = low_in (out-Suffix s)

-- the upper bound
abbrev pub high : Suffix → Option Expr
high s = high_in (out-Suffix s)

-- the test of an arm
abbrev pub test_of : Arm → Expr
test_of a = (out-Arm a).test

-- the suite of an arm
abbrev pub body_of_arm : Arm → Block
body_of_arm a = (out-Arm a).body

-- the expressions in the lines of a statement, in text order
abbrev pub headers : What-F What Arm Block Stmt → List Expr
headers (What-F.Expr e) = e ∷ []
headers (What-F.Assign targets e) = e ∷ []
headers (What-F.Aug name op e) = e ∷ []
headers (What-F.If arms otherwise) = map test_of arms
headers (What-F.While test body) = test ∷ []
headers (What-F.For targets e body) = e ∷ []
headers (What-F.Return e) = option_to_list e
headers What-F.Break = []
headers What-F.Continue = []
headers What-F.Pass = []
headers (What-F.Assert test message) = test ∷ option_to_list message

-- the suite of an arm of an `if`
abbrev pub arm_in : What-F What Arm Block Stmt → ℕ → Option Block
arm_in (What-F.Expr e) arm = None
arm_in (What-F.Assign targets e) arm = None
arm_in (What-F.Aug name op e) arm = None
arm_in (What-F.If arms otherwise) arm = option_map body_of_arm (slice_get arms arm)
arm_in (What-F.While test body) arm = None
arm_in (What-F.For targets e body) arm = None
arm_in (What-F.Return e) arm = None
arm_in What-F.Break arm = None
arm_in What-F.Continue arm = None
arm_in What-F.Pass arm = None
arm_in (What-F.Assert test message) arm = None

-- the suite of an `else`
abbrev pub else_in : What-F What Arm Block Stmt → Option Block
else_in (What-F.Expr e) = None
else_in (What-F.Assign targets e) = None
else_in (What-F.Aug name op e) = None
else_in (What-F.If arms otherwise) = otherwise
else_in (What-F.While test body) = None
else_in (What-F.For targets e body) = None
else_in (What-F.Return e) = None
else_in What-F.Break = None
else_in What-F.Continue = None
else_in What-F.Pass = None
else_in (What-F.Assert test message) = None

-- the suite of a loop
abbrev pub loop_in : What-F What Arm Block Stmt → Option Block
loop_in (What-F.Expr e) = None
loop_in (What-F.Assign targets e) = None
loop_in (What-F.Aug name op e) = None
loop_in (What-F.If arms otherwise) = None
loop_in (What-F.While test body) = Some body
loop_in (What-F.For targets e body) = Some body
loop_in (What-F.Return e) = None
loop_in What-F.Break = None
loop_in What-F.Continue = None
loop_in What-F.Pass = None
loop_in (What-F.Assert test message) = None

-- an expression in the lines of a statement, by its place among them
abbrev pub header_at : Stmt → ℕ → Option Expr
header_at s at = slice_get (headers (out-What s.what)) at

-- the suite of an arm of a statement
abbrev pub arm_suite : Stmt → ℕ → Option Block
arm_suite s arm = arm_in (out-What s.what) arm

-- the suite of its `else`
abbrev pub else_suite : Stmt → Option Block
else_suite s = else_in (out-What s.what)

-- the suite of it as a loop
abbrev pub loop_suite : Stmt → Option Block
loop_suite s = loop_in (out-What s.what)
