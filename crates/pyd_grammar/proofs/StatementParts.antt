-- What is known of each kind of statement: its parts, and whether it is well formed.
use Rattle.std.proofs.Common.{◌≡◌, ℕ, ◌+◌, List, ◌∷◌, length, map, Option, Bool, true, ◌&&◌, rules}
use Rattle.std.specs.Prelude.{option_map}
use Rattle.pyd_value.specs.Size.{total}
use Rattle.pyd_value.specs.declared.operator.BinOp.{BinOp}
use Rattle.pyd_tree.specs.declared.expression.Expr.{Expr}
use Rattle.pyd_tree.specs.declared.statement.Targets.{Targets}
use Rattle.pyd_tree.specs.declared.statement.What.{What, fold-What, the_lemmas}
use Rattle.pyd_tree.specs.declared.statement.What.TheVariants as what
use Rattle.pyd_tree.specs.declared.statement.Block.{Block, roll-Block}
use Rattle.pyd_tree.specs.declared.statement.Stmt.{Stmt}
use Rattle.pyd_tree.specs.declared.statement.Arm.{Arm, roll-Arm, fold-Arm}
use Rattle.pyd_names.specs.WellFormed.{expression_parts, or_zero, is_formed_expression, all_hold, or_true, count_what, count_arm, count_block, count_statement, form_what, form_arm, form_block, form_statement, block_parts, statement_parts, is_formed_block, is_formed_statement, maybe_parts, is_formed_maybe, formed_targets}

-- the parts of what a statement does
abbrev pub what_parts : What → ℕ
what_parts = fold-What ℕ ℕ ℕ ℕ count_what count_arm count_block count_statement

-- the parts of an arm
abbrev pub arm_parts : Arm → ℕ
arm_parts = fold-Arm ℕ ℕ ℕ ℕ count_what count_arm count_block count_statement

-- whether what a statement does is well formed
abbrev pub is_formed_what : What → Bool
is_formed_what = fold-What Bool Bool Bool Bool form_what form_arm form_block form_statement

-- whether an arm is well formed
abbrev pub is_formed_arm : Arm → Bool
is_formed_arm = fold-Arm Bool Bool Bool Bool form_what form_arm form_block form_statement

pub stmt_parts : (line : ℕ) (w : What) → let s : Stmt = record { line = line; what = w } in statement_parts s ≡ 1 + what_parts w
stmt_parts line w = search (rules, the_lemmas)

pub stmt_formed : (line : ℕ) (w : What) → let s : Stmt = record { line = line; what = w } in is_formed_statement s ≡ is_formed_what w
stmt_formed line w = search (rules, the_lemmas)

pub block_is : (ss : List Stmt) → block_parts (roll-Block (record { stmts = ss })) ≡ total (map statement_parts ss)
block_is ss = search (rules, the_lemmas)

pub block_formed : (s : Stmt) (ss : List Stmt) → is_formed_block (roll-Block (record { stmts = s ∷ ss })) ≡ all_hold (map is_formed_statement (s ∷ ss))
block_formed s ss = search (rules, the_lemmas)

pub arm_is : (line : ℕ) (e : Expr) (b : Block) → arm_parts (roll-Arm (record { line = line; test = e; body = b })) ≡ 1 + (expression_parts e + block_parts b)
arm_is line e b = search (rules, the_lemmas)

pub arm_formed : (line : ℕ) (e : Expr) (b : Block) → is_formed_arm (roll-Arm (record { line = line; test = e; body = b })) ≡ (is_formed_expression e && is_formed_block b)
arm_formed line e b = search (rules, the_lemmas)

pub if_parts : (arms : List Arm) (b : Option Block) → what_parts (what.If arms b) ≡ total (map arm_parts arms) + or_zero (option_map block_parts b)
if_parts arms b = search (rules, the_lemmas)

pub if_formed : (a : Arm) (arms : List Arm) (b : Option Block) → is_formed_what (what.If (a ∷ arms) b) ≡ (all_hold (map is_formed_arm (a ∷ arms)) && or_true (option_map is_formed_block b))
if_formed a arms b = search (rules, the_lemmas)

pub while_parts : (e : Expr) (b : Block) → what_parts (what.While e b) ≡ expression_parts e + block_parts b
while_parts e b = search (rules, the_lemmas)

pub while_formed : (e : Expr) (b : Block) → is_formed_what (what.While e b) ≡ (is_formed_expression e && is_formed_block b)
while_formed e b = search (rules, the_lemmas)

pub for_parts : (t : Targets) (e : Expr) (b : Block) → what_parts (what.For t e b) ≡ length t.names + (expression_parts e + block_parts b)
for_parts t e b = search (rules, the_lemmas)

pub for_formed : (t : Targets) (e : Expr) (b : Block) → is_formed_what (what.For t e b) ≡ (formed_targets t.tuple t.names && (is_formed_expression e && is_formed_block b))
for_formed t e b = search (rules, the_lemmas)

pub expression_is : (e : Expr) → what_parts (what.Expr e) ≡ expression_parts e
expression_is e = search (rules, the_lemmas)

pub expression_formed : (e : Expr) → is_formed_what (what.Expr e) ≡ is_formed_expression e
expression_formed e = search (rules, the_lemmas)

pub assign_parts : (t : Targets) (e : Expr) → what_parts (what.Assign t e) ≡ length t.names + expression_parts e
assign_parts t e = search (rules, the_lemmas)

pub assign_formed : (t : Targets) (e : Expr) → is_formed_what (what.Assign t e) ≡ (formed_targets t.tuple t.names && is_formed_expression e)
assign_formed t e = search (rules, the_lemmas)

pub aug_parts : (n : List ℕ) (op : BinOp) (e : Expr) → what_parts (what.Aug n op e) ≡ 1 + expression_parts e
aug_parts n op e = search (rules, the_lemmas)

pub aug_formed : (n : List ℕ) (op : BinOp) (e : Expr) → is_formed_what (what.Aug n op e) ≡ is_formed_expression e
aug_formed n op e = search (rules, the_lemmas)

pub return_parts : (e : Option Expr) → what_parts (what.Return e) ≡ maybe_parts e
return_parts e = search (rules, the_lemmas)

pub return_formed : (e : Option Expr) → is_formed_what (what.Return e) ≡ is_formed_maybe e
return_formed e = search (rules, the_lemmas)

pub assert_parts : (e : Expr) (m : Option Expr) → what_parts (what.Assert e m) ≡ expression_parts e + maybe_parts m
assert_parts e m = search (rules, the_lemmas)

pub assert_formed : (e : Expr) (m : Option Expr) → is_formed_what (what.Assert e m) ≡ (is_formed_expression e && is_formed_maybe m)
assert_formed e m = search (rules, the_lemmas)

pub pass_parts : what_parts what.Pass ≡ 0
pass_parts = search (rules, the_lemmas)

pub pass_formed : is_formed_what what.Pass ≡ true
pass_formed = search (rules, the_lemmas)

pub break_parts : what_parts what.Break ≡ 0
break_parts = search (rules, the_lemmas)

pub break_formed : is_formed_what what.Break ≡ true
break_formed = search (rules, the_lemmas)

pub continue_parts : what_parts what.Continue ≡ 0
continue_parts = search (rules, the_lemmas)

pub continue_formed : is_formed_what what.Continue ≡ true
continue_formed = search (rules, the_lemmas)
