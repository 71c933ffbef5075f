-- What each kind of statement binds.
use Rattle.std.proofs.Common.{◌≡◌, ℕ, List, [], ◌∷◌, ◌++◌, map, Option, Some, None, rules}
use Rattle.std.specs.List.{flat_map}
use Rattle.pyd_value.specs.declared.operator.BinOp.{BinOp}
use Rattle.pyd_tree.specs.declared.expression.Expr.{Expr}
use Rattle.pyd_tree.specs.declared.statement.Targets.{Targets}
use Rattle.pyd_tree.specs.declared.statement.Block.{Block, out-Block}
use Rattle.pyd_tree.specs.declared.statement.Arm.{Arm, out-Arm}
use Rattle.pyd_tree.specs.declared.statement.Stmt.{Stmt}
use Rattle.pyd_tree.specs.declared.statement.What.{the_lemmas}
use Rattle.pyd_tree.specs.declared.statement.What.TheVariants as what
use Rattle.pyd_names.specs.Binding.{bindings, statement_bindings, arm_bindings, what_bindings, otherwise_bindings, bound_in}
use Rattle.pyd_names.specs.Laws.{BindingsByKind}
use Rattle.pyd_names.proofs.Lists.{flat_map-map}

expression_binds : (e : Expr) (line : ℕ) → what_bindings (what.Expr e) line ≡ []
expression_binds e line = search (rules, the_lemmas)

assignment_binds : (to : Targets) (e : Expr) (line : ℕ) → what_bindings (what.Assign to e) line ≡ map (bound_in line) to.names
assignment_binds to e line = search (rules, the_lemmas)

augmented_binds : (n : List ℕ) (op : BinOp) (e : Expr) (line : ℕ) → what_bindings (what.Aug n op e) line ≡ bound_in line n ∷ []
augmented_binds n op e line = search (rules, the_lemmas)

while_binds : (test : Expr) (body : Block) (line : ℕ) → what_bindings (what.While test body) line ≡ bindings body
while_binds test body line = search (rules, the_lemmas)

statement_binds : (s : Stmt) → statement_bindings s ≡ what_bindings s.what s.line
statement_binds s = search (rules, the_lemmas)

arm_binds : (a : Arm) → arm_bindings a ≡ bindings (out-Arm a).body
arm_binds a = search (rules, the_lemmas)

pub choice_binds : (arms : List Arm) (otherwise : Option Block) (line : ℕ)
    → what_bindings (what.If arms otherwise) line ≡ flat_map arm_bindings arms ++ otherwise_bindings otherwise
choice_binds arms None line = search (rules, the_lemmas, flat_map-map)
choice_binds arms (Some b) line = search (rules, the_lemmas, flat_map-map)

pub for_binds : (to : Targets) (over : Expr) (body : Block) (line : ℕ)
    → what_bindings (what.For to over body) line ≡ map (bound_in line) to.names ++ bindings body
for_binds to over body line = search (rules, the_lemmas)

pub block_binds : (b : Block) → bindings b ≡ flat_map statement_bindings (out-Block b).stmts
block_binds b = search (rules, the_lemmas, flat_map-map)

pub by_kind : BindingsByKind
by_kind =
    record {
      expression = expression_binds;
      assignment = assignment_binds;
      augmented = augmented_binds;
      choice = choice_binds;
      while = while_binds;
      for = for_binds;
      block = block_binds;
      statement = statement_binds;
      arm = arm_binds;
    }
