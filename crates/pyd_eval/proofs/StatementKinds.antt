-- Statements by their kinds: what they do and which names they bind.
use Rattle.std.proofs.Common.{◌≡◌, ℕ, List, [], ◌∷◌, ◌++◌, map, refl, sym, ap, ◌∙◌}
use Rattle.std.specs.List.{flat_map}
use Rattle.std.specs.Prelude.{Option}
use Rattle.pyd_value.specs.declared.value.Value.{Value}
use Rattle.pyd_tree.specs.declared.expression.Expr.{Expr}
use Rattle.pyd_tree.specs.declared.statement.Block.{Block}
use Rattle.pyd_tree.specs.declared.statement.Arm.{Arm}
use Rattle.pyd_tree.specs.declared.statement.Stmt.{Stmt}
use Rattle.pyd_tree.specs.declared.statement.Targets.{Targets}
use Rattle.pyd_tree.specs.declared.statement.What.{What}
use Rattle.pyd_tree.specs.declared.statement.What.TheVariants as what
use Rattle.pyd_value.specs.declared.operator.BinOp.{BinOp}
use Rattle.pyd_names.specs.Binding.{names_of, bound_in, bindings, statement_bindings, what_bindings, arm_bindings, otherwise_bindings}
use Rattle.pyd_names.proofs.Bound.{by_kind}
use Rattle.pyd_meaning.specs.Outcome.{outcome}
use Rattle.pyd_meaning.specs.Statement.{what_action}
use Rattle.pyd_meaning.proofs.Sequencing.{outcome-step}
use Rattle.pyd_meaning.proofs.Statements.{statement}
use Rattle.pyd_eval.specs.declared.activation.Activation.{Activation}
use Rattle.pyd_eval.specs.Frames.{setting, execution, names_of as bound_names}
use Rattle.pyd_eval.specs.Steps.{does_what}

-- a statement does what its kind does
pub does_kind : (on : Activation) (s : Stmt) (w : What) (slots : List (Option Value)) (old : List (List ℕ)) → s.what ≡ w
    → outcome old (execution on s slots) ≡ outcome old (does_what on w s.line slots)
does_kind on s w slots old is =
    ap (outcome old) (statement (setting on) s (bound_names on slots)) ∙ outcome-step old _
    ∙ ap (λ x. outcome old (what_action (setting on) x s.line (bound_names on slots))) is

-- the names that are bound in a line
named_bound : (line : ℕ) (ns : List (List ℕ)) → names_of (map (bound_in line) ns) ≡ ns
named_bound line [] = refl
named_bound line (n ∷ ns) = ap (λ ms. n ∷ ms) (named_bound line ns)

-- what a statement binds goes by its kind
kind_binds : (s : Stmt) (w : What) → s.what ≡ w → statement_bindings s ≡ what_bindings w s.line
kind_binds s w is = by_kind.statement s ∙ ap (λ x. what_bindings x s.line) is

-- an assignment binds its targets
pub assign_binds : (s : Stmt) (to : Targets) (e : Expr) → s.what ≡ what.Assign to e → names_of (statement_bindings s) ≡ to.names
assign_binds s to e is = ap names_of (kind_binds s (what.Assign to e) is ∙ by_kind.assignment to e s.line) ∙ named_bound s.line to.names

-- an augmented assignment binds its name
pub augmented_binds : (s : Stmt) (n : List ℕ) (op : BinOp) (e : Expr) → s.what ≡ what.Aug n op e → names_of (statement_bindings s) ≡ n ∷ []
augmented_binds s n op e is = ap names_of (kind_binds s (what.Aug n op e) is ∙ by_kind.augmented n op e s.line)

-- an `if` binds what its arms and its `else` bind
pub if_binds : (s : Stmt) (choices : List Arm) (last : Option Block) → s.what ≡ what.If choices last
    → names_of (statement_bindings s) ≡ names_of (flat_map arm_bindings choices ++ otherwise_bindings last)
if_binds s choices last is = ap names_of (kind_binds s (what.If choices last) is ∙ by_kind.choice choices last s.line)

-- a `while` binds what its suite binds
pub while_binds : (s : Stmt) (test : Expr) (body : Block) → s.what ≡ what.While test body → names_of (statement_bindings s) ≡ names_of (bindings body)
while_binds s test body is = ap names_of (kind_binds s (what.While test body) is ∙ by_kind.while test body s.line)

-- a `for` binds its targets and what its suite binds
pub for_binds : (s : Stmt) (to : Targets) (over : Expr) (body : Block) → s.what ≡ what.For to over body
    → names_of (statement_bindings s) ≡ names_of (map (bound_in s.line) to.names ++ bindings body)
for_binds s to over body is = ap names_of (kind_binds s (what.For to over body) is ∙ by_kind.for to over body s.line)

-- the names of targets in a line
pub targets_names : (line : ℕ) (to : Targets) → names_of (map (bound_in line) to.names) ≡ to.names
targets_names line to = named_bound line to.names
