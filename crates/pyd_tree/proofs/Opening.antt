-- What a variant opens as.
use Rattle.std.proofs.Common.{◌≡◌, ℕ, List, ap, sym, ◌∙◌}
use Rattle.pyd_value.specs.declared.value.Value.{Value}
use Rattle.pyd_value.specs.declared.operator.BinOp.{BinOp}
use Rattle.pyd_tree.specs.declared.expression.Expr.{Expr, out-Expr}
use Rattle.pyd_tree.specs.declared.expression.Expr.TheOpen.{Expr-F}
use Rattle.pyd_tree.specs.declared.expression.Expr.TheVariants as expression
use Rattle.pyd_tree.specs.declared.expression.Expr.TheViews.{out-roll-Expr}
use Rattle.pyd_tree.specs.declared.statement.What.{What, out-What}
use Rattle.pyd_tree.specs.declared.statement.What.TheOpen.{What-F}
use Rattle.pyd_tree.specs.declared.statement.What.TheVariants as what
use Rattle.pyd_tree.specs.declared.statement.What.TheViews.{out-roll-What}

pub opens_chain : (e first : Expr) (links : List (BinOp × Expr)) → e ≡ expression.Chain first links → out-Expr e ≡ Expr-F.Chain first links
opens_chain e first links is = ap out-Expr (is ∙ sym (expression.rolls-Chain first links)) ∙ out-roll-Expr _

pub opens_call : (e : Expr) (name : List ℕ) (args : List Expr) → e ≡ expression.Call name args → out-Expr e ≡ Expr-F.Call name args
opens_call e name args is = ap out-Expr (is ∙ sym (expression.rolls-Call name args)) ∙ out-roll-Expr _

pub opens_expression : (w : What) (e : Expr) → w ≡ what.Expr e → out-What w ≡ What-F.Expr e
opens_expression w e is = ap out-What (is ∙ sym (what.rolls-Expr e)) ∙ out-roll-What _

pub opens_literal : (v : Value) → out-Expr (expression.Lit v) ≡ Expr-F.Lit v
opens_literal v = ap out-Expr (sym (expression.rolls-Lit v)) ∙ out-roll-Expr _
