use Rattle.std.proofs.Common.{sym, ap, ◌∙◌}
use Rattle.pyd_tree.specs.declared.statement.What.{out-What}
use Rattle.pyd_tree.specs.declared.statement.What.TheOpen.{What-F}
use Rattle.pyd_tree.specs.declared.statement.What.TheVariants as what
use Rattle.pyd_tree.specs.declared.statement.What.TheViews.{out-roll-What}
use Rattle.pyd_translate.specs.declared.composite.Composite.TheVariants.{While, For}
use Rattle.pyd_translate.specs.Flows.{sequel_of, statement_at, expression_at, returned_at, if_at, headed_at}
use Rattle.pyd_translate.proofs.StatementFlows.{flows_so, level, level_flows, bound_flows}
use Rattle.pyd_translate.proofs.statements.build_statement.Goals as goal

pub returns-in-Expr : goal.returns-in-Expr
returns-in-Expr c =
    flows_so _ _ _ _ _ c.args.at.now.rest.now _ (expression_at c.args.at.now c.in-Expr.e c.args.env.now.items) (statement_at c.args.at.now c.args.what.now c.args.env.now.items)
    (level c.args.at.now c.args.what.now (What-F.Expr c.in-Expr.e) c.args.env.now.items (ap out-What (c.in-Expr.is ∙ sym (what.rolls-Expr c.in-Expr.e)) ∙ out-roll-What (What-F.Expr c.in-Expr.e)))
    (rw c.as_slice.ensures.value at c.build_expression.ensures)

pub returns-in_ok-build_assign-in-Assign : goal.returns-in_ok-build_assign-in-Assign
returns-in_ok-build_assign-in-Assign c =
    λ leave next. level_flows c.args.at.now c.args.env.now.items (sequel_of c.args.at.now.rest.now leave next) c.args.what.now (What-F.Assign c.in-Assign.targets c.in-Assign.e) c.args.draft.now.nodes c.args.draft.now.next
    (ap out-What (c.in-Assign.is ∙ sym (what.rolls-Assign c.in-Assign.targets c.in-Assign.e)) ∙ out-roll-What (What-F.Assign c.in-Assign.targets c.in-Assign.e))
    ∙ bound_flows leave next c.args.at.now.rest.now _ _ _ _ _ _ _ c.going.ensures c.in_ok-build_assign-in-Assign.ensures

pub returns-in_ok-build_augmented-in-Aug : goal.returns-in_ok-build_augmented-in-Aug
returns-in_ok-build_augmented-in-Aug c =
    λ leave next. level_flows c.args.at.now c.args.env.now.items (sequel_of c.args.at.now.rest.now leave next) c.args.what.now (What-F.Aug c.in-Aug.name c.in-Aug.op c.in-Aug.e) c.args.draft.now.nodes c.args.draft.now.next
    (ap out-What (c.in-Aug.is ∙ sym (what.rolls-Aug c.in-Aug.name c.in-Aug.op c.in-Aug.e)) ∙ out-roll-What (What-F.Aug c.in-Aug.name c.in-Aug.op c.in-Aug.e))
    ∙ bound_flows leave next c.args.at.now.rest.now _ _ _ _ _ _ _ c.going-in-Aug.ensures c.in_ok-build_augmented-in-Aug.ensures

pub returns-in-If : goal.returns-in-If
returns-in-If c =
    flows_so _ _ _ _ _ c.args.at.now.rest.now _ (if_at c.args.at.now c.in-If.arms c.args.env.now.items) (statement_at c.args.at.now c.args.what.now c.args.env.now.items)
    (level c.args.at.now c.args.what.now (What-F.If c.in-If.arms c.in-If._otherwise) c.args.env.now.items (ap out-What (c.in-If.is ∙ sym (what.rolls-If c.in-If.arms c.in-If._otherwise)) ∙ out-roll-What (What-F.If c.in-If.arms c.in-If._otherwise)))
    (rw c.as_slice-in-If.ensures at c.build_if.ensures)

pub returns-in-While : goal.returns-in-While
returns-in-While c =
    flows_so _ _ _ _ _ c.args.at.now.rest.now _ (headed_at c.args.at.now (While 0) c.in-While.test c.args.env.now.items) (statement_at c.args.at.now c.args.what.now c.args.env.now.items)
    (level c.args.at.now c.args.what.now (What-F.While c.in-While.test c.in-While._body) c.args.env.now.items (ap out-What (c.in-While.is ∙ sym (what.rolls-While c.in-While.test c.in-While._body)) ∙ out-roll-What (What-F.While c.in-While.test c.in-While._body)))
    c.build_headed.ensures

pub returns-in-For : goal.returns-in-For
returns-in-For c =
    flows_so _ _ _ _ _ c.args.at.now.rest.now _ (headed_at c.args.at.now (For 0) c.in-For.e c.args.env.now.items) (statement_at c.args.at.now c.args.what.now c.args.env.now.items)
    (level c.args.at.now c.args.what.now (What-F.For c.in-For._targets c.in-For.e c.in-For._body) c.args.env.now.items (ap out-What (c.in-For.is ∙ sym (what.rolls-For c.in-For._targets c.in-For.e c.in-For._body)) ∙ out-roll-What (What-F.For c.in-For._targets c.in-For.e c.in-For._body)))
    c.build_headed-in-For.ensures

pub returns-in-Return : goal.returns-in-Return
returns-in-Return c =
    flows_so _ _ _ _ _ c.args.at.now.rest.now _ (returned_at c.args.at.now c.in-Return.e c.args.env.now.items) (statement_at c.args.at.now c.args.what.now c.args.env.now.items)
    (level c.args.at.now c.args.what.now (What-F.Return c.in-Return.e) c.args.env.now.items (ap out-What (c.in-Return.is ∙ sym (what.rolls-Return c.in-Return.e)) ∙ out-roll-What (What-F.Return c.in-Return.e)))
    (rw c.as_slice-in-Return.ensures.value at c.build_return.ensures)

pub returns-in-Break : goal.returns-in-Break
returns-in-Break c =
    λ leave next. level_flows c.args.at.now c.args.env.now.items (sequel_of c.args.at.now.rest.now leave next) c.args.what.now What-F.Break c.args.draft.now.nodes c.args.draft.now.next
    (ap out-What (c.in-Break.is ∙ sym what.rolls-Break) ∙ out-roll-What What-F.Break)

pub returns-in-Continue : goal.returns-in-Continue
returns-in-Continue c =
    λ leave next. level_flows c.args.at.now c.args.env.now.items (sequel_of c.args.at.now.rest.now leave next) c.args.what.now What-F.Continue c.args.draft.now.nodes c.args.draft.now.next
    (ap out-What (c.in-Continue.is ∙ sym what.rolls-Continue) ∙ out-roll-What What-F.Continue)

pub returns-in-Pass : goal.returns-in-Pass
returns-in-Pass c =
    λ leave next. level_flows c.args.at.now c.args.env.now.items (sequel_of c.args.at.now.rest.now leave next) c.args.what.now What-F.Pass c.args.draft.now.nodes c.args.draft.now.next
    (ap out-What (c.in-Pass.is ∙ sym what.rolls-Pass) ∙ out-roll-What What-F.Pass)

pub returns-in_ok-build_assert-in-Assert : goal.returns-in_ok-build_assert-in-Assert
returns-in_ok-build_assert-in-Assert c =
    λ leave next. level_flows c.args.at.now c.args.env.now.items (sequel_of c.args.at.now.rest.now leave next) c.args.what.now (What-F.Assert c.in-Assert.test c.in-Assert.message) c.args.draft.now.nodes c.args.draft.now.next
    (ap out-What (c.in-Assert.is ∙ sym (what.rolls-Assert c.in-Assert.test c.in-Assert.message)) ∙ out-roll-What (What-F.Assert c.in-Assert.test c.in-Assert.message))
    ∙ bound_flows leave next c.args.at.now.rest.now _ _ _ _ _ _ _ c.going-in-Assert.ensures (rw c.as_slice-in-Assert.ensures.value at c.in_ok-build_assert-in-Assert.ensures)
