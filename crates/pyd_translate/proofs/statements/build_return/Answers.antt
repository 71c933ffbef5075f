use Rattle.std.proofs.Common.{ap, ◌∙◌, Option}
use Rattle.pyd_tree.specs.declared.expression.Expr.{Expr}
use Rattle.pyd_translate.specs.Drafts.{onto}
use Rattle.pyd_translate.specs.Statements.{returned}
use Rattle.pyd_translate.specs.Flows.{file_in, point_of, context_at}
use Rattle.pyd_translate.proofs.StatementFlows.{then_some, then_none}
use Rattle.pyd_translate.proofs.statements.build_return.Goals as goal

pub returns-in-Some-2 : goal.returns-in-Some-2
returns-in-Some-2 c =
    λ leave next. ap (λ (o : Option Expr). onto c.args.draft.now.nodes (returned (file_in c.args.at.now.setting) o (point_of c.args.at.now.point) (context_at c.args.at.now c.args.env.now) c.args.draft.now.next)) c.in-Some.is
    ∙ then_some _ _ _ _ _ _ _ _ (rw c.in-Some-2.is at c.in_ok-value-in-Some.ensures)

pub returns-in-None-2 : goal.returns-in-None-2
returns-in-None-2 c =
    λ leave next. ap (λ (o : Option Expr). onto c.args.draft.now.nodes (returned (file_in c.args.at.now.setting) o (point_of c.args.at.now.point) (context_at c.args.at.now c.args.env.now) c.args.draft.now.next)) c.in-Some.is
    ∙ then_none _ _ _ _ _ _ _ (rw c.in-None-2.is at c.in_ok-value-in-Some.ensures)

pub returns-in-None : goal.returns-in-None
returns-in-None c =
    λ leave next. ap (λ (o : Option Expr). onto c.args.draft.now.nodes (returned (file_in c.args.at.now.setting) o (point_of c.args.at.now.point) (context_at c.args.at.now c.args.env.now) c.args.draft.now.next)) c.in-None.is
