use Rattle.pyd_translate.proofs.Settings.{expression_past}
use Rattle.pyd_translate.proofs.setting.past_expression.Goals as goal

pub returns : goal.returns
returns c =
    expression_past c.args.e.now c.args.point.statement c.args.point.expression c.in_ok-expression.expression c.in_ok-expression.ensures
