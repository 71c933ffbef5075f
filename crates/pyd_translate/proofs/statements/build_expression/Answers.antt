use Rattle.pyd_translate.proofs.StatementFlows.{then_some, then_none}
use Rattle.pyd_translate.proofs.statements.build_expression.Goals as goal

pub returns-in-Some : goal.returns-in-Some
returns-in-Some c =
    λ leave next. then_some _ _ _ _ _ _ _ _ (rw c.in-Some.is at c.in_ok-value.ensures)

pub returns-in-None : goal.returns-in-None
returns-in-None c =
    λ leave next. then_none _ _ _ _ _ _ _ (rw c.in-None.is at c.in_ok-value.ensures)
