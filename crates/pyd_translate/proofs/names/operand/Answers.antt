use Rattle.pyd_translate.proofs.Operands.{known_operand, port_operand}
use Rattle.pyd_translate.proofs.names.operand.Goals as goal

pub returns-in_ok-try_copy-in-Known : goal.returns-in_ok-try_copy-in-Known
returns-in_ok-try_copy-in-Known c = known_operand _ _ _ _ _ _ c.in-Known.is c.in_ok-try_copy-in-Known.ensures

pub returns-in-From : goal.returns-in-From
returns-in-From c = port_operand _ _ _ _ _ c.in-From.is
