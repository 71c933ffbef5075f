use Rattle.pyd_trace.proofs.Digits.{one_decimal}
use Rattle.pyd_trace.proofs.laws.a_number_has_one_spelling.Goals as goal

pub returns : goal.returns
returns c = one_decimal
