use Rattle.pyd_trace.proofs.Newlines.{one_newline}
use Rattle.pyd_trace.proofs.laws.a_line_has_one_newline.Goals as goal

pub returns : goal.returns
returns c = one_newline
