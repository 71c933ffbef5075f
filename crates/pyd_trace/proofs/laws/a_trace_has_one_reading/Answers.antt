use Rattle.pyd_trace.proofs.Lines.{one_trace}
use Rattle.pyd_trace.proofs.laws.a_trace_has_one_reading.Goals as goal

pub returns : goal.returns
returns c = one_trace
